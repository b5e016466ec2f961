use Rattle.sparse_poly.proofs.Closure.{AllIn-from_All}
use Rattle.staircase.proofs.Divisors.{leads_by_basis, staircase_by_basis}
use Rattle.staircase.proofs.laws.basis_shows_leads.Goals as goal

pub returns-clause-leads : goal.returns-clause-leads
returns-clause-leads c P G m gens basis l low = leads_by_basis P G basis (AllIn-from_All P.n P.gens gens) m l low

pub returns-clause-staircase : goal.returns-clause-staircase
returns-clause-staircase c P G s m gens basis x l low = staircase_by_basis P G basis (AllIn-from_All P.n P.gens gens) s m x l low
