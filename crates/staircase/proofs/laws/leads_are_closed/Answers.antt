use Rattle.sparse_poly.proofs.Closure.{AllIn-from_All}
use Rattle.sparse_poly.proofs.Leads.{multiple_of_lead, divisor_in_staircase}
use Rattle.staircase.proofs.laws.leads_are_closed.Goals as goal

pub returns-clause-multiples : goal.returns-clause-multiples
returns-clause-multiples c P a m gens l low d x = multiple_of_lead P a m (AllIn-from_All P.n P.gens gens) l low d x

pub returns-clause-divisors : goal.returns-clause-divisors
returns-clause-divisors c P s a m gens x l d h = divisor_in_staircase P s a m (AllIn-from_All P.n P.gens gens) x l d h
