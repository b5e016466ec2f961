use Rattle.std.proofs.Common.{arith}
use Rattle.sparse_poly.proofs.Closure.{AllIn-from_All}
use Rattle.staircase.proofs.Quotient.{independent, spanning}
use Rattle.staircase.proofs.laws.staircase_is_a_basis.Goals as goal

pub returns-clause-independent : goal.returns-clause-independent
returns-clause-independent c P s f prime x i h made = independent P s f (omega (arith, prime.two_up)) x i h made

pub returns-clause-spanning : goal.returns-clause-spanning
returns-clause-spanning c P G s f prime gens basis x i = spanning P G basis (AllIn-from_All P.n P.gens gens) prime s x f i
