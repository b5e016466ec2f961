use Rattle.sparse_poly.specs.Poly.{IsIn}
use Rattle.crew_tests.proofs.problems.poly.Given as goal

abbrev pub invariant-loop-exponents : goal.invariant-loop-exponents
invariant-loop-exponents l = IsIn l.n l.made.items
