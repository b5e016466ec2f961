use Rattle.std.proofs.Common.{◌≡◌, All}
use Rattle.sparse_poly.specs.Poly.{Polynomial, IsCanonical, HasDegreeAtMost}
use Rattle.mora_tests.proofs.problems.problem.Given as goal

abbrev pub invariant-loop-terms : goal.invariant-loop-terms
invariant-loop-terms l = All (λ (f : Polynomial). (f.n ≡ l.n) × IsCanonical l.field l.n f.terms × HasDegreeAtMost l.d f.terms) l.made
