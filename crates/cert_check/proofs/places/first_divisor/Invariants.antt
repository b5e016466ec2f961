use Rattle.std.proofs.Common.{◌≡◌, ◌<◌, ℕ, None}
use Rattle.mora_law.specs.Ring.{ranks_of_problem}
use Rattle.mora_law.specs.Entries.{basis_of}
use Rattle.cert_check.proofs.places.first_divisor.Given as goal

-- none of the leads so far divides
abbrev pub invariant-loop-k : goal.invariant-loop-k
invariant-loop-k l = (j : ℕ) → j < l.k → (ranks_of_problem l.problem).quotient l.r ((basis_of l.entries).lead j) ≡ None
