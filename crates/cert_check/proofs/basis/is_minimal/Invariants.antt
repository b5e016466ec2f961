use Rattle.std.proofs.Common.{◌≡◌, ℕ, ◌<◌, false}
use Rattle.mora_law.specs.Ring.{ranks_of_problem}
use Rattle.mora_law.specs.Entries.{basis_of}
use Rattle.mora_law.specs.Basis.{divides_other}
use Rattle.cert_check.proofs.basis.is_minimal.Given as goal

-- no lead so far divides
abbrev pub invariant-loop-j : goal.invariant-loop-j
invariant-loop-j l = (i : ℕ) → i < l.j → divides_other (ranks_of_problem l.problem) (basis_of l.entries) l.k i ≡ false
