use Rattle.std.proofs.Common.{◌≡◌, ℕ, ◌<◌, ◌&&◌, eqb, false}
use Rattle.mora_law.specs.Ring.{ranks_of_problem}
use Rattle.mora_law.specs.Entries.{basis_of}
use Rattle.mora_law.specs.Basis.{is_minimal}
use Rattle.cert_check.proofs.basis.minimal_with.Given as goal

-- no place so far has a minimal lead of this rank
abbrev pub invariant-loop-k : goal.invariant-loop-k
invariant-loop-k l = (i : ℕ) → i < l.k → (eqb ((basis_of l.entries).lead i) l.r && is_minimal (ranks_of_problem l.problem) (basis_of l.entries) i) ≡ false
