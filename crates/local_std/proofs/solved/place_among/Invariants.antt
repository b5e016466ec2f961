use Rattle.std.proofs.Common.{◌≡◌, All, take}
use Rattle.local_std.specs.Solved.{problem_asked}
use Rattle.local_std.proofs.solved.place_among.Given as goal

abbrev pub invariant-loop-place : goal.invariant-loop-place
invariant-loop-place l = All (λ one. problem_asked one.question ≡ l.problem → ⊥) (take l.place l.solved)
