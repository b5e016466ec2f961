use Rattle.std.proofs.Common.{◌≤◌, All, take}
use Rattle.mora_tests.proofs.trial.may_follow.Given as goal

abbrev pub invariant-loop-i : goal.invariant-loop-i
invariant-loop-i l = All (λ d. l.corner ≤ d.corner) (take l.i l.reads.list)
