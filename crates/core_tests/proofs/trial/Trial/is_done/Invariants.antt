use Rattle.std.proofs.Common.{◌≡◌}
use Rattle.core_tests.proofs.Quiet.{AreShut}
use Rattle.core_tests.proofs.trial.Trial.is_done.Given as goal

abbrev pub invariant-loop-name : goal.invariant-loop-name
invariant-loop-name l = (l.self ≡ l.initial.self) × AreShut l.self l.name
