use Rattle.std.proofs.Common.{All}
use Rattle.text_out.specs.Answers.{IsModulo}
use Rattle.room_tests.proofs.texts.basis.Given as goal

abbrev pub invariant-loop-lead : goal.invariant-loop-lead
invariant-loop-lead l = All (IsModulo l.field 2) l.all
