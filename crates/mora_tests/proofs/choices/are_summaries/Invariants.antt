use Rattle.std.proofs.Common.{All, take}
use Rattle.ecart.specs.Choice.{IsSummary}
use Rattle.mora_tests.proofs.choices.are_summaries.Given as goal

abbrev pub invariant-loop-i : goal.invariant-loop-i
invariant-loop-i l = All (IsSummary l.table) (take l.i l.list)
