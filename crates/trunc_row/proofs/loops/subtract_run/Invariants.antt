use Rattle.trunc_row.specs.Rows.{SubtractsRun}
use Rattle.trunc_row.proofs.loops.subtract_run.Given as goal

abbrev pub invariant-loop-k : goal.invariant-loop-k
invariant-loop-k l = SubtractsRun l.field l.c l.from l.to l.k l.other l.initial.row l.row
