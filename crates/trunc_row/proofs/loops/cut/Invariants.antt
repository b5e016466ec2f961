use Rattle.trunc_row.proofs.Cuts.{CutTo}
use Rattle.trunc_row.proofs.loops.cut.Given as goal

abbrev pub invariant-loop-k : goal.invariant-loop-k
invariant-loop-k l = CutTo l.w l.k l.initial.row l.row
