use Rattle.std.proofs.Common.{arith}
use Rattle.trunc_row.proofs.Cuts.{cut_all}
use Rattle.trunc_row.proofs.loops.cut.Goals as goal

pub returns : goal.returns
returns c = cut_all c.args.w c.loop-k.k c.args.row.now c.loop-k.row c.loop-k.invariant (omega arith)
