use Rattle.local_std.proofs.Prefixes.{prefix_more}
use Rattle.local_std.proofs.same.are_same.Goals as goal

pub loop-k-preserved : goal.loop-k-preserved
loop-k-preserved c =
    prefix_more c.args.a.now c.args.b.now c.loop-k.k c.get.result.now c.get-in-loop-k.result.now c.loop-k.invariant c.get.ensures c.get-in-loop-k.ensures
    (c.is_same_poly.ensures.0 c.if-not-is_same_poly.false)
