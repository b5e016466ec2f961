use Rattle.local_std.proofs.Prefixes.{prefix_more}
use Rattle.local_std.proofs.same.is_same_poly.Goals as goal

pub loop-k-preserved : goal.loop-k-preserved
loop-k-preserved c =
    prefix_more c.args.a.now.terms c.args.b.now.terms c.loop-k.k c.get.result c.get-in-loop-k.result c.loop-k.invariant c.get.ensures c.get-in-loop-k.ensures
    (c.is_same_term.ensures.0 c.if-not-is_same_term.false)
