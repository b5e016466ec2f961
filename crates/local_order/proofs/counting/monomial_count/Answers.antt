use Rattle.std.proofs.Common.{arith}
use Rattle.local_order.proofs.Count.{product_low, count_goes, count_ends}
use Rattle.local_order.proofs.counting.monomial_count.Goals as goal

pub overflow_mul-count : goal.overflow_mul-count
overflow_mul-count c = let l = product_low c.loop-k.k c.args.d c.loop-k.count c.from.result (omega arith) c.requires.low c.from.ensures c.loop-k.invariant in omega (arith, l)

pub loop-k-preserved : goal.loop-k-preserved
loop-k-preserved c = count_goes c.loop-k.k c.args.d c.loop-k.count c.from.result c.from-in-loop-k.result c.from.ensures c.from-in-loop-k.ensures c.loop-k.invariant

pub returns : goal.returns
returns c = count_ends c.args.n c.loop-k.k c.args.d c.loop-k.count (omega arith) c.loop-k.invariant
