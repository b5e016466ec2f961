use Rattle.std.proofs.Common.{◌≡◌}
use Rattle.local_order.specs.Count.{count_by_products}
use Rattle.local_order.proofs.counting.monomial_count.Given as goal

abbrev pub invariant-loop-k : goal.invariant-loop-k
invariant-loop-k l = l.count ≡ count_by_products l.k l.d
