use Rattle.std.proofs.Common.{◌≡◌, take}
use Rattle.local_order.specs.Order.{compare_ds, compare_last}
use Rattle.local_order.proofs.mono.Mono.cmp_ds.Given as goal

abbrev pub invariant-loop-i : goal.invariant-loop-i
invariant-loop-i l = compare_ds l.self l.other ≡ compare_last (take l.i l.self-inside.exps) (take l.i l.other-inside.exps)
