use Rattle.std.proofs.Common.{◌≡◌, ◌+◌, ◌*◌, length}
use Rattle.local_order.specs.Count.{monomial_count}
use Rattle.mono_rank.specs.Stored.{HasCounts}
use Rattle.mono_rank.proofs.build.counts_below.Given as goal

abbrev pub invariant-loop-p : goal.invariant-loop-p
invariant-loop-p l = record { long : length l.counts.items ≡ 8 * (l.p + 1); counts : HasCounts l.counts.items }

abbrev pub invariant-loop-i : goal.invariant-loop-i
invariant-loop-i l =
    record {
      long : length l.counts.items ≡ 8 * (l.p + 1) + l.i;
      counts : HasCounts l.counts.items;
      count : l.count ≡ monomial_count l.i l.p;
    }
