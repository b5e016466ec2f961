use Rattle.std.proofs.Common.{◌≡◌, ◌+◌, ◌*◌, ◌∷◌, [], ◌++◌, length, suc, ap, sym, ◌∙◌, subst, arith}
use Rattle.std.proofs.lemmas.List.{length-append, get_or_read}
use Rattle.local_order.specs.Count.{monomial_count}
use Rattle.mono_rank.specs.Rank.{fewer}
use Rattle.mono_rank.specs.Stored.{HasCounts}
use Rattle.mono_rank.proofs.Pascal.{pascal, count_low, fewer_low}
use Rattle.mono_rank.proofs.Counts.{counts_more}
use Rattle.mono_rank.proofs.build.counts_below.Goals as goal

pub overflow_add-count : goal.overflow_add-count
overflow_add-count c =
    let at = 8 * c.loop-p.p + c.loop-i.i in
    let there = c.loop-i.invariant.counts c.loop-p.p c.loop-i.i (omega arith) (omega (arith, c.loop-i.invariant.long)) in
    let read : c.index.result.now ≡ fewer (suc c.loop-i.i) c.loop-p.p = get_or_read c.loop-i.counts.items at c.index.result.now (omega (arith, c.loop-i.invariant.long)) c.index.ensures 0 ∙ there in
    omega (arith, read, c.loop-i.invariant.count, count_low c.loop-i.i c.loop-p.p (omega arith) (omega arith), fewer_low (suc c.loop-i.i) c.loop-p.p (omega arith) (omega arith))

pub loop-i-preserved : goal.loop-i-preserved
loop-i-preserved c =
    let i = c.loop-i.i in
    let p = c.loop-p.p in
    let s = c.loop-i.counts.items in
    let there = c.loop-i.invariant.counts p i (omega arith) (omega (arith, c.loop-i.invariant.long)) in
    let read : c.index.result.now ≡ fewer (suc i) p = get_or_read s (8 * p + i) c.index.result.now (omega (arith, c.loop-i.invariant.long)) c.index.ensures 0 ∙ there in
    let count : c.loop-i.count + c.index.result.now ≡ monomial_count (suc i) p = omega (arith, read, c.loop-i.invariant.count, pascal i p) in
    let pushed : c.push.new.self.items ≡ s ++ (c.loop-i.count + c.index.result.now) ∷ [] = c.in_ok-push.ensures.items in
    let next : suc i ≡ i + 1 = omega arith in
    record {
      long = omega (arith, ap length pushed, length-append s ((c.loop-i.count + c.index.result.now) ∷ []), c.loop-i.invariant.long);
      counts = subst HasCounts (sym pushed) (counts_more s p i (c.loop-i.count + c.index.result.now) c.loop-i.invariant.counts c.loop-i.invariant.long (omega arith) count);
      count = count ∙ ap (λ k. monomial_count k p) next;
    }
