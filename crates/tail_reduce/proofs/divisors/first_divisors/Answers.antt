use Rattle.std.proofs.Common.{◌+◌, sym, subst, arith}
use Rattle.mora_law.specs.Ring.{ranks_of_problem}
use Rattle.tail_reduce.specs.Divisors.{AreFirsts}
use Rattle.tail_reduce.proofs.Firsts.{firsts_more}
use Rattle.tail_reduce.proofs.divisors.first_divisors.Goals as goal

pub loop-rank-preserved : goal.loop-rank-preserved
loop-rank-preserved c = λ P B h.
    subst (AreFirsts (ranks_of_problem P) B (c.loop-rank.rank + 1)) (sym c.in_ok-push.ensures.items)
    (firsts_more (ranks_of_problem P) B c.loop-rank.rank c.loop-rank.firsts.items c.first_divisor.result (c.first_divisor.ensures P B h) (c.loop-rank.invariant P B h))

pub returns : goal.returns
returns c = λ P B h.
    subst (λ k. AreFirsts (ranks_of_problem P) B k c.loop-rank.firsts.items) (omega (arith, c.loop-rank-test.false, c.loop-rank.auto.rank-end, c.count-rank-end.ensures.value)) (c.loop-rank.invariant P B h)
