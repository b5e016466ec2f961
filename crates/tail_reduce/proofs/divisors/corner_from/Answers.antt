use Rattle.std.proofs.Common.{sym, ◌∙◌, arith}
use Rattle.tail_reduce.proofs.Firsts.{corner_down, corner_there}
use Rattle.tail_reduce.proofs.divisors.corner_from.Goals as goal

pub loop-corner-preserved : goal.loop-corner-preserved
loop-corner-preserved c = corner_down c.args.firsts.now c.args.count c.loop-corner.corner (sym c.is_some.ensures ∙ c.if-is_some.true) c.loop-corner.invariant

pub returns-else-is_some : goal.returns-else-is_some
returns-else-is_some c = λ R B L n f.
    corner_there R B c.args.firsts.now c.args.count c.loop-corner.corner L n f c.loop-corner.invariant (λ _. sym c.is_some.ensures ∙ c.if-is_some.false)

pub returns-after-loop-corner : goal.returns-after-loop-corner
returns-after-loop-corner c = λ R B L n f.
    corner_there R B c.args.firsts.now c.args.count c.loop-corner.corner L n f c.loop-corner.invariant (λ l. absurd (omega (arith, l, c.loop-corner-test.false)))
