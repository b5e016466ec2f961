use Rattle.std.proofs.Common.{◌∙◌, arith}
use Rattle.script_tokens.proofs.Numbers.{value_step}
use Rattle.script_tokens.proofs.words.number_within.Goals as goal

pub loop-b-preserved : goal.loop-b-preserved
loop-b-preserved c = record {
  so_far = value_step c.loop-b.number c.from-in-loop-b.result c.loop-b.b-index _ c.args.digits.now c.loop-b-test.true (c.from-in-loop-b.ensures ∙ c.saturating_sub.ensures) c.loop-b.invariant.so_far;
  low = omega (arith, c.from-in-loop-b.ensures, c.saturating_sub.ensures, c.type_inv.digits c.loop-b.b-index, c.if-number-from.false, c.from.ensures, c.ranges.limit.fits);
}
