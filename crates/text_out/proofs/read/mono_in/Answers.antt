use Rattle.std.proofs.Common.{arith, ◌≤◌, length-set, rules}
use Rattle.std.specs.Prelude.{All}
use Rattle.local_order.specs.Limits.{max_exponent}
use Rattle.text_out.specs.Reads.{exponents_in}
use Rattle.text_out.proofs.ReadMonos.{none_by, new_none, all_exponents, one_more, too_large, new_limits}
use Rattle.text_out.proofs.read.mono_in.Goals as goal

pub returns-in_err-exps-clause-none : goal.returns-in_err-exps-clause-none
returns-in_err-exps-clause-none c =
    none_by (All (λ e. e ≤ max_exponent) (exponents_in c.args.letters.now c.args.text.now) → ⊥) c.from_residual.result
    (too_large c.args.letters.now c.args.text.now c.loop-i.i c.get.result (omega (arith, c.loop-i-test.true, c.len-i-end.ensures.value)) c.get.ensures c.in_err-exps.ensures.none)

pub loop-i-preserved : goal.loop-i-preserved
loop-i-preserved c = record {
  full = search (rules, length-set, c.loop-i.invariant.full);
  so_far = one_more c.args.letters.now c.args.text.now c.loop-i.exps c.loop-i.i c.in_ok-exps.field-0 c.get.result (omega (arith, c.loop-i-test.true, c.len-i-end.ensures.value)) (omega (arith, c.loop-i.invariant.full, c.loop-i-test.true, c.len-i-end.ensures.value, c.len-i-end.ensures.letters.few))
      c.get.ensures c.in_ok-exps.ensures.some c.loop-i.invariant.so_far;
}

pub returns-clause-none : goal.returns-clause-none
returns-clause-none c =
    new_none c.new.result c.args.letters.now c.args.text.now _ c.new.ensures.some
    (all_exponents c.args.letters.now c.args.text.now c.loop-i.exps c.loop-i.i c.len.result c.len.ensures.value (omega (arith, c.loop-i-test.false, c.len.ensures.value, c.len-i-end.ensures.value)) (omega (arith, c.loop-i.auto.i-end, c.len.ensures.value, c.len-i-end.ensures.value)) c.loop-i.invariant.so_far)
    c.len.ensures.letters

pub returns-clause-limits : goal.returns-clause-limits
returns-clause-limits c = new_limits c.new.result _ c.new.ensures.some c.new.ensures.value
