use Rattle.std.proofs.Common.{arith, sym, ◌∙◌, subst, take}
use Rattle.std.proofs.Common.{◌<◌}
use Rattle.std.proofs.lemmas.List.{length-take-le, length-set}
use Rattle.local_order.specs.Mono.{degree}
use Rattle.script_tokens.proofs.Numbers.{at_most_none}
use Rattle.expression_reader.proofs.Exponents.{letter_over, not_within, exponents_go, exponents_end, none_limits}
use Rattle.expression_reader.proofs.values.exponents.Goals as goal

pub returns-in_err-exps-clause-none : goal.returns-in_err-exps-clause-none
returns-in_err-exps-clause-none c =
    rw c.from_residual.ensures (letter_over c.args.names.now.letters c.args.word.now c.loop-i.i (omega (arith, c.loop-i-test.true, c.len-n.ensures.value))
    (rw (← c.get.ensures) (at_most_none 1000 _ (sym c.letter_exponent.ensures ∙ c.in_err-exps.was))))

pub loop-i-preserved : goal.loop-i-preserved
loop-i-preserved c = record {
  so_far = exponents_go c.loop-i.exps c.args.names.now.letters c.args.word.now c.loop-i.i c.in_ok-exps.field-0 c.get.result
      (omega (arith, c.loop-i.invariant.full, c.loop-i-test.true, c.len-n.ensures.value, c.requires.sound.letters.few)) (omega (arith, c.loop-i-test.true, c.len-n.ensures.value)) c.get.ensures (sym c.letter_exponent.ensures ∙ c.in_ok-exps.was) c.loop-i.invariant.so_far;
  full = length-set c.loop-i.exps c.loop-i.i c.in_ok-exps.field-0 ∙ c.loop-i.invariant.full;
}

pub returns-clause-none : goal.returns-clause-none
returns-clause-none c =
    let whole = exponents_end c.loop-i.exps c.args.names.now.letters c.args.word.now c.loop-i.i c.len-n.result c.len-n.ensures.value c.loop-i-test.false c.loop-i.auto.i-end c.loop-i.invariant.so_far in
    none_limits _ c.new.result _ _ c.new.ensures.some (λ h.
    let taken = length-take-le c.len-n.result c.loop-i.exps (omega (arith, c.loop-i.invariant.full, c.len-n.ensures.value, c.requires.sound.letters.few)) in
    subst (λ m. 1000 < degree m) whole (not_within (take c.len-n.result c.loop-i.exps) (omega (arith, taken, c.len-n.ensures.value, c.requires.sound.letters.some)) (omega (arith, taken, c.len-n.ensures.value, c.requires.sound.letters.few)) h))
