use Rattle.std.proofs.Common.{sym, ◌∙◌, arith}
use Rattle.tail_reduce.proofs.Ranked.{quotient_is}
use Rattle.tail_reduce.proofs.Firsts.{none_more, found_there, found_nowhere}
use Rattle.tail_reduce.proofs.divisors.first_divisor.Goals as goal

pub overflow_cast-result : goal.overflow_cast-result
overflow_cast-result c = omega (arith, c.loop-place-test.true, c.requires.few)

pub returns-in-Some : goal.returns-in-Some
returns-in-Some c = λ P B h.
    sym (found_there c.args.table.now c.args.leads.now c.args.rank c.loop-place.place c.in-Some.cofactor c.loop-place-test.true (λ Q e. sym (quotient_is Q c.args.table.now c.args.rank _ e) ∙ sym c.in-Some.ensures.value) c.loop-place.invariant P B h)

pub loop-place-preserved : goal.loop-place-preserved
loop-place-preserved c =
    none_more c.args.table.now c.args.leads.now c.args.rank c.loop-place.place c.loop-place-test.true (λ Q e. sym (quotient_is Q c.args.table.now c.args.rank _ e) ∙ sym c.in_default.ensures.value) c.loop-place.invariant

pub returns : goal.returns
returns c = λ P B h.
    sym (found_nowhere c.args.table.now c.args.leads.now c.args.rank c.loop-place.place (omega (arith, c.loop-place-test.false, c.loop-place.auto.place-end)) c.loop-place.invariant P B h)
