use Rattle.std.proofs.Common.{◌≡◌, decimal, arith, sym, ap, ◌∙◌}
use Rattle.std.proofs.lemmas.Fmt.{parse-decimal}
use Rattle.std.proofs.lemmas.Slice.Eq.{bytes_eq-Decides}
use Rattle.local_std.proofs.Readings.{no_both}
use Rattle.local_std.proofs.words.numeral.Goals as goal

pub returns-in-Err-clause-none : goal.returns-in-Err-clause-none
returns-in-Err-clause-none c = λ k low e.
    let r = parse-decimal 16 k c.args.word.now c.parse.result (omega (arith, low)) (omega (arith, low)) e c.parse.ensures.value.0 in
    absurd (cc (r, c.in-Err.is))

pub returns-then-number-most-clause-none : goal.returns-then-number-most-clause-none
returns-then-number-most-clause-none c = λ k low e.
    let r = parse-decimal 16 k c.args.word.now c.parse.result (omega (arith, low)) (omega (arith, low)) e c.parse.ensures.value.0 in
    let n : c.in-Ok.number ≡ k = cc (r, c.in-Ok.is) in
    absurd (omega (arith, n, low, c.if-number-most.true))

pub returns-then-ne-clause-none : goal.returns-then-ne-clause-none
returns-then-ne-clause-none c = λ k low e.
    let r = parse-decimal 16 k c.args.word.now c.parse.result (omega (arith, low)) (omega (arith, low)) e c.parse.ensures.value.0 in
    let n : c.in-Ok.number ≡ k = cc (r, c.in-Ok.is) in
    let same : c.format.result.now ≡ c.args.word.now = c.format.ensures.text ∙ ap decimal n ∙ sym e in
    let equal = (bytes_eq-Decides c.format.result.now c.args.word.now).1 same in
    no_both _ _ c.if-ne.true c.ne.ensures equal
