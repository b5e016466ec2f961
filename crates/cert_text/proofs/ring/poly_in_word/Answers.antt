use Rattle.std.proofs.Common.{Some, None, sym, ◌∙◌, ap, subst}
use Rattle.std.specs.Prelude.{if◌then◌else◌}
use Rattle.text_out.specs.Cuts.{IsReadFrom, HasNoPoly}
use Rattle.cert_grammar.specs.Words.{is_low}
use Rattle.cert_text.proofs.RingReads.{poly_some, poly_none}
use Rattle.cert_text.proofs.ring.poly_in_word.Goals as goal

pub returns-in_default : goal.returns-in_default
returns-in_default c =
    let r = c.args.ring.now in
    let w = rw c.in_default.is at c.in_ok-f.ensures.none in
    let v = subst (λ z. HasNoPoly z c.letters.result.now c.args.word.now) c.field.ensures.value w in
    let u = subst (λ z. HasNoPoly r.p z c.args.word.now) c.letters.ensures v in
    sym (poly_none r c.args.word.now c.field.ensures.some c.d-d.ensures.low u)

pub returns-then-is_low_poly : goal.returns-then-is_low_poly
returns-then-is_low_poly c =
    let r = c.args.ring.now in
    let w = rw c.in-Some.is at c.in_ok-f.ensures.some in
    let v = subst (λ z. IsReadFrom z c.letters.result.now c.args.word.now c.in-Some.f) c.field.ensures.value w in
    let u = subst (λ z. IsReadFrom r.p z c.args.word.now c.in-Some.f) c.letters.ensures v in
    sym (poly_some r c.args.word.now c.in-Some.f u ∙ ap (λ b. if b then Some c.in-Some.f else None) (ap (λ k. is_low k c.in-Some.f.terms) (sym c.d-d.ensures.value) ∙ sym c.is_low_poly.ensures ∙ c.if-is_low_poly.true))

pub returns-else-is_low_poly : goal.returns-else-is_low_poly
returns-else-is_low_poly c =
    let r = c.args.ring.now in
    let w = rw c.in-Some.is at c.in_ok-f.ensures.some in
    let v = subst (λ z. IsReadFrom z c.letters.result.now c.args.word.now c.in-Some.f) c.field.ensures.value w in
    let u = subst (λ z. IsReadFrom r.p z c.args.word.now c.in-Some.f) c.letters.ensures v in
    sym (poly_some r c.args.word.now c.in-Some.f u ∙ ap (λ b. if b then Some c.in-Some.f else None) (ap (λ k. is_low k c.in-Some.f.terms) (sym c.d-d.ensures.value) ∙ sym c.is_low_poly.ensures ∙ c.if-is_low_poly.false))
