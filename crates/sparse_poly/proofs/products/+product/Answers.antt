use Rattle.std.proofs.Common.{◌≡◌, ◌++◌, ◌/◌, length, ◌∙◌, ap, arith}
use Rattle.sparse_poly.specs.Poly.{cut, times}
use Rattle.sparse_poly.specs.Canonical.{canonical}
use Rattle.sparse_poly.proofs.Images.{IsCanonical-take, IsCanonical-drop, modulus_positive}
use Rattle.sparse_poly.proofs.Ring.{product-halves, IsCanonical-product}
use Rattle.sparse_poly.proofs.Unique.{in_of_canonical}
use Rattle.sparse_poly.proofs.products.+product.Goals as goal

pub product-requires : goal.product-requires
product-requires t c = (
  omega (arith, c.split_at.ensures.front_len),
  ((c.requires.factors.0, rw c.split_at.ensures.front (IsCanonical-take _ _ _ _ c.requires.factors.1), c.requires.factors.2), c.requires.degree),
)

pub product-requires-in_default : goal.product-requires-in_default
product-requires-in_default t c = (
  omega (arith, c.split_at.ensures.back_len),
  ((c.requires.factors.0, rw c.split_at.ensures.back (IsCanonical-drop _ _ _ _ c.requires.factors.1), c.requires.factors.2), c.requires.degree),
)

pub merge-requires : goal.merge-requires
merge-requires t c = (
  c.requires.factors.0,
  rw (c.deref.ensures.value, c.in_ok-front-in_default.ensures, c.split_at.ensures.front)
      (IsCanonical-product _ _ _ _ _ (IsCanonical-take _ _ _ _ c.requires.factors.1) c.requires.factors.2),
  rw (c.deref-in_default.ensures.value, c.in_ok-back-in_default.ensures, c.split_at.ensures.back)
      (IsCanonical-product _ _ _ _ _ (IsCanonical-drop _ _ _ _ c.requires.factors.1) c.requires.factors.2),
)

pub returns-in_ok-back-in_default : goal.returns-in_ok-back-in_default
returns-in_ok-back-in_default t c =
    let p = c.args.field.now in
    let mine = c.requires.factors.1 in
    let halves : canonical p (c.deref.result.now ++ c.deref-in_default.result.now) ≡ canonical p (cut c.args.degree (times c.args.mine.now c.args.its.now)) =
    product-halves _ _ c.args.degree (length c.args.mine.now / 2) c.args.mine.now c.args.its.now _ _ (modulus_positive _ _ _ mine (omega (arith, c.in_default.len_at_least)))
    (in_of_canonical _ _ _ mine) (in_of_canonical _ _ _ c.requires.factors.2)
    (c.deref.ensures.value ∙ c.in_ok-front-in_default.ensures ∙ ap (λ f. canonical p (cut c.args.degree (times f c.args.its.now))) c.split_at.ensures.front)
    (c.deref-in_default.ensures.value ∙ c.in_ok-back-in_default.ensures ∙ ap (λ f. canonical p (cut c.args.degree (times f c.args.its.now))) c.split_at.ensures.back) in
    rw (← halves) c.merge.ensures
