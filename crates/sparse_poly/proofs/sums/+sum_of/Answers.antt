use Rattle.std.proofs.Common.{◌≡◌, ◌++◌, ◌/◌, arith, ◌∙◌, ap, length}
use Rattle.sparse_poly.specs.Canonical.{canonical}
use Rattle.sparse_poly.proofs.Member.{in-take, in-drop}
use Rattle.sparse_poly.proofs.Canonical.{canonical-halves}
use Rattle.sparse_poly.proofs.Views.{made_canonical}
use Rattle.sparse_poly.proofs.Views.{positive}
use Rattle.sparse_poly.proofs.sums.+sum_of.Goals as goal

pub sum_of-requires : goal.sum_of-requires
sum_of-requires t c = (omega (arith, c.split_at.ensures.front_len), (c.requires.0, rw c.split_at.ensures.front (in-take _ _ _ c.requires.1)))

pub sum_of-requires-in_default : goal.sum_of-requires-in_default
sum_of-requires-in_default t c = (omega (arith, c.split_at.ensures.back_len), (c.requires.0, rw c.split_at.ensures.back (in-drop _ _ _ c.requires.1)))

pub merge-requires : goal.merge-requires
merge-requires t c = (
  c.requires.0,
  rw c.deref.ensures.value (c.in_ok-front-in_default.ensures.canonical _ (rw c.split_at.ensures.front (in-take _ _ _ c.requires.1))),
  rw c.deref-in_default.ensures.value (c.in_ok-back-in_default.ensures.canonical _ (rw c.split_at.ensures.back (in-drop _ _ _ c.requires.1))),
)

pub returns-in_ok-back-in_default-clause-value : goal.returns-in_ok-back-in_default-clause-value
returns-in_ok-back-in_default-clause-value t c =
    let halves : canonical c.args.field.now (c.deref.result.now ++ c.deref-in_default.result.now) ≡ canonical c.args.field.now c.args.terms.now =
    canonical-halves _ _ (length c.args.terms.now / 2) c.args.terms.now _ _ (positive _ c.prime-prime.ensures.offered) c.requires.1
    (c.deref.ensures.value ∙ c.in_ok-front-in_default.ensures.value ∙ ap (canonical c.args.field.now) c.split_at.ensures.front)
    (c.deref-in_default.ensures.value ∙ c.in_ok-back-in_default.ensures.value ∙ ap (canonical c.args.field.now) c.split_at.ensures.back) in
    rw (← halves) c.merge.ensures

pub returns-in_ok-back-in_default-clause-canonical : goal.returns-in_ok-back-in_default-clause-canonical
returns-in_ok-back-in_default-clause-canonical t c =
    made_canonical _ c.args.terms.now c.merge.result (positive _ c.prime-prime.ensures.offered) (returns-in_ok-back-in_default-clause-value t c)
