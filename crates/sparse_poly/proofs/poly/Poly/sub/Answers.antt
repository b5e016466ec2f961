use Rattle.std.proofs.Common.{[], ◌-◌, subst, ◌∙◌, ap}
use Rattle.sparse_poly.specs.Poly.{IsCanonical, term_times}
use Rattle.sparse_poly.specs.Canonical.{canonical}
use Rattle.sparse_poly.proofs.Canonical.{IsCanonical-sum}
use Rattle.sparse_poly.proofs.Scaling.{difference_is, IsCanonical-scaled}
use Rattle.sparse_poly.proofs.Sorted.{canonical_terms, sorted_of}
use Rattle.sparse_poly.proofs.Views.{own_terms, other_terms, given, positive}
use Rattle.sparse_poly.proofs.poly.Poly.sub.Goals as goal

pub scaled-requires-clause-own : goal.scaled-requires-clause-own
scaled-requires-clause-own c = (c.other.inside.n, own_terms _ _ _ _ c.other.view_is c.deref.ensures.value (canonical_terms _ _ _ c.other.view_is c.other.invariant.2 c.requires.other))

pub merge-requires : goal.merge-requires
merge-requires c = (
  c.self.inside.n,
  own_terms _ _ _ _ c.self.view_is c.deref-2.ensures.value (canonical_terms _ _ _ c.self.view_is c.self.invariant.2 c.requires.own),
  rw (c.deref-3.ensures.value, c.in_ok-opposite.ensures)
      (IsCanonical-scaled _ _ _ _ (positive _ c.prime.ensures.offered)
      (other_terms _ _ _ _ _ _ c.self.view_is c.other.view_is c.requires.one_n c.deref.ensures.value (canonical_terms _ _ _ c.other.view_is c.other.invariant.2 c.requires.other))),
)

pub returns-clause-value : goal.returns-clause-value
returns-clause-value c =
    given _ _ _ _ c.self.view_is
    (c.in_ok-terms.ensures
    ∙ difference_is _ c.args.self.now.n (c.args.field.now - 1) c.args.self.now.terms c.args.other.now.terms _ _ (positive _ c.prime.ensures.offered)
    (canonical_terms _ _ _ c.self.view_is c.self.invariant.2 c.requires.own) (subst (λ n. IsCanonical c.args.field.now n c.args.other.now.terms) c.requires.one_n (canonical_terms _ _ _ c.other.view_is c.other.invariant.2 c.requires.other))
    (c.deref-2.ensures.value ∙ ap (λ f. f.terms) c.self.view_is)
    (c.deref-3.ensures.value ∙ c.in_ok-opposite.ensures
    ∙ ap (λ k. canonical c.args.field.now (term_times (k - 1) [] c.deref.result.now)) c.prime.ensures.value
    ∙ ap (λ f. canonical c.args.field.now (term_times (c.args.field.now - 1) [] f)) (c.deref.ensures.value ∙ ap (λ f. f.terms) c.other.view_is)))

pub returns-clause-canonical : goal.returns-clause-canonical
returns-clause-canonical c =
    rw c.in_ok-terms.ensures
    (IsCanonical-sum _ _ _ _
    (own_terms _ _ _ _ c.self.view_is c.deref-2.ensures.value (canonical_terms _ _ _ c.self.view_is c.self.invariant.2 c.requires.own))
    (rw (c.deref-3.ensures.value, c.in_ok-opposite.ensures)
    (IsCanonical-scaled _ _ _ _ (positive _ c.prime.ensures.offered)
    (other_terms _ _ _ _ _ _ c.self.view_is c.other.view_is c.requires.one_n c.deref.ensures.value (canonical_terms _ _ _ c.other.view_is c.other.invariant.2 c.requires.other)))))

pub invariant_of-result : goal.invariant_of-result
invariant_of-result c = (
  c.self.invariant.0,
  c.self.invariant.1,
  sorted_of c.args.field.now c.self.inside.n c.in_ok-terms.terms.items
      (rw c.in_ok-terms.ensures
      (IsCanonical-sum _ _ _ _
      (own_terms _ _ _ _ c.self.view_is c.deref-2.ensures.value (canonical_terms _ _ _ c.self.view_is c.self.invariant.2 c.requires.own))
      (rw (c.deref-3.ensures.value, c.in_ok-opposite.ensures)
      (IsCanonical-scaled _ _ _ _ (positive _ c.prime.ensures.offered)
      (other_terms _ _ _ _ _ _ c.self.view_is c.other.view_is c.requires.one_n c.deref.ensures.value (canonical_terms _ _ _ c.other.view_is c.other.invariant.2 c.requires.other)))))),
)
