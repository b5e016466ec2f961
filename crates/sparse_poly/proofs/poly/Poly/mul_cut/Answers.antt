use Rattle.sparse_poly.proofs.Ring.{IsCanonical-product}
use Rattle.sparse_poly.proofs.Sorted.{canonical_terms, sorted_of}
use Rattle.sparse_poly.proofs.Views.{own_terms, other_terms}
use Rattle.sparse_poly.proofs.poly.Poly.mul_cut.Goals as goal

pub product-requires-clause-factors : goal.product-requires-clause-factors
product-requires-clause-factors c = (
  c.self.inside.n,
  own_terms _ _ _ _ c.self.view_is c.deref.ensures.value (canonical_terms _ _ _ c.self.view_is c.self.invariant.2 c.requires.own),
  other_terms _ _ _ _ _ _ c.self.view_is c.other.view_is c.requires.one_n c.deref-2.ensures.value (canonical_terms _ _ _ c.other.view_is c.other.invariant.2 c.requires.other),
)

pub returns-clause-canonical : goal.returns-clause-canonical
returns-clause-canonical c =
    rw c.in_ok-terms.ensures
    (IsCanonical-product _ _ _ _ _
    (own_terms _ _ _ _ c.self.view_is c.deref.ensures.value (canonical_terms _ _ _ c.self.view_is c.self.invariant.2 c.requires.own))
    (other_terms _ _ _ _ _ _ c.self.view_is c.other.view_is c.requires.one_n c.deref-2.ensures.value (canonical_terms _ _ _ c.other.view_is c.other.invariant.2 c.requires.other)))

pub invariant_of-result : goal.invariant_of-result
invariant_of-result c = (c.self.invariant.0, c.self.invariant.1, sorted_of _ _ _ (returns-clause-canonical c))
