use Rattle.sparse_poly.proofs.Sorted.{sorted_of}
use Rattle.sparse_poly.proofs.poly.Poly.from_terms.Goals as goal

pub sum_of-requires : goal.sum_of-requires
sum_of-requires c = (c.args.n, rw c.deref.ensures.value c.requires.own)

pub returns-clause-canonical : goal.returns-clause-canonical
returns-clause-canonical c = c.in_ok-terms.ensures.canonical _ (rw c.deref.ensures.value c.requires.own)

pub invariant_of-result : goal.invariant_of-result
invariant_of-result c = (c.requires.some, c.requires.few, sorted_of _ _ _ (c.in_ok-terms.ensures.canonical _ (rw c.deref.ensures.value c.requires.own)))
