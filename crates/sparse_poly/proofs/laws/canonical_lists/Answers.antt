use Rattle.sparse_poly.proofs.Cuts.{HasDegreeAtMost-canonical}
use Rattle.sparse_poly.proofs.Canonical.{coef-canonical, IsCanonical-canonical}
use Rattle.sparse_poly.proofs.Sorted.{sorted_of, residues_of, canonical_of}
use Rattle.sparse_poly.proofs.Unique.{canonical_unique, same_total, IsLead-canonical}
use Rattle.sparse_poly.proofs.laws.canonical_lists.Goals as goal

pub returns-clause-sorted : goal.returns-clause-sorted
returns-clause-sorted c p n f = (λ w. (sorted_of p n f w, residues_of p n f w), λ x. canonical_of p n f x.0 x.1)

pub returns-clause-coefficients : goal.returns-clause-coefficients
returns-clause-coefficients c p f m = coef-canonical p f m

pub returns-clause-form : goal.returns-clause-form
returns-clause-form c p n f pos i = IsCanonical-canonical p n f pos i

pub returns-clause-only : goal.returns-clause-only
returns-clause-only c p n f g pos v w s = canonical_unique p n f g v w (same_total p n f g pos v w s)

pub returns-clause-lead : goal.returns-clause-lead
returns-clause-lead c P t f w = IsLead-canonical P t f w

pub returns-clause-degree : goal.returns-clause-degree
returns-clause-degree c p d f h = HasDegreeAtMost-canonical p d f h
