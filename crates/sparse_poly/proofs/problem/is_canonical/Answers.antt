use Rattle.std.proofs.Common.{subst, sym}
use Rattle.sparse_poly.specs.Poly.{HasResidues}
use Rattle.sparse_poly.proofs.Sorted.{canonical_of, residues_of}
use Rattle.sparse_poly.proofs.problem.is_canonical.Goals as goal

pub returns : goal.returns
returns c = (
  λ t. canonical_of _ _ _ c.terms-terms.ensures.sorted (subst (HasResidues c.args.prime) c.terms-terms.ensures.value (c.have_residues.ensures.0 t)),
  λ w. c.have_residues.ensures.1 (subst (HasResidues c.args.prime) (sym c.terms-terms.ensures.value) (residues_of _ _ _ w)),
)
