use Rattle.std.proofs.Common.{subst, lit≤}
use Rattle.sparse_poly.specs.Poly.{HasResidues, coef}
use Rattle.sparse_poly.proofs.Sorted.{residues_of}
use Rattle.mono_rank.specs.Rows.{IsRowOf}
use Rattle.room_tests.proofs.rows.row.Goals as goal

pub returns : goal.returns
returns c =
    let f = c.in_ok-terms.terms.terms in
    let residues : HasResidues 7 f = subst (λ p. HasResidues p f) c.in_ok-field.ensures (residues_of _ _ f c.in_ok-terms.ensures.canonical) in
    let made : IsRowOf 7 (record { variables = 2; degree = 4 }) (coef 7 f) c.set_poly.new.self =
    subst (λ t. IsRowOf 7 t (coef 7 f) c.set_poly.new.self) c.requires (c.set_poly.ensures 7 (lit≤ tt) residues) in
    made.row
