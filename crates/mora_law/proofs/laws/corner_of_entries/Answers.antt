use Rattle.std.proofs.Common.{ℕ, List, map}
use Rattle.sparse_poly.specs.Shape.{shape_of}
use Rattle.mono_rank.proofs.Corners.{corner_is, one_corner}
use Rattle.mora_law.specs.Entries.{lead_rank}
use Rattle.mora_law.proofs.Corners.{corner_is_of_leads, fits_by_corner}
use Rattle.mora_law.proofs.laws.corner_of_entries.Goals as goal

pub returns-clause-leads : goal.returns-clause-leads
returns-clause-leads c P entries h monic = corner_is_of_leads P h entries monic

pub returns-clause-number : goal.returns-clause-number
returns-clause-number c P entries h monic =
    let ranks : List ℕ = map (λ e. lead_rank e.terms) entries in
    one_corner (shape_of P) ranks _ _ (corner_is_of_leads P h entries monic) (corner_is (shape_of P) h.some ranks)

pub returns-clause-fits : goal.returns-clause-fits
returns-clause-fits c P entries h legal settled = fits_by_corner P h entries legal settled
