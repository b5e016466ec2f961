use Rattle.std.proofs.Common.{◌≤◌, subst}
use Rattle.local_order.specs.Shape.{Shape}
use Rattle.mono_rank.proofs.Corners.{corner_is as corner_of_leads_is, one_corner}
use Rattle.corner_word.specs.Marks.{Covered}
use Rattle.corner_word.proofs.Corners.{corner_is}
use Rattle.corner_word.proofs.cover.Cover.corner.Goals as goal

pub returns-clause-least : goal.returns-clause-least
returns-clause-least c leads C =
    let I = c.self.inside in
    corner_is (record { variables = I.n; degree = I.d }) I.marks.items I.corner c.args.self.now leads c.self.view_is c.self.invariant C

pub returns-clause-number : goal.returns-clause-number
returns-clause-number c leads C =
    let T : Shape = c.args.self.now.shape in
    let some = subst (λ (x : Covered). 1 ≤ x.shape.variables) c.self.view_is c.self.invariant.some in
    one_corner T leads c.self.inside.corner _ (returns-clause-least c leads C) (corner_of_leads_is T some leads)
