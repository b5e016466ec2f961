use Rattle.std.proofs.Common.{◌≡◌, length, take, drop, ◌++◌, ◌∷◌, [], ap, ◌∙◌, sym, subst}
use Rattle.local_order.specs.Shape.{Shape}
use Rattle.corner_word.specs.Marks.{IsMarkedFrom, IsLeastMarked}
use Rattle.corner_word.proofs.Corners.{AreMarksOf, cover_from, cover_to, MarksMultiples, marked_over, lead_low, written_over, kept_more, marked_still, cover_more}
use Rattle.corner_word.proofs.cover.Cover.add.Goals as goal

-- the marks of the lead's multiples are made in those that were kept
made : (c : goal.After-deref) → MarksMultiples (record { variables = c.self.inside.n; degree = c.self.inside.d }) c.self.inside.marks.items c.mark_multiples.new.marks c.args.lead
made c =
    let I = c.self.inside in
    marked_over (record { variables = I.n; degree = I.d }) c.args.table.now I.marks.items c.deref_mut.result.now c.mark_multiples.new.marks c.args.lead c.args.self.now c.self.view_is c.requires.shape c.deref_mut.ensures.value c.mark_multiples.ensures

-- they are written over the ones that were kept
over : (c : goal.After-deref) → take c.self.inside.marks.len (c.mark_multiples.new.marks ++ drop (length c.mark_multiples.new.marks) c.self.inside.marks.items) ≡ c.mark_multiples.new.marks
over c = written_over c.self.inside.marks.len c.mark_multiples.new.marks c.self.inside.marks.items (c.mark_multiples.auto.marks ∙ c.deref_mut.ensures.len)

pub lowered-self-inside-requires : goal.lowered-self-inside-requires
lowered-self-inside-requires c =
    let I = c.self.inside in
    let t = c.mark_multiples.new.marks in
    let same : c.deref.result.now ≡ t = c.deref.ensures.value ∙ over c in
    subst (λ s. IsMarkedFrom s I.corner) (sym same) (marked_still (record { variables = I.n; degree = I.d }) I.marks.items t c.args.lead I.corner c.self.invariant
    (lead_low (record { variables = I.n; degree = I.d }) I.marks.items c.args.lead c.args.self.now c.self.view_is c.requires.low) (c.mark_multiples.auto.marks ∙ ap length c.deref_mut.ensures.value) (made c))

pub invariant_of-self : goal.invariant_of-self
invariant_of-self c =
    let I = c.self.inside in
    let t = c.mark_multiples.new.marks in
    let v = take I.marks.len (t ++ drop (length t) I.marks.items) in
    let same : v ≡ t = written_over I.marks.len t I.marks.items (c.mark_multiples.auto.marks ∙ c.deref_mut.ensures.len) in
    kept_more (record { variables = I.n; degree = I.d }) I.marks.items t v I.corner c.lowered-self-inside.result c.self.invariant (c.mark_multiples.auto.marks ∙ ap length c.deref_mut.ensures.value) same
    (subst (λ s. IsLeastMarked s c.lowered-self-inside.result) c.deref.ensures.value c.lowered-self-inside.ensures)

pub returns-clause-leads : goal.returns-clause-leads
returns-clause-leads c leads C =
    let I = c.self.inside in
    let t = c.mark_multiples.new.marks in
    let v = take I.marks.len (t ++ drop (length t) I.marks.items) in
    let same : v ≡ t = written_over I.marks.len t I.marks.items (c.mark_multiples.auto.marks ∙ c.deref_mut.ensures.len) in
    let M : MarksMultiples (record { variables = I.n; degree = I.d }) I.marks.items t c.args.lead =
    marked_over (record { variables = I.n; degree = I.d }) c.args.table.now I.marks.items c.deref_mut.result.now t c.args.lead c.args.self.now c.self.view_is c.requires.shape c.deref_mut.ensures.value c.mark_multiples.ensures in
    let T : Shape = record { variables = I.n; degree = I.d } in
    let D : AreMarksOf T leads I.marks.items = cover_to T leads I.marks.items c.args.self.now c.self.view_is C in
    cover_from T (leads ++ c.args.lead ∷ []) v (subst (AreMarksOf T (leads ++ c.args.lead ∷ [])) (sym same)
    (cover_more (record { variables = I.n; degree = I.d }) I.marks.items t c.args.lead leads c.self.invariant.some (lead_low (record { variables = I.n; degree = I.d }) I.marks.items c.args.lead c.args.self.now c.self.view_is c.requires.low) M D))
