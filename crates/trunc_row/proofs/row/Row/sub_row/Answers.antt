use Rattle.std.proofs.Common.{◌≡◌, ◌++◌, length, take, drop, sym, ◌∙◌, subst}
use Rattle.rank_algebra.specs.Rows.{Subtracts}
use Rattle.row_kernel.specs.Difference.{IsDifference}
use Rattle.trunc_row.proofs.Residues.{written_over}
use Rattle.trunc_row.proofs.Polynomials.{less_row}
use Rattle.trunc_row.proofs.row.Row.sub_row.Goals as goal

pub returns-clause-value : goal.returns-clause-value
returns-clause-value c =
    let I = c.self.inside.residues in
    let p = c.args.field.now in
    let s = c.update.new.out in
    let over : take I.len (s ++ drop (length s) I.items) ≡ s = written_over I.len s I.items (c.update.auto.out ∙ c.deref_mut.ensures.len) in
    let by_slices : IsDifference p c.args.c c.args.self.now c.deref.result.now s =
    subst (λ r. IsDifference p c.args.c r c.deref.result.now s) (c.deref_mut.ensures.value ∙ c.self.view_is) c.update.ensures in
    let is : IsDifference p c.args.c c.args.self.now c.args.other.now s =
    subst (λ g. IsDifference p c.args.c c.args.self.now g s) (c.deref.ensures.value ∙ c.other.view_is) by_slices in
    subst (Subtracts p c.args.c c.args.other.now c.args.self.now) (sym over) (record { row = record { full = is.full; residues = is.residues }; value = is.value })

pub returns-clause-polynomial : goal.returns-clause-polynomial
returns-clause-polynomial c = λ T f g hf hg. less_row c.args.field.now T c.args.c f g c.args.self.now c.args.other.now _ hf hg (returns-clause-value c)
