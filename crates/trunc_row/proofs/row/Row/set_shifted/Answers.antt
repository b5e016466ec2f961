use Rattle.std.proofs.Common.{◌∙◌, subst}
use Rattle.trunc_row.specs.Rows.{IsMultiple}
use Rattle.trunc_row.proofs.Shifts.{multiple_row}
use Rattle.trunc_row.proofs.row.Row.set_shifted.Goals as goal

pub returns-clause-value : goal.returns-clause-value
returns-clause-value c =
    subst (λ g. IsMultiple c.args.table.now c.args.shift g c.set_shifted_of.new.self) (c.deref.ensures.value ∙ c.other.view_is) c.set_shifted_of.ensures

pub returns-clause-polynomial : goal.returns-clause-polynomial
returns-clause-polynomial c =
    λ p g a ha ig hg. multiple_row p c.args.table.now c.args.shift a ha c.args.other.now _ hg.row (returns-clause-value c) g ig hg
