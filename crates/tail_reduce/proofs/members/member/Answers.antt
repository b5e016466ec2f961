use Rattle.std.proofs.Common.{◌≡◌, sym, ◌∙◌, ap, subst}
use Rattle.std.proofs.lemmas.Result.{IfOk-weaker}
use Rattle.local_order.specs.Shape.{Shape, count}
use Rattle.sparse_poly.specs.Shape.{shape_of}
use Rattle.sparse_poly.specs.Poly.{Polynomial, in_variables}
use Rattle.rank_algebra.specs.Rows.{IsRow, vector_of_row}
use Rattle.rank_algebra.specs.Vector.{Agree}
use Rattle.trunc_row.specs.Polynomials.{poly_of_row}
use Rattle.trunc_row.proofs.Residues.{written_over}
use Rattle.mora_law.specs.Ring.{ranks_of_problem}
use Rattle.mora_law.specs.Entries.{basis_of, terms_of, poly_of_terms}
use Rattle.mora_law.specs.Basis.{tidied}
use Rattle.tail_reduce.proofs.Polynomials.{poly_of_vector}
use Rattle.tail_reduce.proofs.members.member.Goals as goal

pub returns : goal.returns
returns c =
    let P = c.args.problem.now in
    let R = ranks_of_problem P in
    let v = tidied R (basis_of c.args.entries.now) c.args.place in
    let row = c.deref.result.now in
    let same : c.tidy.new.row ≡ row = sym (c.deref.ensures.value ∙ written_over c.in_ok-row.row.len c.tidy.new.row c.in_ok-row.row.items (c.tidy.auto.row ∙ c.deref_mut.ensures.len)) in
    let own : IsRow P.p (count (shape_of P)) row = subst (IsRow P.p (count (shape_of P))) same c.tidy.ensures.row in
    let kept : Agree R R.n (vector_of_row row) v = subst (λ r. Agree R R.n (vector_of_row r) v) same c.tidy.ensures.value in
    IfOk-weaker c.poly_of.result (λ (f : Polynomial). f ≡ in_variables c.args.table.now.variables (poly_of_row c.args.table.now row))
    (λ (f : Polynomial). f ≡ in_variables P.n (poly_of_terms P (terms_of R v)))
    (λ f e. e ∙ ap (λ (t : Shape). in_variables t.variables (poly_of_row t row)) c.requires.table ∙ ap (in_variables P.n) (poly_of_vector P v row own kept))
    c.poly_of.ensures.value
