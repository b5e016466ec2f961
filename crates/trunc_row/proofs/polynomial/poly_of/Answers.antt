use Rattle.std.proofs.Common.{◌≡◌, ◌<◌, sym, ◌∙◌, ap, subst, arith}
use Rattle.std.proofs.lemmas.Result.{IfOk-weaker}
use Rattle.local_order.specs.Shape.{count}
use Rattle.mono_rank.proofs.Pascal.{count_some}
use Rattle.sparse_poly.specs.Poly.{Polynomial, IsIn, IsCanonical, in_variables, coef}
use Rattle.sparse_poly.specs.Canonical.{canonical}
use Rattle.sparse_poly.proofs.Unique.{in_of_canonical}
use Rattle.sparse_poly.proofs.Canonical.{canonical_self}
use Rattle.mono_rank.specs.Rows.{IsRowOf}
use Rattle.trunc_row.specs.Polynomials.{poly_of_row}
use Rattle.trunc_row.proofs.Residues.{row_small}
use Rattle.trunc_row.proofs.RowPolynomials.{row_canonical, row_of_poly}
use Rattle.trunc_row.proofs.polynomial.poly_of.Goals as goal

pub from_terms-requires-clause-own : goal.from_terms-requires-clause-own
from_terms-requires-clause-own c =
    let T = c.args.table.now in
    let p = c.args.field.now in
    let r = c.args.row.now in
    let in_ring : IsIn T.variables (poly_of_row T r) = in_of_canonical p T.variables (poly_of_row T r) (row_canonical T c.n.ensures.limits.some p r c.requires) in
    subst (λ k. IsIn k c.in_ok-terms.terms.items) (sym c.n.ensures.value) (subst (IsIn T.variables) (sym c.in_ok-terms.ensures) in_ring)

pub returns-clause-value : goal.returns-clause-value
returns-clause-value c =
    let T = c.args.table.now in
    let p = c.args.field.now in
    let r = c.args.row.now in
    let pos : 0 < p = omega (arith, row_small p (count T) r 0 c.requires (count_some T.variables T.degree)) in
    IfOk-weaker c.from_terms.result (λ (f : Polynomial). f ≡ record { n = c.n.result; terms = canonical p c.in_ok-terms.terms.items })
    (λ (f : Polynomial). f ≡ in_variables T.variables (poly_of_row T r))
    (λ f e.
    e
    ∙ ap (λ k. in_variables k (canonical p c.in_ok-terms.terms.items)) c.n.ensures.value
    ∙ ap (λ g. in_variables T.variables (canonical p g)) c.in_ok-terms.ensures
    ∙ ap (in_variables T.variables) (canonical_self p T.variables (poly_of_row T r) pos (row_canonical T c.n.ensures.limits.some p r c.requires)))
    c.from_terms.ensures.value

pub returns-clause-canonical : goal.returns-clause-canonical
returns-clause-canonical c =
    let T = c.args.table.now in
    let p = c.args.field.now in
    let r = c.args.row.now in
    IfOk-weaker c.from_terms.result (λ (f : Polynomial). f ≡ in_variables T.variables (poly_of_row T r)) (λ (f : Polynomial). IsCanonical p T.variables f.terms)
    (λ f e. subst (λ (g : Polynomial). IsCanonical p T.variables g.terms) (sym e) (row_canonical T c.n.ensures.limits.some p r c.requires))
    (returns-clause-value c)

pub returns-clause-polynomial : goal.returns-clause-polynomial
returns-clause-polynomial c =
    let T = c.args.table.now in
    let p = c.args.field.now in
    let r = c.args.row.now in
    IfOk-weaker c.from_terms.result (λ (f : Polynomial). f ≡ in_variables T.variables (poly_of_row T r)) (λ (f : Polynomial). IsRowOf p T (coef p f.terms) r)
    (λ f e. subst (λ (g : Polynomial). IsRowOf p T (coef p g.terms) r) (sym e) (row_of_poly T c.n.ensures.limits.some p r c.requires))
    (returns-clause-value c)
