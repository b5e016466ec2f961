use Rattle.std.proofs.Common.{sym, ◌∙◌, ap, subst, ◌≡◌, length}
use Rattle.std.proofs.lemmas.Result.{IfOk-weaker}
use Rattle.sparse_poly.specs.Poly.{Polynomial, IsCanonical, HasDegreeAtMost, cut}
use Rattle.sparse_poly.proofs.Cuts.{IsCanonical-cut, HasDegreeAtMost-cut}
use Rattle.sparse_poly.specs.Ideal.{IsGenerator}
use Rattle.expression_reader.proofs.generators.generator.Goals as goal

pub returns-clause-valid : goal.returns-clause-valid
returns-clause-valid c =
    let names = c.args.names.now in
    IfOk-weaker c.copy-2.result (λ (g : Polynomial). g ≡ c.in_ok-cut.field-0) (IsGenerator names.field (length names.letters) names.d)
    (λ g e.
    let terms : g.terms ≡ cut names.d c.args.f.now.terms = ap (λ (f : Polynomial). f.terms) (e ∙ c.in_ok-cut.ensures.value) in
    record {
      variables = ap (λ (f : Polynomial). f.n) (e ∙ c.in_ok-cut.ensures.value) ∙ c.requires.value.variables;
      canonical = subst (λ f. IsCanonical names.field (length names.letters) f) (sym terms) (IsCanonical-cut names.field (length names.letters) names.d c.args.f.now.terms c.requires.value.canonical);
      low = subst (λ f. HasDegreeAtMost names.d f) (sym terms) (HasDegreeAtMost-cut names.d c.args.f.now.terms);
    })
    c.copy-2.ensures
