use Rattle.std.proofs.Common.{◌≡◌, ◌∙◌, ap}
use Rattle.std.proofs.lemmas.Result.{IfOk-weaker}
use Rattle.sparse_poly.specs.Poly.{Polynomial, in_variables, cut}
use Rattle.sparse_poly.specs.Ideal.{IsGenerator}
use Rattle.singularity_numbers.proofs.Generators.{cut_is_generator}
use Rattle.singularity_numbers.proofs.partials.cut_beyond.Goals as goal

pub returns-clause-valid : goal.returns-clause-valid
returns-clause-valid c =
    IfOk-weaker c.copy-2.result (λ (g : Polynomial). g ≡ c.in_ok-cut.field-0) (IsGenerator c.args.field.now c.args.n c.args.d)
    (λ g e. cut_is_generator c.args.field.now c.args.n c.args.d c.args.f.now.terms g c.requires.canonical (e ∙ c.in_ok-cut.ensures.value ∙ ap (λ k. in_variables k (cut c.args.d c.args.f.now.terms)) c.requires.variables))
    c.copy-2.ensures
