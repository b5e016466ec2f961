use Rattle.std.proofs.Common.{◌∙◌, List, sym, subst}
use Rattle.std.specs.Prelude.{All}
use Rattle.std.proofs.lemmas.List.Elements.{All-push}
use Rattle.sparse_poly.specs.Poly.{Polynomial}
use Rattle.sparse_poly.specs.Ideal.{IsGenerator}
use Rattle.singularity_numbers.proofs.Generators.{partials_more}
use Rattle.singularity_numbers.proofs.partials.push_partials.Goals as goal

pub loop-variable-preserved : goal.loop-variable-preserved
loop-variable-preserved c =
    let p = c.args.field.now in
    let n = c.args.n in
    let d = c.args.d in
    let one = c.in_ok-partial_derivative in
    record {
      gens = ◌∙◌ {A = List Polynomial} c.in_ok-push.ensures.ok (partials_more p n d c.args.f.now.terms c.args.gens.now c.loop-variable.gens c.loop-variable.variable one.field-0 one.ensures.value c.loop-variable.invariant.gens);
      valid = subst (All (IsGenerator p n d)) (sym c.in_ok-push.ensures.ok) (All-push (IsGenerator p n d) c.loop-variable.gens one.field-0 c.loop-variable.invariant.valid one.ensures.valid);
    }
