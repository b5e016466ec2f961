use Rattle.std.proofs.Common.{◌∙◌, List, ap, sym, subst, length}
use Rattle.std.specs.Prelude.{All}
use Rattle.sparse_poly.specs.Poly.{Polynomial, in_variables, cut, derivative}
use Rattle.sparse_poly.specs.Canonical.{canonical}
use Rattle.expression_reader.specs.NamesView.{values_of}
use Rattle.sparse_poly.specs.Ideal.{IsGenerator}
use Rattle.expression_reader.proofs.Handed.{All-push}
use Rattle.expression_reader.proofs.MemberLists.{jacobian_go}
use Rattle.expression_reader.proofs.generators.push_jacobian.Goals as goal

pub loop-i-preserved : goal.loop-i-preserved
loop-i-preserved c =
    let names = c.args.names.now in
    let n = length names.letters in
    record {
      gens = ◌∙◌ {A = List Polynomial} c.in_ok-push.ensures.items (jacobian_go (values_of names) (λ i. cut names.d (canonical names.field (derivative i c.args.f.now.terms))) c.args.gens.now.items c.loop-i.gens.items c.loop-i.i c.in_ok-generator.field-0
          (c.in_ok-generator.ensures.terms ∙ ap (λ (h : Polynomial). in_variables n (cut names.d h.terms)) c.in_ok-derivative.ensures.value) c.loop-i.invariant.gens);
      valid = subst (All (IsGenerator names.field n names.d)) (sym c.in_ok-push.ensures.items) (All-push (IsGenerator names.field n names.d) c.loop-i.gens.items c.in_ok-generator.field-0 c.loop-i.invariant.valid c.in_ok-generator.ensures.valid);
    }
