use Rattle.std.proofs.Common.{arith, ap, map, sym, ◌∙◌}
use Rattle.sparse_poly.specs.Poly.{in_variables}
use Rattle.sparse_poly.specs.Ideal.{Problem}
use Rattle.local_std.proofs.Prefixes.{problem_same}
use Rattle.local_std.proofs.same.is_same_problem.Goals as goal

pub returns : goal.returns
returns c = (
  λ t.
      problem_same c.args.a.now c.args.b.now
      (omega (arith, c.if-prime.false, c.prime.ensures.value, c.prime-2.ensures.value, c.field.ensures.value, c.field-2.ensures.value))
      (omega (arith, c.if-n.false, c.n.ensures.value, c.n-else-prime.ensures.value))
      (omega (arith, c.if-d.false, c.d.ensures.value, c.d-else-n.ensures.value))
      (sym c.gens.ensures.value ∙ c.are_same.ensures.0 t ∙ c.gens-2.ensures.value),
  λ e. c.are_same.ensures.1 (c.gens.ensures.value ∙ ap (λ (P : Problem). map (in_variables P.n) P.gens) e ∙ sym c.gens-2.ensures.value),
)
