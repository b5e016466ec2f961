use Rattle.std.proofs.Common.{◌≡◌, All, false, true, refl, arith, subst, sym}
use Rattle.std.proofs.lemmas.List.{length-map}
use Rattle.sparse_poly.specs.Poly.{Polynomial}
use Rattle.sparse_poly.specs.Ideal.{IsGenerator}
use Rattle.sparse_poly.proofs.Generators.{terms_of_generators, generators_of_terms}
use Rattle.sparse_poly.proofs.problem.Problem.checked.Goals as goal

pub returns-then-not-are_generators-clause-none : goal.returns-then-not-are_generators-clause-none
returns-then-not-are_generators-clause-none c (problem, variables) =
    let gens = subst (All (IsGenerator c.args.field c.args.n c.args.d)) (sym c.as_slice.ensures) (generators_of_terms c.args.field c.args.n c.args.d c.args.gens variables problem.canonical problem.low) in
    let wrong : false ≡ true = c.if-not-are_generators.ensures.1 gens in
    cc

pub invariant_of-result : goal.invariant_of-result
invariant_of-result c =
    let gens : All (IsGenerator c.args.field c.args.n c.args.d) c.args.gens = subst (All (IsGenerator c.args.field c.args.n c.args.d)) c.as_slice.ensures (c.if-not-are_generators.ensures.0 refl) in
    let terms = terms_of_generators c.args.field c.args.n c.args.d c.args.gens gens in (
      record {
        prime = c.prime-prime.ensures.offered;
        some = omega arith;
        few = omega arith;
        degree_some = omega arith;
        degree_few = omega arith;
        monomials = omega arith;
        canonical = terms.0;
        low = terms.1;
        few_gens = omega (arith, length-map c.args.gens (λ (f : Polynomial). f.terms));
      },
      λ k x l. (gens k x l).variables,
    )
