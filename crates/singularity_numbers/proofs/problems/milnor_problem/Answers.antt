use Rattle.std.proofs.Common.{◌∙◌, ◌++◌, List, ap, arith, map}
use Rattle.sparse_poly.specs.Poly.{Polynomial, in_variables}
use Rattle.sparse_poly.specs.Jacobian.{jacobian_ideal}
use Rattle.singularity_numbers.proofs.Limits.{milnor_is_problem, problem_by_terms}
use Rattle.singularity_numbers.proofs.problems.milnor_problem.Goals as goal

pub new-requires-clause-problem : goal.new-requires-clause-problem
new-requires-clause-problem c =
    let n = c.args.n in
    let gens = jacobian_ideal c.args.field.now n c.args.d c.args.f.now.terms in
    milnor_is_problem c.args.field.now n c.args.d c.prime-prime.ensures.offered
    (omega (arith, c.n-variables.ensures.value, c.n-variables.ensures.few, c.requires.function.variables))
    (omega (arith, c.n-variables.ensures.value, c.n-variables.ensures.some, c.requires.function.variables))
    c.requires.some c.requires.low c.requires.few c.args.f.now.terms c.push_partials.new.gens
    (c.in_ok-push_partials.ensures.gens ∙ ap (λ (l : List Polynomial). l ++ map (in_variables n) gens) c.new-gens.ensures)
    c.in_ok-push_partials.ensures.valid

pub returns : goal.returns
returns c =
    let n = c.args.n in
    let gens = jacobian_ideal c.args.field.now n c.args.d c.args.f.now.terms in
    problem_by_terms c.args.field.now n c.args.d c.new.result c.push_partials.new.gens gens
    (c.in_ok-push_partials.ensures.gens ∙ ap (λ (l : List Polynomial). l ++ map (in_variables n) gens) c.new-gens.ensures)
    c.new.ensures
