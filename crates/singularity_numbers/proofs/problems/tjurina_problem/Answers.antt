use Rattle.std.proofs.Common.{arith, map}
use Rattle.sparse_poly.specs.Poly.{in_variables, cut}
use Rattle.sparse_poly.specs.Jacobian.{jacobian_ideal, tjurina_ideal}
use Rattle.singularity_numbers.proofs.Limits.{tjurina_is_problem, behind_function, problem_by_terms}
use Rattle.singularity_numbers.proofs.problems.tjurina_problem.Goals as goal

pub new-requires-clause-problem : goal.new-requires-clause-problem
new-requires-clause-problem c =
    let n = c.args.n in
    let f = c.args.f.now.terms in
    tjurina_is_problem c.args.field.now n c.args.d c.prime-prime.ensures.offered
    (omega (arith, c.n-variables.ensures.value, c.n-variables.ensures.few, c.requires.function.variables))
    (omega (arith, c.n-variables.ensures.value, c.n-variables.ensures.some, c.requires.function.variables))
    c.requires.some c.requires.low c.requires.few f c.push_partials.new.gens
    (behind_function c.new-gens.result c.push.new.self c.push_partials.new.gens (map (in_variables n) (jacobian_ideal c.args.field.now n c.args.d f)) c.in_ok-cut_beyond.field-0 (in_variables n (cut c.args.d f))
    c.new-gens.ensures c.in_ok-push.ensures.ok c.in_ok-cut_beyond.ensures.value c.in_ok-push_partials.ensures.gens)
    c.in_ok-push_partials.ensures.valid

pub returns : goal.returns
returns c =
    let n = c.args.n in
    let f = c.args.f.now.terms in
    problem_by_terms c.args.field.now n c.args.d c.new.result c.push_partials.new.gens (tjurina_ideal c.args.field.now n c.args.d f)
    (behind_function c.new-gens.result c.push.new.self c.push_partials.new.gens (map (in_variables n) (jacobian_ideal c.args.field.now n c.args.d f)) c.in_ok-cut_beyond.field-0 (in_variables n (cut c.args.d f))
    c.new-gens.ensures c.in_ok-push.ensures.ok c.in_ok-cut_beyond.ensures.value c.in_ok-push_partials.ensures.gens)
    c.new.ensures
