use Rattle.std.proofs.Common.{◌≡◌, ◌-◌, ◌<◌, suc, length, ap, sym, ◌∙◌, arith}
use Rattle.mora_law.specs.Ring.{ranks_of_problem}
use Rattle.mora_law.specs.Entries.{lead_rank}
use Rattle.entry_code.specs.Terms.{vector_of_terms}
use Rattle.mora_law.proofs.Ring.{problem_is_admissible}
use Rattle.cert_check.proofs.Ends.{stored_ends, ends_rise, ecart_by_ends}
use Rattle.cert_check.proofs.Choosing.{first_rank}
use Rattle.cert_check.proofs.choice.ecart_of.Goals as goal

pub degree_gap-requires-clause-rises : goal.degree_gap-requires-clause-rises
degree_gap-requires-clause-rises c =
    let some : 0 < length c.args.terms.now.list = c.requires.stored.some in
    let last : suc (c.len.result - 1) ≡ length c.args.terms.now.list = omega (arith, some, c.len.ensures) in
    let ends = stored_ends c.args.problem.now (problem_is_admissible _ c.requires.problem) c.args.terms.now.list c.requires.stored (c.len.result - 1) c.get-last.result last c.get-last.ensures in
    let rises = ends_rise c.args.problem.now (problem_is_admissible _ c.requires.problem) (vector_of_terms c.args.terms.now.list) (lead_rank c.args.terms.now.list) c.get-last.result.rank ends in
    omega (arith, rises, ap (ranks_of_problem c.args.problem.now).degree (first_rank c.args.terms.now.list c.get-first.result c.get-first.ensures))

pub returns : goal.returns
returns c =
    let some : 0 < length c.args.terms.now.list = c.requires.stored.some in
    let last : suc (c.len.result - 1) ≡ length c.args.terms.now.list = omega (arith, some, c.len.ensures) in
    let ends = stored_ends c.args.problem.now (problem_is_admissible _ c.requires.problem) c.args.terms.now.list c.requires.stored (c.len.result - 1) c.get-last.result last c.get-last.ensures in
    c.degree_gap.ensures
    ∙ ap (λ x. (ranks_of_problem c.args.problem.now).degree c.get-last.result.rank - (ranks_of_problem c.args.problem.now).degree x) (sym (first_rank c.args.terms.now.list c.get-first.result c.get-first.ensures))
    ∙ sym (ecart_by_ends c.args.problem.now (problem_is_admissible _ c.requires.problem) (vector_of_terms c.args.terms.now.list) (lead_rank c.args.terms.now.list) c.get-last.result.rank ends)
