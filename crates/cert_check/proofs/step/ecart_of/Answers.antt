use Rattle.std.proofs.Common.{sym, ◌∙◌}
use Rattle.mora_law.proofs.Ring.{problem_is_admissible}
use Rattle.cert_check.specs.Sparse.{at}
use Rattle.cert_check.proofs.Ends.{clean_ends, ends_rise, ecart_by_ends}
use Rattle.cert_check.proofs.step.ecart_of.Goals as goal

pub degree_gap-requires-clause-rises : goal.degree_gap-requires-clause-rises
degree_gap-requires-clause-rises c = ends_rise c.args.problem.now (problem_is_admissible _ c.requires.problem) (at c.args.h.now.terms) c.args.lead.rank c.in-Some.last
    (clean_ends c.args.problem.now (problem_is_admissible _ c.requires.problem) (at c.args.h.now.terms) c.requires.clean c.args.lead c.in-Some.last c.requires.lead c.in-Some.ensures)

pub returns-in-Some : goal.returns-in-Some
returns-in-Some c = c.degree_gap.ensures ∙ sym (ecart_by_ends c.args.problem.now (problem_is_admissible _ c.requires.problem) (at c.args.h.now.terms) c.args.lead.rank c.in-Some.last
    (clean_ends c.args.problem.now (problem_is_admissible _ c.requires.problem) (at c.args.h.now.terms) c.requires.clean c.args.lead c.in-Some.last c.requires.lead c.in-Some.ensures))
