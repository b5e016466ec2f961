use Rattle.std.proofs.Common.{◌≡◌, ◌++◌, Some, None, subst}
use Rattle.mora_law.specs.Ring.{ranks_of_problem}
use Rattle.mora_law.specs.Step.{choose, firsts}
use Rattle.mora_law.specs.Entries.{basis_of}
use Rattle.mora_law.specs.declared.step_end.StepEnd.TheVariants.{Reduced}
use Rattle.mora_law.proofs.Ring.{problem_is_admissible}
use Rattle.mora_law.proofs.Choice.{lead_is}
use Rattle.cert_check.specs.Sparse.{at, IsClean}
use Rattle.cert_check.specs.Replay.{vectors_of, terms_at, reducer_with, state}
use Rattle.cert_check.proofs.Ends.{clean_lead}
use Rattle.cert_check.proofs.Stepping.{cut_clean, step_zero, step_stuck, step_reduced}
use Rattle.cert_check.proofs.Starts.{positive}
use Rattle.cert_check.proofs.step.step.Goals as goal

pub returns-in_default-clause-step : goal.returns-in_default-clause-step
returns-in_default-clause-step c = step_zero (ranks_of_problem c.args.problem.now) c.args.entries.now (at c.args.h.now.terms) (at c.cut.new.self.terms) c.args.kept.now.items c.args.reading.known c.args.reading.corner c.cut.ensures c.in_default.ensures

pub returns-in_default-choose-clause-step : goal.returns-in_default-choose-clause-step
returns-in_default-choose-clause-step c =
    let clean : IsClean c.args.problem.now (at c.cut.new.self.terms) = cut_clean c.args.problem.now c.args.reading.corner (at c.args.h.now.terms) (at c.cut.new.self.terms) (positive c.args.problem.now c.requires.problem) c.cut.ensures c.requires.clean in
    step_stuck (ranks_of_problem c.args.problem.now) c.args.entries.now (at c.args.h.now.terms) (at c.cut.new.self.terms) c.args.kept.now.items c.args.reading.known c.args.reading.corner c.cut.ensures c.in-Some.lead.rank
    (lead_is (ranks_of_problem c.args.problem.now) (at c.cut.new.self.terms) c.in-Some.lead.rank (clean_lead c.args.problem.now (problem_is_admissible _ c.requires.problem) (at c.cut.new.self.terms) clean c.in-Some.lead c.in-Some.ensures))
    (subst (λ xs. choose (ranks_of_problem c.args.problem.now) c.in-Some.lead.rank (firsts c.args.reading.known 0 (basis_of c.args.entries.now).member ++ vectors_of xs) ≡ None) c.deref.ensures.value c.in_default-choose.ensures)

pub returns-clause-step : goal.returns-clause-step
returns-clause-step c =
    let clean : IsClean c.args.problem.now (at c.cut.new.self.terms) = cut_clean c.args.problem.now c.args.reading.corner (at c.args.h.now.terms) (at c.cut.new.self.terms) (positive c.args.problem.now c.requires.problem) c.cut.ensures c.requires.clean in
    step_reduced (ranks_of_problem c.args.problem.now) c.args.entries.now (at c.args.h.now.terms) (at c.cut.new.self.terms) c.args.kept.now.items c.args.reading.known c.args.reading.corner c.cut.ensures
    (state (Some Reduced) (at c.reduce.new.h.terms) c.reduce.new.kept.items) c.in-Some.lead.rank (reducer_with (terms_at c.args.entries.now c.args.kept.now.items c.in-Some-choose.choice.place) c.in-Some-choose.choice.cofactor)
    (lead_is (ranks_of_problem c.args.problem.now) (at c.cut.new.self.terms) c.in-Some.lead.rank (clean_lead c.args.problem.now (problem_is_admissible _ c.requires.problem) (at c.cut.new.self.terms) clean c.in-Some.lead c.in-Some.ensures))
    (subst (λ xs. choose (ranks_of_problem c.args.problem.now) c.in-Some.lead.rank (firsts c.args.reading.known 0 (basis_of c.args.entries.now).member ++ vectors_of xs)
    ≡ Some (reducer_with (terms_at c.args.entries.now xs c.in-Some-choose.choice.place) c.in-Some-choose.choice.cofactor)) c.deref.ensures.value c.in-Some-choose.ensures.0)
    c.in_ok-reduce.ensures.step
