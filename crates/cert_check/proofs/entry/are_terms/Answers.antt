use Rattle.std.proofs.Common.{◌≡◌, false, true, arith}
use Rattle.mora_law.specs.Ring.{ranks_of_problem}
use Rattle.mora_law.proofs.Ring.{problem_is_admissible}
use Rattle.cert_check.specs.Sparse.{at}
use Rattle.cert_check.proofs.Tables.{all_ranks}
use Rattle.cert_check.proofs.Ends.{clean_lead}
use Rattle.cert_check.proofs.Starts.{subtracted_all}
use Rattle.cert_check.proofs.MonicTerms.{zero_of_nothing, nothing_of_zero, zero_has_none, monic_leaves, leaves_monic}
use Rattle.cert_check.proofs.entry.are_terms.Goals as goal

pub returns-in_default : goal.returns-in_default
returns-in_default c = (
  (λ y. absurd (let z : false ≡ true = y in cc z)),
  (λ e. absurd (zero_has_none c.args.problem.now (problem_is_admissible _ c.requires.problem) c.args.terms.now.list c.requires.stored (at c.args.h.now.terms) c.in_default.ensures e)),
)

pub returns : goal.returns
returns c =
    let low = all_ranks c.args.problem.now _ c.requires.table in
    let a = subtracted_all c.args.problem.now c.requires.problem c.in-Some.lead.coef _ (at c.args.h.now.terms) (at c.subtract.new.h.terms) c.count-count.result (omega (arith, c.count-count.ensures.value, low)) c.in_ok-subtract.ensures.value in
    let lead = clean_lead c.args.problem.now (problem_is_admissible _ c.requires.problem) (at c.args.h.now.terms) c.requires.clean c.in-Some.lead c.in-Some.ensures in (
      (λ y. leaves_monic c.args.problem.now (problem_is_admissible _ c.requires.problem) c.args.terms.now.list c.requires.stored (at c.args.h.now.terms) c.in-Some.lead lead c.in-Some.ensures.coef (at c.subtract.new.h.terms) a
          (nothing_of_zero (ranks_of_problem c.args.problem.now) (at c.subtract.new.h.terms) (c.is_zero.ensures.0 y))),
      (λ e. c.is_zero.ensures.1 (zero_of_nothing c.args.problem.now (at c.subtract.new.h.terms) c.in_ok-subtract.ensures.clean
          (monic_leaves c.args.problem.now (problem_is_admissible _ c.requires.problem) c.args.terms.now.list c.requires.stored (at c.args.h.now.terms) c.in-Some.lead lead c.in-Some.ensures.coef (at c.subtract.new.h.terms) a e))),
    )
