use Rattle.std.proofs.Common.{◌≡◌, Some, IsTrue, sym, ◌∙◌, ap, subst, arith}
use Rattle.rank_algebra.proofs.Linear.{quotient_le}
use Rattle.mora_law.specs.Ring.{ranks_of_problem}
use Rattle.mora_law.specs.Lead.{ecart}
use Rattle.mora_law.specs.Entries.{lead_rank}
use Rattle.entry_code.specs.Terms.{vector_of_terms}
use Rattle.mora_law.proofs.Ring.{problem_is_admissible, ranks_are}
use Rattle.cert_check.specs.Replay.{reducer_with, IsChosen, HasLessEcart}
use Rattle.cert_check.proofs.Choosing.{first_rank, better_none, better_front}
use Rattle.cert_check.proofs.choice.better.Goals as goal

pub returns-in_default : goal.returns-in_default
returns-in_default c = λ known kept at d place e x.
    subst (IsChosen (ranks_of_problem c.args.problem.now) known kept at c.args.best)
    (sym (better_none c.args.problem.now (problem_is_admissible _ c.requires.problem) c.args.lead c.args.terms.now.list c.requires.stored d
    (ap ((ranks_of_problem c.args.problem.now).quotient c.args.lead) (first_rank c.args.terms.now.list c.get-first.result c.get-first.ensures) ∙ sym c.quotient_rank.ensures ∙ c.in_default.is))) x

pub returns : goal.returns
returns c = λ known kept at d place e x.
    let q : (ranks_of_problem c.args.problem.now).quotient c.args.lead (lead_rank c.args.terms.now.list) ≡ Some c.in-Some.cofactor =
    ap ((ranks_of_problem c.args.problem.now).quotient c.args.lead) (first_rank c.args.terms.now.list c.get-first.result c.get-first.ensures) ∙ sym c.quotient_rank.ensures ∙ c.in-Some.is in
    let more : HasLessEcart c.args.best (ecart (ranks_of_problem c.args.problem.now) (vector_of_terms c.args.terms.now.list)) → ⊥ =
    (λ h. let z : IsTrue c.has_less_ecart.result = c.has_less_ecart.ensures.1 (subst (HasLessEcart c.args.best) (sym c.ecart_of-ecart.ensures) h) in cc (z, c.if-has_less_ecart.false)) in
    let low = quotient_le (ranks_of_problem c.args.problem.now) (ranks_are c.args.problem.now (problem_is_admissible _ c.requires.problem)) c.args.lead (lead_rank c.args.terms.now.list) c.in-Some.cofactor c.requires.lead q in (
      better_front c.args.problem.now (problem_is_admissible _ c.requires.problem) c.args.lead c.args.terms.now.list c.requires.stored c.in-Some.cofactor q known kept at c.args.best d more x
          ∙ ap (λ ts. Some (reducer_with ts c.in-Some.cofactor)) (sym e),
      record {
        within = place;
        small = omega (arith, low, c.requires.lead);
        ecart = c.ecart_of-ecart.ensures ∙ ap (λ ts. ecart (ranks_of_problem c.args.problem.now) (vector_of_terms ts)) (sym e);
      },
    )
