use Rattle.std.proofs.Common.{◌≡◌, ◌-◌, ◌<◌, ℕ, suc, List, ◌∷◌, length, drop, get_or, sym, ◌∙◌, ap, ap₂, subst, arith}
use Rattle.std.proofs.lemmas.List.{get_or_default}
use Rattle.entry_code.specs.Placed.{Placed}
use Rattle.entry_code.specs.declared.term.Term.{Term}
use Rattle.mora_law.specs.Ring.{ranks_of_problem}
use Rattle.mora_law.specs.Step.{choose}
use Rattle.entry_code.specs.Terms.{vector_of_terms}
use Rattle.cert_check.specs.Replay.{no_terms, vectors_of, terms_at, IsChosen}
use Rattle.cert_check.proofs.Choosing.{kept_from, kept_all}
use Rattle.cert_check.proofs.choice.choose_kept.Goals as goal

pub loop-left-preserved : goal.loop-left-preserved
loop-left-preserved c = (
  omega (arith, c.loop-left.invariant.0),
  λ entries known.
      subst (λ vs. IsChosen (ranks_of_problem c.args.problem.now) known (length c.args.kept.now) (terms_at entries c.args.kept.now) c.better-best.result (choose (ranks_of_problem c.args.problem.now) c.args.lead vs))
      (sym (kept_from c.args.kept.now (c.loop-left.left - 1) within ∙ ap₂ (λ (ts : List Term) (n : ℕ). vector_of_terms ts ∷ vectors_of (drop n c.args.kept.now)) here next))
      (c.better-best.ensures known (length c.args.kept.now) (terms_at entries c.args.kept.now) (choose (ranks_of_problem c.args.problem.now) c.args.lead (vectors_of (drop c.loop-left.left c.args.kept.now))) within here (c.loop-left.invariant.1 entries known)),
)
  where
    next : suc (c.loop-left.left - 1) ≡ c.loop-left.left
    next = omega (arith, c.loop-left-test.true)

    within : c.loop-left.left - 1 < length c.args.kept.now
    within = omega (arith, c.loop-left-test.true, c.loop-left.invariant.0)

    here : (get_or c.args.kept.now (c.loop-left.left - 1) no_terms).list ≡ c.index-kept-left.result.list
    here = ap (λ (x : Placed Term). x.list) (get_or_default c.args.kept.now (c.loop-left.left - 1) no_terms c.index-kept-left.result within ∙ sym c.index-kept-left.is)

pub returns : goal.returns
returns c = λ entries known.
    subst (λ (ts : List (Placed Term)). IsChosen (ranks_of_problem c.args.problem.now) known (length c.args.kept.now) (terms_at entries c.args.kept.now) c.loop-left.best (choose (ranks_of_problem c.args.problem.now) c.args.lead (vectors_of ts)))
    (ap (λ (n : ℕ). drop n c.args.kept.now) (let z : c.loop-left.left ≡ 0 = omega (arith, c.loop-left-test.false) in z) ∙ kept_all c.args.kept.now)
    (c.loop-left.invariant.1 entries known)
