use Rattle.std.proofs.Common.{◌≡◌, ◌-◌, ◌<◌, ℕ, suc, List, ◌∷◌, ◌++◌, length, sym, ◌∙◌, ap₂, subst, arith}
use Rattle.entry_code.specs.declared.term.Term.{Term}
use Rattle.entry_code.specs.Entry.{entry_of, entry_at}
use Rattle.mora_law.specs.Ring.{ranks_of_problem}
use Rattle.mora_law.specs.Step.{choose, firsts}
use Rattle.mora_law.specs.Entries.{basis_of}
use Rattle.entry_code.specs.Terms.{vector_of_terms}
use Rattle.cert_check.specs.Replay.{terms_at, IsChosen}
use Rattle.cert_check.proofs.Stored.{stored_entry, entry_is}
use Rattle.cert_check.proofs.Choosing.{firsts_from}
use Rattle.cert_check.proofs.choice.choose_entry.Goals as goal

pub loop-left-init : goal.loop-left-init
loop-left-init c = (
  omega arith,
  λ kept vs x.
      subst (λ n. IsChosen (ranks_of_problem c.args.problem.now) c.args.known (length kept) (terms_at c.args.entries.now kept) c.args.behind (choose (ranks_of_problem c.args.problem.now) c.args.lead (firsts n c.args.known (basis_of c.args.entries.now).member ++ vs)))
      (let z : 0 ≡ c.args.known - c.args.known = omega arith in z) x,
)

pub get-requires : goal.get-requires
get-requires c = omega (arith, c.loop-left.invariant.0, c.requires.known, c.loop-left-test.true)

pub better-best-requires-clause-stored : goal.better-best-requires-clause-stored
better-best-requires-clause-stored c = stored_entry c.args.problem.now c.args.entries.now (c.loop-left.left - 1) (entry_of c.get.result.now) c.requires.stored c.get.ensures

pub loop-left-preserved : goal.loop-left-preserved
loop-left-preserved c = (
  omega (arith, c.loop-left.invariant.0),
  λ kept vs x.
      subst (λ ws. IsChosen (ranks_of_problem c.args.problem.now) c.args.known (length kept) (terms_at c.args.entries.now kept) c.better-best.result (choose (ranks_of_problem c.args.problem.now) c.args.lead (ws ++ vs)))
      (sym (firsts_from c.args.known (c.loop-left.left - 1) (basis_of c.args.entries.now).member within
      ∙ ap₂ (λ (ts : List Term) (n : ℕ). vector_of_terms ts ∷ firsts (c.args.known - n) n (basis_of c.args.entries.now).member) here next))
      (c.better-best.ensures c.args.known (length kept) (terms_at c.args.entries.now kept)
      (choose (ranks_of_problem c.args.problem.now) c.args.lead (firsts (c.args.known - c.loop-left.left) c.loop-left.left (basis_of c.args.entries.now).member ++ vs)) within here (c.loop-left.invariant.1 kept vs x)),
)
  where
    next : suc (c.loop-left.left - 1) ≡ c.loop-left.left
    next = omega (arith, c.loop-left-test.true)

    within : c.loop-left.left - 1 < c.args.known
    within = omega (arith, c.loop-left-test.true, c.loop-left.invariant.0)

    here : (entry_at c.args.entries.now (c.loop-left.left - 1)).terms ≡ c.get.result.now.terms.list
    here = entry_is c.args.entries.now (c.loop-left.left - 1) (entry_of c.get.result.now) c.get.ensures

pub returns : goal.returns
returns c = λ kept vs x.
    subst (λ n. IsChosen (ranks_of_problem c.args.problem.now) c.args.known (length kept) (terms_at c.args.entries.now kept) c.loop-left.best (choose (ranks_of_problem c.args.problem.now) c.args.lead (firsts n 0 (basis_of c.args.entries.now).member ++ vs)))
    (let z : c.args.known - 0 ≡ c.args.known = omega arith in z)
    (subst (λ n. IsChosen (ranks_of_problem c.args.problem.now) c.args.known (length kept) (terms_at c.args.entries.now kept) c.loop-left.best (choose (ranks_of_problem c.args.problem.now) c.args.lead (firsts (c.args.known - n) n (basis_of c.args.entries.now).member ++ vs)))
    (let z : c.loop-left.left ≡ 0 = omega (arith, c.loop-left-test.false) in z)
    (c.loop-left.invariant.1 kept vs x))
