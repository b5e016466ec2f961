use Rattle.std.proofs.Common.{◌≡◌, ℕ, suc, ◌+◌, ◌<◌, [], ◌∷◌, ◌++◌, length, take, Some, sym, ◌∙◌, ap, subst, arith, List}
use Rattle.std.specs.List.{slice_get}
use Rattle.std.proofs.lemmas.List.{take_more}
use Rattle.std.proofs.lemmas.Option.{get_or_from_slice_get}
use Rattle.entry_code.specs.Entry.{Entry, entry_of, no_entry}
use Rattle.mora_law.specs.Legal.{Legal}
use Rattle.mora_law.proofs.Growth.{legal_take}
use Rattle.mora_form.specs.State.{HasRun}
use Rattle.run_core.specs.Work.{Holds}
use Rattle.run_core.proofs.workspace.Workspace.learn_at.Goals as goal

-- the first entries and the next one
more : (entries : List Entry) (n : ℕ) (e : Entry) → n < length entries → slice_get entries n ≡ Some e → take (suc n) entries ≡ take n entries ++ e ∷ []
more entries n e l at =
    (let z : n + 1 ≡ suc n = omega arith in ap (λ k. take k entries) (sym z)) ∙ take_more entries n no_entry l ∙ ap (λ x. take n entries ++ x ∷ []) (get_or_from_slice_get entries n e no_entry at)

pub learn-requires : goal.learn-requires
learn-requires c =
    let P = c.args.problem.now in
    let e : Entry = entry_of c.get.result.now in
    let next = more c.args.entries.now c.args.number e c.requires.next c.get.ensures in
    record { next = (take c.args.number c.args.entries.now, c.requires.holds, subst (Legal P) next (legal_take P c.args.entries.now (suc c.args.number) (omega (arith, c.requires.next)) c.requires.legal)) }

pub returns-clause-holds : goal.returns-clause-holds
returns-clause-holds c =
    subst (λ l. Holds c.args.problem.now l c.learn.new.self) (sym (more c.args.entries.now c.args.number (entry_of c.get.result.now) c.requires.next c.get.ensures))
    (c.learn.ensures.holds (take c.args.number c.args.entries.now) c.requires.holds)

pub returns-clause-run : goal.returns-clause-run
returns-clause-run c = λ run.
    subst (λ l. HasRun c.args.problem.now l c.learn.new.self.mora) (sym (more c.args.entries.now c.args.number (entry_of c.get.result.now) c.requires.next c.get.ensures))
    (c.learn.ensures.run (take c.args.number c.args.entries.now) run)
