use Rattle.std.proofs.Common.{◌≡◌, suc, ◌++◌, ◌∷◌, [], length, take, sym, ◌∙◌, ap, subst, arith, length-append}
use Rattle.std.proofs.lemmas.List.{take_all}
use Rattle.sparse_poly.specs.Ideal.{IsProblem}
use Rattle.mora_law.specs.Legal.{Legal}
use Rattle.run_core.specs.Plain.{Plain, plain_draft}
use Rattle.run_core.specs.Work.{Holds, IsReady}
use Rattle.run_core.proofs.Publishing.{draft_is, place, sound, done}
use Rattle.run_core.proofs.workspace.Workspace.publish.Goals as goal

pub publish-requires-clause-draft : goal.publish-requires-clause-draft
publish-requires-clause-draft c = c.draft.ensures.run c.args.board.now.problem c.args.board.now.entries c.requires.run.run ∙ draft_is c.args.board.now c.args.self.now.mora c.requires.run.hand

pub publish-requires-clause-few : goal.publish-requires-clause-few
publish-requires-clause-few c = place c.args.board.now c.args.self.now c.requires.run (subst IsProblem c.requires.problem c.n-problem.ensures.problem)

pub learn_at-requires-clause-legal : goal.learn_at-requires-clause-legal
learn_at-requires-clause-legal c =
    let b : Plain = c.args.board.now in
    let entries = c.entries.ensures ∙ ap (λ (x : Plain). x.entries) c.in_ok-number.ensures.ok in
    subst (λ p. Legal p c.entries.result.now) (sym c.requires.problem) (subst (Legal b.problem) (sym entries) (sound b c.args.self.now c.requires.run).legal)

pub returns-clause-ready : goal.returns-clause-ready
returns-clause-ready c =
    let b : Plain = c.args.board.now in
    let r = c.requires.run in
    let entries : c.entries.result.now ≡ b.entries ++ plain_draft b ∷ [] = c.entries.ensures ∙ ap (λ (x : Plain). x.entries) c.in_ok-number.ensures.ok in
    let all : take (suc c.in_ok-number.number) c.entries.result.now ≡ b.entries ++ plain_draft b ∷ [] =
    take_all (suc c.in_ok-number.number) c.entries.result.now (omega (arith, ap length entries, length-append b.entries (plain_draft b ∷ []), c.in_ok-number.ensures.number)) ∙ entries in
    let holds : Holds b.problem (b.entries ++ plain_draft b ∷ []) c.learn_at.new.self =
    subst (λ p. Holds p (b.entries ++ plain_draft b ∷ []) c.learn_at.new.self) c.requires.problem (subst (λ l. Holds c.args.problem.now l c.learn_at.new.self) all c.learn_at.ensures.holds) in
    subst (λ (x : Plain). IsReady x c.learn_at.new.self) (sym c.in_ok-number.ensures.ok) (record { sound = sound b c.args.self.now r; idle = done b c.args.self.now r; holds = holds })
