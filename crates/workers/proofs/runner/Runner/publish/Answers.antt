use Rattle.std.proofs.Common.{◌≡◌, suc, [], ◌∷◌, ◌++◌, Some, sym, ap, ◌∙◌, subst, refl}
use Rattle.entry_code.specs.Entry.{Entry, entry_of, entry_at}
use Rattle.mora_law.specs.Legal.{Legal}
use Rattle.entry_code.specs.Words.{words_of}
use Rattle.mora_form.specs.State.{State as MoraState, HasRun}
use Rattle.run_core.specs.Hand.{reads_of, marked, is_zero}
use Rattle.run_core.specs.Work.{Holds}
use Rattle.run_core.proofs.Running.{draft_alike}
use Rattle.reducer_list.specs.View.{View}
use Rattle.reducer_list.specs.Steps.{made, posted, learnt_view}
use Rattle.workers.proofs.Knowing.{known_posted, next_known, own_entry, placed_with, problem_here}
use Rattle.workers.proofs.Stepping.{stuck_is}
use Rattle.workers.proofs.Carrying.{ended_posted, goes_longer, in_hand_longer}
use Rattle.workers.proofs.Lasting.{posted_shut}
use Rattle.workers.proofs.runner.Runner.publish.Goals as goal

pub publish-requires-clause-stuck : goal.publish-requires-clause-stuck
publish-requires-clause-stuck c = let s = c.requires.stuck in stuck_is c.args.self.now.seat.view c.args.self.now.space.mora s.hand s.ended s.last

pub publish-requires-clause-draft : goal.publish-requires-clause-draft
publish-requires-clause-draft c =
    let h = c.requires.stuck.hand in
    let v : View = c.args.self.now.seat.view in
    c.draft.ensures.run v.setting.problem v.list h.run ∙ draft_alike v.setting.problem v.list h.ticket c.args.self.now.space.mora v.seat.hand h.item h.hand

pub learn-requires : goal.learn-requires
learn-requires c =
    let s = c.requires.stuck in
    let v : View = c.args.self.now.seat.view in
    let done = c.in-Published.ensures.done in
    let is : c.publish.new.seat.view ≡ posted v = done.1 in
    let own : entry_of c.recall.new.room ≡ made v = c.recall.ensures.entry ∙ ap (λ (u : View). entry_at u.list c.in-Published.place) is ∙ own_entry v c.args.self.now.space s.placed.equipped.known c.in-Published.place done.0 in
    let legal : Legal v.setting.problem (v.list ++ made v ∷ []) = subst (λ (u : View). Legal u.setting.problem u.list) is (c.in-Published.ensures.legal (λ z. absurd (cc))) in
    record {
      next = next_known c.problem.result.now v c.args.self.now.space (entry_of c.recall.new.room) s.placed.equipped.known (problem_here c.args.board.now c.args.self.now s.placed c.problem.result.now c.problem.ensures)
          (subst (λ (e : Entry). Legal v.setting.problem (v.list ++ e ∷ [])) (sym own) legal);
    }

pub returns-in-Published-clause-placed : goal.returns-in-Published-clause-placed
returns-in-Published-clause-placed c =
    let s = c.requires.stuck in
    let k = s.placed.equipped.known in
    let v : View = c.args.self.now.seat.view in
    let done = c.in-Published.ensures.done in
    let is : c.publish.new.seat.view ≡ posted v = done.1 in
    let last : c.recall.new.seat.view ≡ posted v = c.recall.ensures.before (ap (λ (u : View). u.reading) is ∙ k.quiet) ∙ is in
    let own : entry_of c.recall.new.room ≡ made v = c.recall.ensures.entry ∙ ap (λ (u : View). entry_at u.list c.in-Published.place) is ∙ own_entry v c.args.self.now.space k c.in-Published.place done.0 in
    let legal : Legal v.setting.problem (v.list ++ made v ∷ []) = subst (λ (u : View). Legal u.setting.problem u.list) is (c.in-Published.ensures.legal (λ z. absurd (cc))) in
    let same = problem_here c.args.board.now c.args.self.now s.placed c.problem.result.now c.problem.ensures in
    let holds : Holds v.setting.problem (v.list ++ made v ∷ []) c.learn.new.self =
    subst (λ (e : Entry). Holds v.setting.problem (v.list ++ e ∷ []) c.learn.new.self) own
    (subst (λ P. Holds P (v.list ++ entry_of c.recall.new.room ∷ []) c.learn.new.self) same (c.learn.ensures.holds v.list (subst (λ P. Holds P v.list c.args.self.now.space) (sym same) k.holds))) in
    placed_with c.args.board.now c.args.self.now _ s.placed c.recall.ensures.board (ap (λ (u : View). u.seat.numbers) last) (ap (λ (u : View). u.setting) last)
    (known_posted v c.recall.new.seat.view c.args.self.now.space c.learn.new.self k last legal holds) refl c.recall.ensures.room

pub returns-in-Published-clause-done : goal.returns-in-Published-clause-done
returns-in-Published-clause-done c =
    let s = c.requires.stuck in
    let k = s.placed.equipped.known in
    let v : View = c.args.self.now.seat.view in
    let m : MoraState = c.args.self.now.space.mora in
    let is : c.publish.new.seat.view ≡ posted v = c.in-Published.ensures.done.1 in
    let last : c.recall.new.seat.view ≡ posted v = c.recall.ensures.before (ap (λ (u : View). u.reading) is ∙ k.quiet) ∙ is in
    let some = s.hand.run.some (λ z. absurd (cc (sym s.ended ∙ z))) in
    record {
      shut = posted_shut v c.recall.new.seat.view m last s.hand;
      ended = ended_posted v c.recall.new.seat.view c.args.self.now.space k m last s.hand some;
      reads = ap (λ (u : View). reads_of u.seat.hand) last ∙ ap (λ o. reads_of (marked o)) s.hand.hand ∙ sym (ap (λ (x : MoraState). x.reads) c.learn.ensures.mora);
    }

pub returns-in-Longer-clause-done : goal.returns-in-Longer-clause-done
returns-in-Longer-clause-done c =
    let s = c.requires.stuck in
    let v : View = c.args.self.now.seat.view in
    let m : MoraState = c.args.self.now.space.mora in
    let l = c.learn-learnt.new.self in
    let seen = c.in-Longer.ensures.done in
    let look = c.if-prove.ensures.look in
    let is : l.seat.view ≡ record (learnt_view look.0 (record v { draft = words_of (made v); taken = Some seen.0 })) { looks = suc v.looks } =
    look.1 ∙ ap (λ (u : View). record (learnt_view look.0 u) { looks = suc u.looks }) seen.1 in
    let same = c.learn-learnt.ensures.mora in
    let more : HasRun l.seat.view.setting.problem l.seat.view.list l.space.mora =
    c.learn-learnt.ensures.run (subst (λ (u : View). HasRun u.setting.problem u.list m) (sym seen.1) s.hand.run) in
    record {
      running = record {
        placed = c.learn-learnt.ensures.placed;
        hand = in_hand_longer v l.seat.view (words_of (made v)) seen.0 look.0 is m l.space.mora s.hand same more;
        opened = ap (λ (x : MoraState). x.is_open) same ∙ s.opened (λ z. absurd (cc));
        going = ap (λ (x : MoraState). is_zero x.end) same ∙ ap is_zero s.ended;
      };
      on = goes_longer v l.seat.view (words_of (made v)) seen.0 look.0 is;
      more = ap (λ (u : View). u.seat.known) is;
    }
