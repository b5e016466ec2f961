use Rattle.std.proofs.Common.{◌≡◌, ◌+◌, suc, ◌∷◌, ◌++◌, [], length, sym, ◌∙◌, ap, ap₂, subst, arith}
use Rattle.sparse_poly.specs.Ideal.{IsProblem}
use Rattle.entry_code.specs.Entry.{Entry}
use Rattle.run_core.specs.Hand.{marked}
use Rattle.run_core.specs.State.{Seat, State, known_by, steps_of}
use Rattle.run_core.specs.Effects.{draft_by, shown}
use Rattle.run_core.specs.SeatCode.{seat_at}
use Rattle.run_core.proofs.Machines.{seat_read, known_small, published_small, reads_small, can_publish_is, end_is, draft_is, publish_made}
use Rattle.run_core.proofs.machine.Machine.do_publish.Goals as goal

pub draft-requires : goal.draft-requires
draft-requires c =
    let s = c.args.self.now in
    let v : Seat = seat_at s c.args.i in
    sym (end_is s.problem (known_by s v) v.hand c.args.worker.now c.requires.work) ∙ (can_publish_is s v c.requires.can).2

pub publish-requires-clause-known : goal.publish-requires-clause-known
publish-requires-clause-known c =
    let s = c.args.self.now in
    let p : IsProblem s.problem = subst (λ (t : State). IsProblem t.problem) c.self.view_is c.n-problem.ensures.problem in
    let is : c.index_mut-seat.result.now ≡ seat_at s c.args.i = seat_read s _ c.args.i c.index_mut-seat.result.now c.self.view_is c.requires.place c.index_mut-seat.ensures.value in
    omega (arith, ap (λ (v : Seat). v.known) is, known_small s c.requires.sound p c.args.i c.requires.place)

pub publish-requires-clause-published : goal.publish-requires-clause-published
publish-requires-clause-published c =
    let s = c.args.self.now in
    let p : IsProblem s.problem = subst (λ (t : State). IsProblem t.problem) c.self.view_is c.n-problem.ensures.problem in
    let is : c.index_mut-seat.result.now ≡ seat_at s c.args.i = seat_read s _ c.args.i c.index_mut-seat.result.now c.self.view_is c.requires.place c.index_mut-seat.ensures.value in
    omega (
      arith,
      ap (λ (v : Seat). v.published) is,
      published_small s c.requires.sound p c.args.i c.requires.place,
      reads_small s c.args.i c.requires.sound p c.requires.place c.args.worker.now c.requires.work,
      c.saturating_sub-steps.ensures,
      c.len.ensures,
      ap length c.readings.ensures,
    )

pub returns-clause-ok : goal.returns-clause-ok
returns-clause-ok c =
    let s = c.args.self.now in
    let i = c.args.i in
    let v : Seat = seat_at s i in
    let w = c.args.worker.now in
    let a = c.requires.work in
    let is : c.index_mut-seat.result.now ≡ v = seat_read s _ i c.index_mut-seat.result.now c.self.view_is c.requires.place c.index_mut-seat.ensures.value in
    let drafted = draft_is s.problem (known_by s v) v.hand w a in
    let entry = c.in_ok-entry.ensures ∙ c.draft.ensures.run s.problem (known_by s v) a.run.run ∙ drafted in
    let entries : c.push.new.self ≡ s.entries ++ draft_by s v ∷ [] = c.in_ok-push.ensures.ok ∙ ap₂ (λ l x. l ++ x ∷ []) (ap (λ (t : State). t.entries) c.self.view_is) entry in
    let steps : c.saturating_sub-steps.result ≡ steps_of (draft_by s v) =
    omega (arith, c.saturating_sub-steps.ensures, c.len.ensures, ap length c.readings.ensures, ap (λ (e : Entry). length e.reads) drafted) in
    let seat : c.publish.new.self ≡ shown s v = c.publish.ensures
    ∙ ap₂ (λ (z : Seat) n. record z { known = suc z.known; hand = marked z.hand; published = z.published + n }) is steps in
    publish_made s _ i c.push.new.self c.publish.new.self c.self.view_is entries seat
