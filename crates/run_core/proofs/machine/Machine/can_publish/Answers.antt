use Rattle.std.proofs.Common.{◌≡◌, ◌&&◌, eqb, length, ◌∙◌, ap, ap₂}
use Rattle.mora_law.specs.Run.{last_known}
use Rattle.run_core.specs.State.{Seat, State}
use Rattle.run_core.specs.SeatCode.{seat_at}
use Rattle.run_core.specs.Schedule.{is_stuck}
use Rattle.run_core.proofs.Machines.{seat_read, publish_is}
use Rattle.run_core.proofs.machine.Machine.can_publish.Goals as goal

pub returns : goal.returns
returns c =
    let s = c.args.self.now in
    let w = c.args.worker.now in
    let is : c.index-seat.result.now ≡ seat_at s c.args.i = seat_read s _ c.args.i c.index-seat.result.now c.self.view_is c.requires.place c.index-seat.ensures in
    let knows = ap (λ (v : Seat). v.known) (c.seat.view_is ∙ is) in
    publish_is s (seat_at s c.args.i) w c.requires.work _ (c.is_publishable.ensures
    ∙ ap₂ (λ k n. eqb k n && (is_stuck w.mora.end && eqb (last_known 0 w.mora.reads) k)) knows (c.len.ensures ∙ ap (λ (t : State). length t.entries) c.self.view_is))
