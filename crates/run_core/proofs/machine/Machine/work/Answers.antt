use Rattle.std.proofs.Common.{◌≡◌, ◌∙◌}
use Rattle.run_core.specs.SeatCode.{seat_at}
use Rattle.run_core.proofs.Machines.{seat_read, hand_known, hand_at, work_at}
use Rattle.run_core.proofs.machine.Machine.work.Goals as goal

pub at_work-requires : goal.at_work-requires
at_work-requires c =
    let s = c.args.self.now in
    let is : c.index-seat.result.now ≡ seat_at s c.args.i = seat_read s _ c.args.i c.index-seat.result.now c.self.view_is c.requires.place c.index-seat.ensures in
    record { hand = hand_at s _ _ (seat_at s c.args.i) c.self.view_is (c.seat.view_is ∙ is) (hand_known s c.args.i c.requires.sound c.requires.place) }

pub returns-clause-some : goal.returns-clause-some
returns-clause-some c = λ w e.
    let s = c.args.self.now in
    let is : c.index-seat.result.now ≡ seat_at s c.args.i = seat_read s _ c.args.i c.index-seat.result.now c.self.view_is c.requires.place c.index-seat.ensures in
    work_at s _ _ (seat_at s c.args.i) w c.self.view_is (c.seat.view_is ∙ is) (c.at_work.ensures.some w e)
