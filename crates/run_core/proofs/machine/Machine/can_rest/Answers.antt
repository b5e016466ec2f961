use Rattle.std.proofs.Common.{◌≡◌, ◌∙◌, ap}
use Rattle.run_core.specs.State.{Seat}
use Rattle.run_core.specs.SeatCode.{seat_at}
use Rattle.run_core.proofs.Machines.{seat_read, rest_is}
use Rattle.run_core.proofs.machine.Machine.can_rest.Goals as goal

pub returns : goal.returns
returns c =
    let s = c.args.self.now in
    let is : c.index-seat.result.now ≡ seat_at s c.args.i = seat_read s _ c.args.i c.index-seat.result.now c.self.view_is c.requires.place c.index-seat.ensures in
    c.may_rest.ensures ∙ rest_is s _ c.index-seat.result.now (seat_at s c.args.i) c.in_ok-busy.busy c.total-tickets.result c.generator_count.result c.seat.inside.known c.self.view_is is c.in_ok-busy.ensures
    c.generator_count.ensures c.total-tickets.ensures (ap (λ (z : Seat). z.known) c.seat.view_is) c.len.result c.len.ensures
