use Rattle.std.proofs.Common.{◌≡◌, ◌∙◌, ap}
use Rattle.run_core.specs.State.{Seat}
use Rattle.run_core.specs.Effects.{kept, given}
use Rattle.run_core.specs.SeatCode.{seat_at}
use Rattle.run_core.proofs.Machines.{seat_read, split_read, split_made}
use Rattle.run_core.proofs.machine.Machine.do_split.Goals as goal

pub returns-clause-ok : goal.returns-clause-ok
returns-clause-ok c =
    let s = c.args.self.now in
    let i = c.args.i in
    let v : Seat = seat_at s i in
    let is : c.index.result.now ≡ v = seat_read s _ i c.index.result.now c.self.view_is c.requires.place c.index.ensures in
    let new : c.in_ok-given.given ≡ given v = c.in_ok-given.ensures ∙ ap given is in
    let old : c.index_mut-seat.result.now ≡ v = split_read s _ i c.push.new.self.items c.in_ok-given.given c.index_mut-seat.result.now c.self.view_is c.requires.place c.in_ok-push.ensures.items c.index_mut-seat.ensures.value in
    split_made s _ i c.push.new.self.items c.give.new.self c.in_ok-given.given c.self.view_is c.requires.place c.in_ok-push.ensures.items (c.give.ensures ∙ ap kept old) new
