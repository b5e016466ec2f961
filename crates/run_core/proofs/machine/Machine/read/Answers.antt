use Rattle.std.proofs.Common.{ap}
use Rattle.std.specs.Prelude.{Ok}
use Rattle.run_core.specs.Schedule.{where_true}
use Rattle.run_core.specs.Effects.{after_corner}
use Rattle.run_core.specs.SeatCode.{seat_at}
use Rattle.run_core.proofs.Machines.{did}
use Rattle.run_core.proofs.machine.Machine.read.Goals as goal

pub do_read-requires-clause-work : goal.do_read-requires-clause-work
do_read-requires-clause-work c = c.in_ok-worker.ensures.some c.in-Some.worker (ap Ok c.in-Some.is)

pub returns : goal.returns
returns c =
    let s = c.args.self.now in
    let v = seat_at s c.args.i in
    did s c.do_read.new.self (after_corner s c.args.i v) _ (ap (λ b. where_true b (after_corner s c.args.i v)) (c.in_ok-worker.ensures.some c.in-Some.worker (ap Ok c.in-Some.is)).opened) c.in_ok-do_read.ensures.ok
