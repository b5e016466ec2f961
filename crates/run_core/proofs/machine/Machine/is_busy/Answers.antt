use Rattle.std.proofs.Common.{ap}
use Rattle.std.specs.Prelude.{Ok}
use Rattle.run_core.specs.SeatCode.{seat_at}
use Rattle.run_core.proofs.Machines.{busy_by}
use Rattle.run_core.proofs.machine.Machine.is_busy.Goals as goal

pub returns : goal.returns
returns c = busy_by c.args.self.now (seat_at c.args.self.now c.args.i) _ _ c.is_some.ensures (λ e. c.in_ok-work.ensures.none (ap Ok e)) (λ w e. c.in_ok-work.ensures.some w (ap Ok e))
