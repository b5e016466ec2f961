use Rattle.std.proofs.Common.{◌≡◌, ◌-◌}
use Rattle.reducer_list.specs.View.{top}
use Rattle.workers.specs.Running.{IsRunning, GoesOn}
use Rattle.workers.proofs.runner.Runner.work.Given as goal

abbrev pub invariant-loop : goal.invariant-loop
invariant-loop l = IsRunning l.board l.self × GoesOn l.fn.self.seat.view l.self.seat.view × (l.self.space.reductions ≡ l.fn.self.space.reductions)

abbrev pub decreases-loop : goal.decreases-loop
decreases-loop l = top l.board.setting - l.self.seat.view.seat.known
