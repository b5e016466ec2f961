use Rattle.std.proofs.Common.{◌≡◌, ◌+◌, ◌-◌, length}
use Rattle.run_core.specs.State.{count_of}
use Rattle.workers.specs.Running.{HasStepped, IsAsBefore}
use Rattle.workers.proofs.runner.Runner.run.Given as goal

abbrev pub invariant-loop-end : goal.invariant-loop-end
invariant-loop-end l = HasStepped l.board l.self l.end × IsAsBefore l.fn.self.seat.view l.self.seat.view × (l.self.space.reductions ≡ l.fn.self.space.reductions)

abbrev pub decreases-loop-end : goal.decreases-loop-end
decreases-loop-end l = count_of l.board.setting.problem + 1 - length l.self.space.mora.reads
