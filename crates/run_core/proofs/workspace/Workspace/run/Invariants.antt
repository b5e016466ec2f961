use Rattle.std.proofs.Common.{◌+◌, ◌-◌, length}
use Rattle.run_core.specs.State.{count_of}
use Rattle.run_core.proofs.Working.{GoesOn}
use Rattle.run_core.proofs.workspace.Workspace.run.Given as goal

abbrev pub invariant-loop-end : goal.invariant-loop-end
invariant-loop-end l = GoesOn l.fn.board l.board l.fn.self l.self l.end

abbrev pub decreases-loop-end : goal.decreases-loop-end
decreases-loop-end l = count_of l.fn.board.problem + 1 - length l.self.mora.reads
