use Rattle.run_core.specs.Replay.{IsRun}
use Rattle.run_core.proofs.replay.replay.Given as goal

abbrev pub invariant-loop-i : goal.invariant-loop-i
invariant-loop-i l = IsRun l.problem l.entries l.known l.hand l.i l.worker
