use Rattle.run_core.proofs.Replays.{HasLearnt}
use Rattle.run_core.proofs.workspace.Workspace.learn_to.Given as goal

abbrev pub invariant-loop-k : goal.invariant-loop-k
invariant-loop-k l = HasLearnt l.problem l.entries l.fn.self l.k l.self
