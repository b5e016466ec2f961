use Rattle.workers.proofs.Turning.{Turns, turns_left}
use Rattle.workers.proofs.runner.Runner.turn.Given as goal

abbrev pub invariant-loop-self : goal.invariant-loop-self
invariant-loop-self g l = Turns l.board l.fn.self l.self

abbrev pub decreases-loop-self : goal.decreases-loop-self
decreases-loop-self g l = turns_left l.board l.self
