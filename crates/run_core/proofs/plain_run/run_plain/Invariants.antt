use Rattle.run_core.proofs.Turns.{TurnsOn, to_do}
use Rattle.run_core.proofs.plain_run.run_plain.Given as goal

abbrev pub invariant-loop-more : goal.invariant-loop-more
invariant-loop-more l = TurnsOn l.fn.problem l.board l.worker l.more

abbrev pub decreases-loop-more : goal.decreases-loop-more
decreases-loop-more l = to_do l.fn.problem l.board l.more
