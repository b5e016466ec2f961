use Rattle.workers.specs.Working.{CanTurn}
use Rattle.crew_tests.proofs.crew.carries.Given as goal

abbrev pub invariant-loop : goal.invariant-loop
invariant-loop l = CanTurn l.board l.worker
