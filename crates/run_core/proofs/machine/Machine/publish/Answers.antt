use Rattle.std.proofs.Common.{ap}
use Rattle.std.specs.Prelude.{Ok}
use Rattle.run_core.proofs.machine.Machine.publish.Goals as goal

pub can_publish-requires-clause-work : goal.can_publish-requires-clause-work
can_publish-requires-clause-work c = c.in_ok-worker.ensures.some c.in-Some.worker (ap Ok c.in-Some.is)

pub do_publish-requires-clause-work : goal.do_publish-requires-clause-work
do_publish-requires-clause-work c = c.in_ok-worker.ensures.some c.in-Some.worker (ap Ok c.in-Some.is)
