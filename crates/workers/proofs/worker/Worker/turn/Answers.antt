use Rattle.workers.proofs.Lasting.{shut_now}
use Rattle.workers.proofs.worker.Worker.turn.Goals as goal

pub returns-clause-ready : goal.returns-clause-ready
returns-clause-ready g c = let p = c.turn.ensures.placed in record { board = p.board; one = p.one; shut = shut_now c.turn.new.self.seat.view c.turn.ensures.shut }
