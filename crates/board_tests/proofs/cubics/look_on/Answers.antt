use Rattle.entry_code.specs.Entry.{entry_of}
use Rattle.board_tests.proofs.Workers.{posted_looks}
use Rattle.board_tests.proofs.cubics.look_on.Goals as goal

pub returns-clause-posted : goal.returns-clause-posted
returns-clause-posted c = posted_looks c.args.seat.now.view c.look.new.seat.view (entry_of c.look.new.self.room) c.look.result c.requires.posted c.look.ensures.seen
