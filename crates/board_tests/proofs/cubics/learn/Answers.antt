use Rattle.entry_code.specs.Entry.{entry_of}
use Rattle.board_tests.proofs.Workers.{read_learns}
use Rattle.board_tests.proofs.cubics.learn.Goals as goal

pub returns-clause-works : goal.returns-clause-works
returns-clause-works c = λ yes. read_learns c.args.ticket c.args.seat.now.view c.requires.read (entry_of c.learn.new.self.room) c.learn.new.seat.view (c.learn.ensures.learnt c.if-not-learn.false) (c.is_of_another.ensures yes)
