use Rattle.std.proofs.Common.{Some}
use Rattle.entry_code.specs.Entry.{entry_of}
use Rattle.board_tests.specs.Rows.{made_cube, once_read}
use Rattle.board_tests.proofs.Sitting.{learnt}
use Rattle.board_tests.proofs.seats.learn.Goals as goal

pub returns-clause-sits : goal.returns-clause-sits
returns-clause-sits c = λ yes.
    learnt (Some (once_read 1 0)) (entry_of c.learn.new.self.room) (made_cube 0 0) c.args.seat.now.view c.learn.new.seat.view c.requires.sits (c.learn.ensures.learnt c.if-not-learn.false) (c.is_cube.ensures yes)
