use Rattle.std.proofs.Common.{None}
use Rattle.entry_code.specs.Entry.{entry_of}
use Rattle.board_tests.specs.Rows.{curve_entry}
use Rattle.board_tests.proofs.Sitting.{learnt}
use Rattle.board_tests.proofs.curve.learn.Goals as goal

pub returns-clause-sits : goal.returns-clause-sits
returns-clause-sits c = λ yes.
    learnt None (entry_of c.learn.new.self.room) curve_entry c.args.seat.now.view c.learn.new.seat.view c.requires.sits (c.learn.ensures.learnt c.if-not-learn.false) (c.is_curve.ensures yes)
