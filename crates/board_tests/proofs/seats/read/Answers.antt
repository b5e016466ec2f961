use Rattle.std.proofs.Common.{◌≡◌, ◌∙◌, [], Some, true, ap}
use Rattle.run_core.specs.Hand.{hand_of}
use Rattle.reducer_list.specs.Steps.{cornered}
use Rattle.board_tests.specs.Rows.{cubes, once_read}
use Rattle.board_tests.proofs.Computed.{opened, no_corner, reads}
use Rattle.board_tests.proofs.Sitting.{busy, own, read_sits}
use Rattle.board_tests.proofs.seats.read.Goals as goal

pub corner-requires-clause-hand : goal.corner-requires-clause-hand
corner-requires-clause-hand c =
    busy cubes c.args.seat.now.view (ap (λ s. s.problem) c.requires.board.1 ∙ c.requires.problem) [] (Some (hand_of c.args.ticket)) c.requires.sits true (opened c.args.ticket c.requires.ticket)

pub corner-requires-clause-own : goal.corner-requires-clause-own
corner-requires-clause-own c =
    own cubes c.args.seat.now.view (ap (λ s. s.problem) c.requires.board.1 ∙ c.requires.problem) [] (Some (hand_of c.args.ticket)) c.requires.sits 21 no_corner

pub returns-clause-sits : goal.returns-clause-sits
returns-clause-sits c =
    read_sits cubes c.args.seat.now.view (ap (λ s. s.problem) c.requires.board.1 ∙ c.requires.problem) [] (Some (hand_of c.args.ticket)) c.requires.sits 21 c.corner.new.seat.view (Some (once_read c.args.ticket 0))
    (c.corner.ensures.read ∙ ap (λ n. cornered n c.args.seat.now.view) c.if-corner-ne21.false) (reads c.args.ticket c.requires.ticket)
