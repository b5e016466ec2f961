use Rattle.std.proofs.Common.{◌≡◌, ◌∙◌, [], Some, true, ap}
use Rattle.mora_law.specs.Examples.{kept_problem}
use Rattle.run_core.specs.Hand.{hand_of}
use Rattle.reducer_list.specs.Steps.{cornered}
use Rattle.board_tests.specs.Rows.{curve_hand}
use Rattle.board_tests.proofs.CurveComputed.{opened, no_corner, curve_read}
use Rattle.board_tests.proofs.Sitting.{busy, own, read_sits}
use Rattle.board_tests.proofs.curve.read.Goals as goal

pub corner-requires-clause-hand : goal.corner-requires-clause-hand
corner-requires-clause-hand c = busy kept_problem c.args.seat.now.view (ap (λ s. s.problem) c.requires.board.1 ∙ c.requires.problem) [] (Some (hand_of 0)) c.requires.sits true opened

pub corner-requires-clause-own : goal.corner-requires-clause-own
corner-requires-clause-own c = own kept_problem c.args.seat.now.view (ap (λ s. s.problem) c.requires.board.1 ∙ c.requires.problem) [] (Some (hand_of 0)) c.requires.sits 15 no_corner

pub returns-clause-sits : goal.returns-clause-sits
returns-clause-sits c =
    read_sits kept_problem c.args.seat.now.view (ap (λ s. s.problem) c.requires.board.1 ∙ c.requires.problem) [] (Some (hand_of 0)) c.requires.sits 15 c.corner.new.seat.view (Some curve_hand)
    (c.corner.ensures.read ∙ ap (λ n. cornered n c.args.seat.now.view) c.if-corner-ne15.false) curve_read
