use Rattle.std.proofs.Common.{◌≡◌, ◌∙◌, [], ◌∷◌, Some, true, ap}
use Rattle.mora_law.specs.Examples.{kept_problem}
use Rattle.run_core.specs.Hand.{hand_of}
use Rattle.board_tests.specs.Rows.{curve_entry}
use Rattle.board_tests.proofs.CurveComputed.{line_opened, curve_corner}
use Rattle.board_tests.proofs.Sitting.{busy, own}
use Rattle.board_tests.proofs.curve.read_next.Goals as goal

pub corner-requires-clause-hand : goal.corner-requires-clause-hand
corner-requires-clause-hand c =
    busy kept_problem c.args.seat.now.view (ap (λ s. s.problem) c.requires.board.1 ∙ c.requires.problem) (curve_entry ∷ []) (Some (hand_of 1)) c.requires.sits true line_opened

pub corner-requires-clause-own : goal.corner-requires-clause-own
corner-requires-clause-own c =
    own kept_problem c.args.seat.now.view (ap (λ s. s.problem) c.requires.board.1 ∙ c.requires.problem) (curve_entry ∷ []) (Some (hand_of 1)) c.requires.sits 15 curve_corner
