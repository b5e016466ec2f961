use Rattle.std.proofs.Common.{◌≡◌, ◌∙◌, [], ◌∷◌, Some, true, ap}
use Rattle.reducer_list.specs.Steps.{cornered}
use Rattle.board_tests.specs.Rows.{cubes, once_read, made_cube}
use Rattle.board_tests.proofs.Computed.{still_opened, cube_corner, again_read}
use Rattle.board_tests.proofs.Sitting.{busy, own, read_sits}
use Rattle.board_tests.proofs.seats.read_again.Goals as goal

pub corner-requires-clause-hand : goal.corner-requires-clause-hand
corner-requires-clause-hand c =
    busy cubes c.args.seat.now.view (ap (λ s. s.problem) c.requires.board.1 ∙ c.requires.problem) (made_cube 0 0 ∷ []) (Some (once_read 1 0)) c.requires.sits true still_opened

pub corner-requires-clause-own : goal.corner-requires-clause-own
corner-requires-clause-own c =
    own cubes c.args.seat.now.view (ap (λ s. s.problem) c.requires.board.1 ∙ c.requires.problem) (made_cube 0 0 ∷ []) (Some (once_read 1 0)) c.requires.sits 21 cube_corner

pub returns-clause-sits : goal.returns-clause-sits
returns-clause-sits c =
    read_sits cubes c.args.seat.now.view (ap (λ s. s.problem) c.requires.board.1 ∙ c.requires.problem) (made_cube 0 0 ∷ []) (Some (once_read 1 0)) c.requires.sits 21 c.corner.new.seat.view (Some (once_read 1 1))
    (c.corner.ensures.read ∙ ap (λ n. cornered n c.args.seat.now.view) c.if-corner-ne21.false) again_read
