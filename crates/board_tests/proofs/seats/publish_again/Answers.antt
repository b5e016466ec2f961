use Rattle.std.proofs.Common.{◌≡◌, ◌∙◌, [], ◌∷◌, Some, sym, refl, ap}
use Rattle.board_tests.specs.Rows.{cubes, once_read, made_cube}
use Rattle.board_tests.proofs.Computed.{again_stuck, again_draft}
use Rattle.board_tests.proofs.Sitting.{stuck_sits, draft_sits}
use Rattle.board_tests.proofs.seats.publish_again.Goals as goal

pub publish-requires-clause-stuck : goal.publish-requires-clause-stuck
publish-requires-clause-stuck c = stuck_sits cubes c.args.seat.now.view (ap (λ s. s.problem) c.requires.board.1 ∙ c.requires.problem) (made_cube 0 0 ∷ []) (Some (once_read 1 1)) c.requires.sits again_stuck refl

pub publish-requires-clause-draft : goal.publish-requires-clause-draft
publish-requires-clause-draft c =
    c.in_ok-draft.ensures ∙ sym (draft_sits cubes c.args.seat.now.view (ap (λ s. s.problem) c.requires.board.1 ∙ c.requires.problem) (made_cube 0 0 ∷ []) (Some (once_read 1 1)) c.requires.sits ∙ again_draft)
