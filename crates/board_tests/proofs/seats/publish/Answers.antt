use Rattle.std.proofs.Common.{◌≡◌, ◌∙◌, [], Some, sym, refl, ap}
use Rattle.board_tests.specs.Rows.{cubes, once_read, made_cube}
use Rattle.board_tests.proofs.Computed.{stuck, drafts}
use Rattle.board_tests.proofs.Sitting.{stuck_sits, draft_sits, tried}
use Rattle.board_tests.proofs.seats.publish.Goals as goal

pub publish-requires-clause-stuck : goal.publish-requires-clause-stuck
publish-requires-clause-stuck c =
    stuck_sits cubes c.args.seat.now.view (ap (λ s. s.problem) c.requires.board.1 ∙ c.requires.problem) [] (Some (once_read c.args.ticket 0)) c.requires.sits (stuck c.args.ticket c.requires.ticket) refl

pub publish-requires-clause-draft : goal.publish-requires-clause-draft
publish-requires-clause-draft c =
    c.in_ok-draft.ensures
    ∙ sym (draft_sits cubes c.args.seat.now.view (ap (λ s. s.problem) c.requires.board.1 ∙ c.requires.problem) [] (Some (once_read c.args.ticket 0)) c.requires.sits ∙ drafts c.args.ticket c.requires.ticket)

pub returns-clause-tried : goal.returns-clause-tried
returns-clause-tried c =
    tried cubes (once_read c.args.ticket 0) (made_cube c.args.ticket 0) c.publish.result c.args.seat.now.view c.publish.new.seat.view (ap (λ s. s.problem) c.requires.board.1 ∙ c.requires.problem) c.requires.sits
    (drafts c.args.ticket c.requires.ticket) c.publish.ensures.done
