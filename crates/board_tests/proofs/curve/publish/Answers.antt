use Rattle.std.proofs.Common.{◌≡◌, ◌∙◌, [], Some, sym, refl, ap}
use Rattle.mora_law.specs.Examples.{kept_problem}
use Rattle.board_tests.specs.Rows.{curve_entry, curve_hand}
use Rattle.board_tests.proofs.CurveComputed.{curve_stuck, curve_draft}
use Rattle.board_tests.proofs.Sitting.{stuck_sits, draft_sits, tried}
use Rattle.board_tests.proofs.curve.publish.Goals as goal

pub publish-requires-clause-stuck : goal.publish-requires-clause-stuck
publish-requires-clause-stuck c = stuck_sits kept_problem c.args.seat.now.view (ap (λ s. s.problem) c.requires.board.1 ∙ c.requires.problem) [] (Some curve_hand) c.requires.sits curve_stuck refl

pub publish-requires-clause-draft : goal.publish-requires-clause-draft
publish-requires-clause-draft c =
    c.in_ok-draft.ensures ∙ sym (draft_sits kept_problem c.args.seat.now.view (ap (λ s. s.problem) c.requires.board.1 ∙ c.requires.problem) [] (Some curve_hand) c.requires.sits ∙ curve_draft)

pub returns-clause-tried : goal.returns-clause-tried
returns-clause-tried c =
    tried kept_problem curve_hand curve_entry c.publish.result c.args.seat.now.view c.publish.new.seat.view (ap (λ s. s.problem) c.requires.board.1 ∙ c.requires.problem) c.requires.sits curve_draft c.publish.ensures.done
