use Rattle.std.proofs.Common.{◌≡◌, ◌∙◌, [], ◌∷◌, Some, false, ap}
use Rattle.mora_law.specs.Examples.{kept_problem}
use Rattle.run_core.specs.Hand.{marked}
use Rattle.board_tests.specs.Rows.{curve_entry, curve_hand}
use Rattle.board_tests.proofs.CurveComputed.{curve_done}
use Rattle.board_tests.proofs.Sitting.{busy, taken}
use Rattle.board_tests.proofs.curve.claim_last.Goals as goal

pub claim-requires-clause-shut : goal.claim-requires-clause-shut
claim-requires-clause-shut c =
    busy kept_problem c.args.seat.now.view (ap (λ s. s.problem) c.requires.board.1 ∙ c.requires.problem) (curve_entry ∷ []) (marked (Some curve_hand)) c.requires.sits false curve_done

pub returns-clause-sits : goal.returns-clause-sits
returns-clause-sits c = taken (curve_entry ∷ []) (marked (Some curve_hand)) c.claim.result c.args.seat.now.view c.claim.new.seat.view c.requires.sits c.claim.ensures.call
