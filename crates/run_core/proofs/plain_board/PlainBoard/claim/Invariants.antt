use Rattle.std.specs.Prelude.{Some}
use Rattle.run_core.specs.Hand.{hand_of}
use Rattle.run_core.proofs.plain_board.PlainBoard.claim.Given as goal

abbrev pub ghost-of : goal.ghost-of
ghost-of a = λ b. Some (hand_of b.ticket)
