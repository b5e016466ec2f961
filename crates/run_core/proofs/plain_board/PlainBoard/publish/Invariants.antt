use Rattle.run_core.specs.Hand.{marked}
use Rattle.run_core.proofs.plain_board.PlainBoard.publish.Given as goal

abbrev pub ghost-of : goal.ghost-of
ghost-of a = λ b. marked b.hand
