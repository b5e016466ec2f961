use Rattle.std.specs.Prelude.{length}
use Rattle.run_core.specs.Hand.{read}
use Rattle.run_core.proofs.plain_board.PlainBoard.corner.Given as goal

abbrev pub ghost-of : goal.ghost-of
ghost-of a = λ b. read b.problem b.entries (record { known = length b.entries; corner = b.corner }) b.hand
