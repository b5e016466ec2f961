use Rattle.std.proofs.Common.{◌≡◌, ◌∙◌, ap}
use Rattle.reducer_list.specs.Steps.{cornered}
use Rattle.board_tests.proofs.Workers.{works_busy, works_own, has_read}
use Rattle.board_tests.proofs.cubics.read.Goals as goal

pub corner-requires-clause-hand : goal.corner-requires-clause-hand
corner-requires-clause-hand c = works_busy c.args.ticket c.args.seat.now.view (ap (λ s. s.problem) c.requires.board.1 ∙ c.requires.problem) c.requires.works

pub corner-requires-clause-own : goal.corner-requires-clause-own
corner-requires-clause-own c = works_own c.args.ticket c.args.seat.now.view (ap (λ s. s.problem) c.requires.board.1 ∙ c.requires.problem) c.requires.works

pub returns-clause-read : goal.returns-clause-read
returns-clause-read c = λ _.
    has_read c.args.ticket c.args.seat.now.view (ap (λ s. s.problem) c.requires.board.1 ∙ c.requires.problem) c.requires.works c.corner.new.seat.view (c.corner.ensures.read ∙ ap (λ n. cornered n c.args.seat.now.view) c.if-corner-ne20.false)
