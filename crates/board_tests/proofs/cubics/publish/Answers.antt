use Rattle.std.proofs.Common.{◌≡◌, ◌∙◌, ap, sym}
use Rattle.board_tests.specs.Cubics.{cubic_entry}
use Rattle.board_tests.proofs.Workers.{read_stuck, read_makes, read_tried}
use Rattle.board_tests.proofs.cubics.publish.Goals as goal

pub entry-requires : goal.entry-requires
entry-requires c = c.requires.read.low

pub publish-requires-clause-stuck : goal.publish-requires-clause-stuck
publish-requires-clause-stuck c = read_stuck c.args.ticket c.args.seat.now.view c.requires.read (ap (λ s. s.problem) c.requires.board.1 ∙ c.requires.problem)

pub publish-requires-clause-draft : goal.publish-requires-clause-draft
publish-requires-clause-draft c =
    c.in_ok-draft.ensures ∙ (ap (cubic_entry c.args.ticket) c.known.ensures ∙ sym (read_makes c.args.ticket c.args.seat.now.view c.requires.read (ap (λ s. s.problem) c.requires.board.1 ∙ c.requires.problem)))

pub returns-clause-tried : goal.returns-clause-tried
returns-clause-tried c = read_tried c.args.ticket c.args.seat.now.view c.requires.read c.publish.result c.publish.new.seat.view c.publish.ensures.done
