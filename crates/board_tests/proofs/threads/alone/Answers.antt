use Rattle.board_tests.proofs.Workers.{count_numbers}
use Rattle.board_tests.proofs.threads.alone.Goals as goal

pub returns : goal.returns
returns c = record { list = c.requires.list; count = c.requires.known; hand = c.requires.hand; one = count_numbers 1 c.args.seat.now.view c.requires }
