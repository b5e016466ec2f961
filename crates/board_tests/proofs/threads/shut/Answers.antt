use Rattle.board_tests.proofs.Workers.{posted_shut}
use Rattle.board_tests.proofs.threads.shut.Goals as goal

pub returns : goal.returns
returns c = posted_shut c.args.seat.now.view c.requires
