use Rattle.std.proofs.Common.{ap}
use Rattle.reducer_list.specs.View.{is_busy}
use Rattle.board_tests.proofs.threads.unite.Goals as goal

pub returns : goal.returns
returns c = (c.join.ensures.board, ap is_busy c.join.ensures.both)
