use Rattle.std.proofs.Common.{◌+◌, ◌*◌}
use Rattle.board_tests.proofs.threads.+crowd+fn-crowd-join+arg2.Given as goal

abbrev pub decreases-crowd : goal.decreases-crowd
decreases-crowd g l = 2 * l.numbers

abbrev pub decreases-join+arg2 : goal.decreases-join+arg2
decreases-join+arg2 g l = 2 * l.less + 1
