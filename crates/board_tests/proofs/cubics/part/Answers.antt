use Rattle.std.proofs.Common.{arith}
use Rattle.board_tests.proofs.Workers.{idle_shut, count_numbers, left_has, right_sits}
use Rattle.board_tests.proofs.cubics.part.Goals as goal

pub split-requires-clause-shut : goal.split-requires-clause-shut
split-requires-clause-shut c = idle_shut c.args.numbers c.args.seat.now.view c.requires.numbers

pub split-requires-clause-many : goal.split-requires-clause-many
split-requires-clause-many c = omega (arith, count_numbers c.args.numbers c.args.seat.now.view c.requires.numbers, c.requires.many)

pub returns-clause-left : goal.returns-clause-left
returns-clause-left c = left_has c.args.numbers c.args.seat.now.view c.split.new.seat.view c.requires.many c.requires.few c.requires.numbers c.split.ensures.left

pub returns-clause-given : goal.returns-clause-given
returns-clause-given c = right_sits c.args.numbers c.args.seat.now.view c.split.result.view c.requires.numbers c.split.ensures.right
