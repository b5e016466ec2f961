use Rattle.std.proofs.Common.{[], None}
use Rattle.reducer_list.specs.Calls.{IsAt}
use Rattle.board_tests.specs.Rows.{Sits}
use Rattle.board_tests.proofs.cubics.take_ticket.Given as goal

abbrev pub invariant-loop : goal.invariant-loop
invariant-loop l = IsAt l.board l.seat × Sits [] None l.seat.view
