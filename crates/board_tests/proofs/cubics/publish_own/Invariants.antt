use Rattle.reducer_list.specs.Calls.{IsAt}
use Rattle.board_tests.specs.Rows.{IsFor}
use Rattle.board_tests.specs.Cubics.{Works}
use Rattle.board_tests.proofs.cubics.publish_own.Given as goal

abbrev pub invariant-loop : goal.invariant-loop
invariant-loop l = IsAt l.board l.seat × IsFor l.board l.desk × Works l.ticket l.seat.view
