use Rattle.reducer_list.specs.Calls.{IsAt}
use Rattle.board_tests.specs.Rows.{IsFor}
use Rattle.board_tests.specs.Cubics.{HasPosted}
use Rattle.board_tests.proofs.threads.recall_all.Given as goal

abbrev pub invariant-loop-i : goal.invariant-loop-i
invariant-loop-i l = IsAt l.board l.seat × IsFor l.board l.desk × HasPosted l.seat.view
