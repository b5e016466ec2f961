use Rattle.reducer_list.specs.Calls.{IsAt}
use Rattle.board_tests.specs.Rows.{IsFor}
use Rattle.board_tests.specs.Cubics.{HasPosted}
use Rattle.board_tests.proofs.threads.learn_all.Given as goal

abbrev pub invariant-loop : goal.invariant-loop
invariant-loop l = IsAt l.board l.seat × IsFor l.board l.desk × HasPosted l.seat.view
