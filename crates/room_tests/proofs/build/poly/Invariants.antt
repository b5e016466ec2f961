use Rattle.sparse_poly.specs.Poly.{IsIn}
use Rattle.room_tests.proofs.build.poly.Given as goal

abbrev pub invariant-loop-written : goal.invariant-loop-written
invariant-loop-written l = IsIn 2 l.all.items
