use Rattle.sparse_poly.proofs.Member.{in-append}
use Rattle.room_tests.proofs.build.poly.Goals as goal

pub loop-written-preserved : goal.loop-written-preserved
loop-written-preserved c = rw c.in_ok-push.ensures.items (in-append 2 _ _ c.loop-written.invariant (c.in_ok-term.ensures, tt))
