use Rattle.run_core.proofs.Lists.{range_next}
use Rattle.run_core.proofs.core_seat.first_numbers.Goals as goal

pub loop-i-preserved : goal.loop-i-preserved
loop-i-preserved c = range_next c.loop-i.numbers.items c.push.new.self.items c.loop-i.i c.loop-i.invariant c.in_ok-push.ensures.items
