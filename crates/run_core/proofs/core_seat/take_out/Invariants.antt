use Rattle.std.proofs.Common.{◌≡◌, ◌≤◌, ◌-◌, ◌++◌, length, take, drop}
use Rattle.run_core.specs.State.{without}
use Rattle.run_core.proofs.core_seat.take_out.Given as goal

abbrev pub invariant-loop-i : goal.invariant-loop-i
invariant-loop-i l = (l.i ≤ length l.numbers.items) × (without l.number l.numbers.items ≡ take l.i l.numbers.items ++ without l.number (drop l.i l.numbers.items))

abbrev pub decreases-loop-i : goal.decreases-loop-i
decreases-loop-i l = length l.numbers.items - l.i
