use Rattle.std.proofs.Common.{◌≡◌, ◌≤◌, length, drop}
use Rattle.run_core.specs.State.{highest}
use Rattle.run_core.proofs.core_seat.greatest.Given as goal

abbrev pub invariant-loop-i : goal.invariant-loop-i
invariant-loop-i l = (l.i ≤ length l.numbers) × (l.greatest ≡ highest (drop l.i l.numbers))

abbrev pub decreases-loop-i : goal.decreases-loop-i
decreases-loop-i l = l.i
