use Rattle.std.proofs.Common.{◌≡◌, ◌<◌, length, drop}
use Rattle.run_core.specs.State.{lowest}
use Rattle.run_core.proofs.core_seat.least.Given as goal

abbrev pub invariant-loop-i : goal.invariant-loop-i
invariant-loop-i l = (l.i < length l.numbers) × (l.least ≡ lowest (drop l.i l.numbers))

abbrev pub decreases-loop-i : goal.decreases-loop-i
decreases-loop-i l = l.i
