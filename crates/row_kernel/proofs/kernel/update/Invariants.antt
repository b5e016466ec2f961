use Rattle.std.proofs.Common.{length, ◌-◌, ◌≤◌}
use Rattle.row_kernel.proofs.Steps.{DoneTo}
use Rattle.row_kernel.proofs.kernel.update.Given as goal

abbrev pub invariant-loop-out : goal.invariant-loop-out
invariant-loop-out l = (l.k ≤ length l.initial.out) × DoneTo l.field l.c l.k l.other l.initial.out l.out

abbrev pub decreases-loop-out : goal.decreases-loop-out
decreases-loop-out l = length l.initial.out - l.k

abbrev pub invariant-loop-k : goal.invariant-loop-k
invariant-loop-k l = (l.k ≤ length l.fn.out) × DoneTo l.field l.c l.k l.other l.fn.out l.out

abbrev pub decreases-loop-k : goal.decreases-loop-k
decreases-loop-k l = length l.initial.out - l.k
