use Rattle.std.proofs.Common.{◌≤◌, ◌-◌}
use Rattle.mono_rank.proofs.Steps.{IsZeroBelow}
use Rattle.mono_rank.proofs.build.go_on.Given as goal

abbrev pub invariant-loop-i : goal.invariant-loop-i
invariant-loop-i l = (l.i ≤ l.last) × IsZeroBelow l.i l.exps

abbrev pub decreases-loop-i : goal.decreases-loop-i
decreases-loop-i l = l.last - l.i
