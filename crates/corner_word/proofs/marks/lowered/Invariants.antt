use Rattle.corner_word.specs.Marks.{IsMarkedFrom}
use Rattle.corner_word.proofs.marks.lowered.Given as goal

abbrev pub invariant-loop-corner : goal.invariant-loop-corner
invariant-loop-corner l = IsMarkedFrom l.marks l.corner

abbrev pub decreases-loop-corner : goal.decreases-loop-corner
decreases-loop-corner l = l.corner
