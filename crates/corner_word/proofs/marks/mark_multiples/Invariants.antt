use Rattle.corner_word.proofs.Multiples.{IsMarkedUpTo}
use Rattle.corner_word.proofs.marks.mark_multiples.Given as goal

abbrev pub invariant-loop-r : goal.invariant-loop-r
invariant-loop-r l = IsMarkedUpTo l.table l.initial.marks l.lead l.marks l.r
