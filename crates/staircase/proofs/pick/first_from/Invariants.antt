use Rattle.staircase.proofs.Picks.{AllBelowUpTo}
use Rattle.staircase.proofs.pick.first_from.Given as goal

abbrev pub invariant-loop-rank : goal.invariant-loop-rank
invariant-loop-rank l = AllBelowUpTo l.ranks l.low l.rank-index
