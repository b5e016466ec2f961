use Rattle.staircase.proofs.Picks.{IsStairUpTo}
use Rattle.staircase.proofs.pick.non_multiples.Given as goal

abbrev pub invariant-loop-r : goal.invariant-loop-r
invariant-loop-r l = IsStairUpTo l.table l.leads l.ranks.items l.r
