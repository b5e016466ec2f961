use Rattle.staircase.proofs.Picks.{HasFirstsUpTo}
use Rattle.staircase.proofs.pick.first_ranks.Given as goal

abbrev pub invariant-loop-degree : goal.invariant-loop-degree
invariant-loop-degree l = HasFirstsUpTo l.table.variables l.firsts.items l.degree
