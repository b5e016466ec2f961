use Rattle.staircase.proofs.Picks.{NoneDivides}
use Rattle.staircase.proofs.pick.is_multiple.Given as goal

abbrev pub invariant-loop-lead : goal.invariant-loop-lead
invariant-loop-lead l = NoneDivides l.table l.leads l.rank l.lead-index
