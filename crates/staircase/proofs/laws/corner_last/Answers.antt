use Rattle.staircase.proofs.Decided.{none_at_zero, last_before}
use Rattle.staircase.proofs.laws.corner_last.Goals as goal

pub returns-clause-none : goal.returns-clause-none
returns-clause-none c = none_at_zero

pub returns-clause-last : goal.returns-clause-last
returns-clause-last c = last_before
