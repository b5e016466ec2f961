use Rattle.mono_rank.proofs.Ranks.{rank_from, rank_below}
use Rattle.mono_rank.proofs.laws.degrees_are_runs_of_ranks.Goals as goal

pub returns-clause-from : goal.returns-clause-from
returns-clause-from c = rank_from

pub returns-clause-below : goal.returns-clause-below
returns-clause-below c = rank_below
