use Rattle.mono_rank.proofs.Ranks.{rank_small, one_of_rank, rank_reached}
use Rattle.mono_rank.proofs.Walk.{walk}
use Rattle.mono_rank.proofs.laws.ranks_are_all_numbers.Goals as goal

pub returns-clause-below : goal.returns-clause-below
returns-clause-below c = rank_small

pub returns-clause-one : goal.returns-clause-one
returns-clause-one c = one_of_rank

pub returns-clause-some : goal.returns-clause-some
returns-clause-some c T r some l = (walk T.variables r, rank_reached T r some l)
