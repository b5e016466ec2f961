use Rattle.mono_rank.proofs.Ranks.{rank_within}
use Rattle.mono_rank.proofs.laws.tables_agree.Goals as goal

pub returns : goal.returns
returns c = rank_within
