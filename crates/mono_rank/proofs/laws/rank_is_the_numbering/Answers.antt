use Rattle.mono_rank.proofs.Ranks.{listed_rank}
use Rattle.mono_rank.proofs.laws.rank_is_the_numbering.Goals as goal

pub returns : goal.returns
returns c = listed_rank
