use Rattle.mono_rank.proofs.Ranks.{rank_above, above_of_rank}
use Rattle.mono_rank.proofs.laws.rank_turns_the_order.Goals as goal

pub returns : goal.returns
returns c T a b e l f k = (rank_above T a b e l, above_of_rank T a b e f k)
