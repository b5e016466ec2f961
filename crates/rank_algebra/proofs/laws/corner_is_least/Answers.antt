use Rattle.rank_algebra.proofs.Corner.{corner_is, corner_least}
use Rattle.rank_algebra.proofs.laws.corner_is_least.Goals as goal

pub returns-clause-covers : goal.returns-clause-covers
returns-clause-covers c R B h = corner_is R h B

pub returns-clause-least : goal.returns-clause-least
returns-clause-least c R B w h = corner_least R h B w
