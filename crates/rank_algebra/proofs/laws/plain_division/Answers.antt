use Rattle.rank_algebra.proofs.Remainder.{remainder_reduced, remainder_difference}
use Rattle.rank_algebra.proofs.laws.plain_division.Goals as goal

pub returns-clause-reduced : goal.returns-clause-reduced
returns-clause-reduced c R B v r h monic m l = remainder_reduced R h B monic v r l m

pub returns-clause-difference : goal.returns-clause-difference
returns-clause-difference c R B v h monic = remainder_difference R h B monic v
