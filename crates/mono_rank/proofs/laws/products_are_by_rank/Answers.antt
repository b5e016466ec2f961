use Rattle.mono_rank.proofs.Numbers.{rank_of_product, product_past_degree, quotient_of_ranks}
use Rattle.mono_rank.proofs.laws.products_are_by_rank.Goals as goal

pub returns-clause-inside : goal.returns-clause-inside
returns-clause-inside c T p inv x y a b r some = rank_of_product T x y a b r

pub returns-clause-outside : goal.returns-clause-outside
returns-clause-outside c T p inv = product_past_degree T

pub returns-clause-quotient : goal.returns-clause-quotient
returns-clause-quotient c T p inv x y a b some = quotient_of_ranks T x y a b
