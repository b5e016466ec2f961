use Rattle.mono_rank.proofs.Numbers.{ds_is_degree_order, ranks_are_numbering}
use Rattle.mono_rank.proofs.laws.ranks_number_the_monomials.Goals as goal

pub returns-clause-order : goal.returns-clause-order
returns-clause-order c = ds_is_degree_order

pub returns-clause-ranks : goal.returns-clause-ranks
returns-clause-ranks c = ranks_are_numbering
