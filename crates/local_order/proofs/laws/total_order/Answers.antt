use Rattle.local_order.proofs.Order.{above_trans, above_irrefl, above_cases}
use Rattle.local_order.proofs.laws.total_order.Goals as goal

pub returns-clause-transitive : goal.returns-clause-transitive
returns-clause-transitive c = above_trans

pub returns-clause-irreflexive : goal.returns-clause-irreflexive
returns-clause-irreflexive c = above_irrefl

pub returns-clause-total : goal.returns-clause-total
returns-clause-total c = above_cases
