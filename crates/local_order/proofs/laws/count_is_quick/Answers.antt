use Rattle.local_order.proofs.Count.{count_by_products-is}
use Rattle.local_order.proofs.laws.count_is_quick.Goals as goal

pub returns : goal.returns
returns c = count_by_products-is
