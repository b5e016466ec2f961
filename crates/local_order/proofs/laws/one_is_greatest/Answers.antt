use Rattle.local_order.proofs.Division.{one_above}
use Rattle.local_order.proofs.laws.one_is_greatest.Goals as goal

pub returns : goal.returns
returns c = one_above
