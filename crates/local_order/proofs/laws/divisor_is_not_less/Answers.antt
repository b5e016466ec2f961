use Rattle.local_order.proofs.Division.{divisor_above}
use Rattle.local_order.proofs.laws.divisor_is_not_less.Goals as goal

pub returns : goal.returns
returns c = divisor_above
