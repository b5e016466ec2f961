use Rattle.local_order.proofs.Division.{Divides_lcm-left, Divides_lcm-right, lcm_divides}
use Rattle.local_order.proofs.laws.lcm_is_least.Goals as goal

pub returns-clause-first : goal.returns-clause-first
returns-clause-first c = Divides_lcm-left

pub returns-clause-second : goal.returns-clause-second
returns-clause-second c = Divides_lcm-right

pub returns-clause-least : goal.returns-clause-least
returns-clause-least c = lcm_divides
