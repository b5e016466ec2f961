use Rattle.run_core.proofs.Conditions.{may_publish}
use Rattle.run_core.proofs.laws.publishes_with_an_open_hand.Goals as goal

pub returns : goal.returns
returns c = may_publish
