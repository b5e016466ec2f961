use Rattle.run_core.proofs.Conditions.{spent_rests}
use Rattle.run_core.proofs.laws.spent_seats_rest.Goals as goal

pub returns : goal.returns
returns c s t i v e ok at = spent_rests s i v ok at t e
