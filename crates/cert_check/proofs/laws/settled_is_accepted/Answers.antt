use Rattle.cert_check.proofs.SettledAccepted.{settled_accepted}
use Rattle.cert_check.proofs.laws.settled_is_accepted.Goals as goal

pub returns : goal.returns
returns c = settled_accepted
