use Rattle.local_std.proofs.Accepted.{certificate_accepted}
use Rattle.local_std.proofs.laws.certificates_are_accepted.Goals as goal

pub returns : goal.returns
returns c = certificate_accepted
