use Rattle.cert_check.proofs.SettledAccepted.{others_divided}
use Rattle.cert_check.proofs.laws.tickets_with_entries.Goals as goal

pub returns : goal.returns
returns c = others_divided
