use Rattle.cert_grammar.proofs.Refusals.{one_cert}
use Rattle.cert_grammar.proofs.laws.one_spelling.Goals as goal

pub returns : goal.returns
returns c = one_cert
