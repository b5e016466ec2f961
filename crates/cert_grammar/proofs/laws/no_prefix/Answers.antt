use Rattle.cert_grammar.proofs.Prefixes.{without_end}
use Rattle.cert_grammar.proofs.laws.no_prefix.Goals as goal

pub returns : goal.returns
returns c = without_end
