use Rattle.cert_grammar.proofs.Prefixes.{with_tail}
use Rattle.cert_grammar.proofs.laws.no_tail.Goals as goal

pub returns : goal.returns
returns c = with_tail
