use Rattle.cert_grammar.proofs.Refusals.{one_form_line}
use Rattle.cert_grammar.proofs.laws.one_line.Goals as goal

pub returns : goal.returns
returns c = one_form_line
