use Rattle.script_grammar.proofs.FirstRefusal.{first_is}
use Rattle.script_grammar.proofs.laws.first_refusal.Goals as goal

pub returns : goal.returns
returns c = λ bytes f e. first_is bytes f e
