use Rattle.script_grammar.proofs.FirstRefusal.{first_of_sum_is}
use Rattle.script_grammar.proofs.laws.first_refusal_of_expression.Goals as goal

pub returns : goal.returns
returns c = λ known bytes f prime e. first_of_sum_is known bytes f prime e
