use Rattle.script_grammar.proofs.Places.{next_placed}
use Rattle.script_grammar.proofs.ReadExpressionsAreValid.{expression_found}
use Rattle.script_grammar.proofs.ValidExpressionsAreRead.{expression_again}
use Rattle.script_grammar.proofs.laws.both_ways_of_expressions.Goals as goal

pub returns-clause-placed : goal.returns-clause-placed
returns-clause-placed c = λ bytes. next_placed bytes

pub returns-clause-found : goal.returns-clause-found
returns-clause-found c = λ known t x u e. expression_found known t (x, u) e

pub returns-clause-only : goal.returns-clause-only
returns-clause-only c = λ known t x u placed stand valid ends. expression_again known t x u placed stand valid ends
