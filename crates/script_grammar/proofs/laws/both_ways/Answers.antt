use Rattle.script_grammar.proofs.ReadScriptIsValid.{script_found}
use Rattle.script_grammar.proofs.ValidScriptIsRead.{script_again}
use Rattle.script_grammar.proofs.laws.both_ways.Goals as goal

pub returns-clause-found : goal.returns-clause-found
returns-clause-found c = λ bytes t e. script_found bytes t e

pub returns-clause-only : goal.returns-clause-only
returns-clause-only c = λ bytes t s. script_again bytes t s
