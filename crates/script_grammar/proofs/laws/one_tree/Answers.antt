use Rattle.script_grammar.proofs.ValidScriptIsRead.{script_once}
use Rattle.script_grammar.proofs.laws.one_tree.Goals as goal

pub returns : goal.returns
returns c = λ bytes t u s r. script_once bytes t u s r
