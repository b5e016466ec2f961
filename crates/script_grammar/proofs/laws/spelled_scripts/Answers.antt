use Rattle.script_grammar.proofs.SpelledScripts.{tree_spelled, spelled_tree}
use Rattle.script_grammar.proofs.laws.spelled_scripts.Goals as goal

pub returns : goal.returns
returns c = λ bytes t. (tree_spelled bytes t, spelled_tree bytes t)
