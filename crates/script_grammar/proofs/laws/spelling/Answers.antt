use Rattle.script_grammar.proofs.Layouts.{spelled_next}
use Rattle.script_grammar.proofs.Spelled.{next_spelled}
use Rattle.script_grammar.proofs.laws.spelling.Goals as goal

pub returns-clause-read : goal.returns-clause-read
returns-clause-read c = λ bytes token rest s. spelled_next bytes token rest s

pub returns-clause-spelled : goal.returns-clause-spelled
returns-clause-spelled c = λ bytes h. next_spelled bytes h
