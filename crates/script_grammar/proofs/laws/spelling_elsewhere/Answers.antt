use Rattle.script_grammar.proofs.Layouts.{end_next, cut_next, bad_next}
use Rattle.script_grammar.proofs.Spelled.{end_spelled, cut_spelled, bad_spelled}
use Rattle.script_grammar.proofs.laws.spelling_elsewhere.Goals as goal

pub returns-clause-end_read : goal.returns-clause-end_read
returns-clause-end_read c = λ bytes s. end_next bytes s

pub returns-clause-end_spelled : goal.returns-clause-end_spelled
returns-clause-end_spelled c = λ bytes h. end_spelled bytes h

pub returns-clause-cut_read : goal.returns-clause-cut_read
returns-clause-cut_read c = λ bytes s. cut_next bytes s

pub returns-clause-cut_spelled : goal.returns-clause-cut_spelled
returns-clause-cut_spelled c = λ bytes h. cut_spelled bytes h

pub returns-clause-bad_read : goal.returns-clause-bad_read
returns-clause-bad_read c = λ bytes b rest s. bad_next bytes b rest s

pub returns-clause-bad_spelled : goal.returns-clause-bad_spelled
returns-clause-bad_spelled c = λ bytes h. bad_spelled bytes h
