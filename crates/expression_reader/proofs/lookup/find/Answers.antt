use Rattle.std.proofs.Common.{sym, ◌∙◌}
use Rattle.script_grammar.proofs.Steps.{same_is}
use Rattle.expression_reader.proofs.lookup.find.Goals as goal

pub returns-then-same-clause-name : goal.returns-then-same-clause-name
returns-then-same-clause-name g c = sym c.name.ensures ∙ same_is _ _ (sym c.same.ensures ∙ c.if-same.true)
