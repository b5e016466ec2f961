use Rattle.std.proofs.Common.{◌++◌, ap, ◌∙◌, arith}
use Rattle.std.proofs.lemmas.List.{take_all}
use Rattle.mora_tests.proofs.Pushed.{first_none}
use Rattle.mora_tests.proofs.build.add_terms.Goals as goal

pub loop-term-init : goal.loop-term-init
loop-term-init c = first_none c.args.into.now.list c.args.terms.now

pub returns : goal.returns
returns c = c.loop-term.invariant ∙ ap (λ l. c.args.into.now.list ++ l) (take_all c.loop-term.term-index c.args.terms.now (omega (arith, c.loop-term-test.false)))
