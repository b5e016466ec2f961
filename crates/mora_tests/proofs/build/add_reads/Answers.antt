use Rattle.std.proofs.Common.{◌++◌, ap, ◌∙◌, arith}
use Rattle.std.proofs.lemmas.List.{take_all}
use Rattle.mora_tests.proofs.Pushed.{first_none}
use Rattle.mora_tests.proofs.build.add_reads.Goals as goal

pub loop-reading-init : goal.loop-reading-init
loop-reading-init c = first_none c.args.into.now.list c.args.reads.now

pub returns : goal.returns
returns c = c.loop-reading.invariant ∙ ap (λ l. c.args.into.now.list ++ l) (take_all c.loop-reading.reading-index c.args.reads.now (omega (arith, c.loop-reading-test.false)))
