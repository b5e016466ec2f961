use Rattle.std.proofs.Common.{All, subst}
use Rattle.std.proofs.lemmas.List.{take_all}
use Rattle.std.proofs.lemmas.List.Elements.{All-more}
use Rattle.ecart.specs.Choice.{IsSummary, no_summary}
use Rattle.mora_tests.proofs.choices.are_summaries.Goals as goal

pub loop-i-preserved : goal.loop-i-preserved
loop-i-preserved c =
    All-more (IsSummary c.args.table.now) c.args.list.now c.loop-i.i no_summary c.loop-i-test.true c.loop-i.invariant (c.is_summary.ensures c.if-not-is_summary.false)

pub returns : goal.returns
returns c = λ h. subst (All (IsSummary c.args.table.now)) (take_all c.loop-i.i c.args.list.now c.loop-i-test.false) c.loop-i.invariant
