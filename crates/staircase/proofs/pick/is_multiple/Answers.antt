use Rattle.std.proofs.Common.{refl, arith}
use Rattle.staircase.proofs.Picks.{one_divides, none_divides}
use Rattle.staircase.proofs.pick.is_multiple.Goals as goal

pub returns-then-divides_rank : goal.returns-then-divides_rank
returns-then-divides_rank c =
    let S = c.args.table.now in
    one_divides S c.args.leads.now c.args.rank c.loop-lead.lead-index _ c.divides_rank.result c.requires.some c.requires.leads (omega arith) refl c.if-divides_rank.true c.divides_rank.ensures

pub returns : goal.returns
returns c = none_divides c.args.table.now c.args.leads.now c.args.rank c.loop-lead.lead-index c.loop-lead.invariant (omega arith)
