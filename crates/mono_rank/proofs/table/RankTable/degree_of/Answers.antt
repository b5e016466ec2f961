use Rattle.std.proofs.Common.{ap, ◌∙◌}
use Rattle.local_order.specs.Mono.{degree}
use Rattle.mono_rank.proofs.Looks.{seen, looked_up_same}
use Rattle.mono_rank.proofs.table.RankTable.degree_of.Goals as goal

pub returns-clause-value : goal.returns-clause-value
returns-clause-value c m h =
    let S = c.args.self.now in
    let T = seen (record { variables = c.self.inside.n; degree = c.self.inside.d }) S c.self.inside.monos.items c.self.inside.counts.items c.self.view_is c.self.invariant in
    c.degree.ensures.value ∙ ap degree (looked_up_same S c.args.rank _ _ c.index.result.now m T c.requires c.index.ensures h)
