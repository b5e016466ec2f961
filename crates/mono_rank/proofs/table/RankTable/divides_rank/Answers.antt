use Rattle.mono_rank.proofs.Looks.{seen, looked_up, divides_rank}
use Rattle.mono_rank.proofs.table.RankTable.divides_rank.Goals as goal

pub returns : goal.returns
returns c x y f g =
    let S = c.args.self.now in
    let T = seen (record { variables = c.self.inside.n; degree = c.self.inside.d }) S c.self.inside.monos.items c.self.inside.counts.items c.self.view_is c.self.invariant in
    let t = looked_up S c.args.a _ _ c.index.result.now T c.requires.first c.index.ensures in
    let u = looked_up S c.args.b _ _ c.index-2.result.now T c.requires.second c.index-2.ensures in
    divides_rank S c.args.a c.args.b c.index.result.now c.index-2.result.now x y c.divides.result t u f g c.divides.ensures
