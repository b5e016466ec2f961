use Rattle.mono_rank.proofs.Looks.{seen, looked_up, product_small, length-product, product_rank}
use Rattle.mono_rank.proofs.table.RankTable.times_rank.Goals as goal

pub returns-in_err-product : goal.returns-in_err-product
returns-in_err-product c x y f g =
    let S = c.args.self.now in
    let T = seen (record { variables = c.self.inside.n; degree = c.self.inside.d }) S c.self.inside.monos.items c.self.inside.counts.items c.self.view_is c.self.invariant in
    let t = looked_up S c.args.a _ _ c.index.result.now T c.requires.first c.index.ensures in
    let u = looked_up S c.args.b _ _ c.index-2.result.now T c.requires.second c.index-2.ensures in
    let some = c.in_err-product.ensures.some.1 (product_small S c.args.a c.args.b c.index.result.now c.index-2.result.now T.limits.low t u) in
    absurd (cc (some))

pub rank-requires : goal.rank-requires
rank-requires c =
    let S = c.args.self.now in
    let T = seen (record { variables = c.self.inside.n; degree = c.self.inside.d }) S c.self.inside.monos.items c.self.inside.counts.items c.self.view_is c.self.invariant in
    let t = looked_up S c.args.a _ _ c.index.result.now T c.requires.first c.index.ensures in
    let u = looked_up S c.args.b _ _ c.index-2.result.now T c.requires.second c.index-2.ensures in
    length-product S c.args.a c.args.b c.index.result.now c.index-2.result.now c.in_ok-product.product t u c.in_ok-product.ensures.value

pub returns : goal.returns
returns c x y f g =
    let S = c.args.self.now in
    let T = seen (record { variables = c.self.inside.n; degree = c.self.inside.d }) S c.self.inside.monos.items c.self.inside.counts.items c.self.view_is c.self.invariant in
    let t = looked_up S c.args.a _ _ c.index.result.now T c.requires.first c.index.ensures in
    let u = looked_up S c.args.b _ _ c.index-2.result.now T c.requires.second c.index-2.ensures in
    product_rank S c.args.a c.args.b c.index.result.now c.index-2.result.now c.in_ok-product.product x y c.rank.result t u c.in_ok-product.ensures.value f g c.rank.ensures
