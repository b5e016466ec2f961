use Rattle.std.proofs.Common.{◌≡◌, ◌+◌, ◌-◌, ◌*◌, get_or, ap, subst, arith}
use Rattle.local_order.specs.Shape.{Shape}
use Rattle.mono_rank.specs.Rank.{fewer}
use Rattle.mono_rank.proofs.Looks.{seen, first_read, fewer_small}
use Rattle.mono_rank.proofs.table.RankTable.first_of_degree.Goals as goal

pub overflow_cast-result : goal.overflow_cast-result
overflow_cast-result c =
    let S = c.args.self.now in
    let T = seen (record { variables = c.self.inside.n; degree = c.self.inside.d }) S c.self.inside.monos.items c.self.inside.counts.items c.self.view_is c.self.invariant in
    let n_is : c.self.inside.n ≡ S.variables = ap (λ (k : Shape). k.variables) c.self.view_is in
    let read : c.index.result.now ≡ fewer S.variables c.args.d = first_read S c.args.d _ _ c.index.result.now T c.requires (subst (λ k. c.index.result.now ≡ get_or c.self.inside.counts.items (8 * c.args.d + k - 1) c.index.result.now) n_is c.index.ensures) in
    omega (arith, read, fewer_small S.variables S.degree c.args.d c.requires T.limits.some, T.limits.small)

pub returns-clause-small : goal.returns-clause-small
returns-clause-small c =
    let S = c.args.self.now in
    let T = seen (record { variables = c.self.inside.n; degree = c.self.inside.d }) S c.self.inside.monos.items c.self.inside.counts.items c.self.view_is c.self.invariant in
    let n_is : c.self.inside.n ≡ S.variables = ap (λ (k : Shape). k.variables) c.self.view_is in
    let read : c.index.result.now ≡ fewer S.variables c.args.d = first_read S c.args.d _ _ c.index.result.now T c.requires (subst (λ k. c.index.result.now ≡ get_or c.self.inside.counts.items (8 * c.args.d + k - 1) c.index.result.now) n_is c.index.ensures) in
    omega (arith, read, fewer_small S.variables S.degree c.args.d c.requires T.limits.some)
