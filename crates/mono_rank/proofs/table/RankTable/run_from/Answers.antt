use Rattle.std.proofs.Common.{◌≡◌, ◌+◌, ◌<◌, ◌≤◌, List, ℕ, ap, sym, ◌∙◌, subst, arith}
use Rattle.mono_rank.specs.Rank.{HasRank}
use Rattle.mono_rank.specs.Next.{run_of}
use Rattle.mono_rank.proofs.Looks.{seen, looked_up}
use Rattle.mono_rank.proofs.Ranks.{one_of_rank}
use Rattle.mono_rank.proofs.Trades.{run_some, run_within, run_degree, run_products}
use Rattle.mono_rank.proofs.table.RankTable.run_from.Goals as goal
use Rattle.mono_rank.proofs.table.RankTable.run_from.Goals.{After-run_length}

-- the run is that of the monomial of the rank
run_is : (c : After-run_length) → HasRank c.args.self.now c.index.result.now c.args.rank × (c.run_length.result ≡ run_of c.index.result.now)
run_is c =
    let S = c.args.self.now in
    let T = seen (record { variables = c.self.inside.n; degree = c.self.inside.d }) S c.self.inside.monos.items c.self.inside.counts.items c.self.view_is c.self.invariant in
    (looked_up S c.args.rank _ _ c.index.result.now T c.requires c.index.ensures, c.run_length.ensures)

pub returns-clause-value : goal.returns-clause-value
returns-clause-value c m h =
    let S = c.args.self.now in
    (run_is c).1 ∙ ap run_of (one_of_rank S c.index.result.now m c.args.rank (run_is c).0 h)

pub returns-clause-some : goal.returns-clause-some
returns-clause-some c = omega (arith, (run_is c).1, run_some c.index.result.now)

pub returns-clause-within : goal.returns-clause-within
returns-clause-within c =
    let S = c.args.self.now in
    let T = seen (record { variables = c.self.inside.n; degree = c.self.inside.d }) S c.self.inside.monos.items c.self.inside.counts.items c.self.view_is c.self.invariant in
    omega (arith, (run_is c).1, run_within S c.index.result.now c.args.rank T.limits.some (run_is c).0)

pub returns-clause-degrees : goal.returns-clause-degrees
returns-clause-degrees c y z k l h j =
    let S = c.args.self.now in
    let T = seen (record { variables = c.self.inside.n; degree = c.self.inside.d }) S c.self.inside.monos.items c.self.inside.counts.items c.self.view_is c.self.invariant in
    run_degree S y z c.args.rank k T.limits.some h j (subst (λ w. k < w) (returns-clause-value c y h) l)

pub returns-clause-products : goal.returns-clause-products
returns-clause-products c x y z a k r l f h j g =
    let S = c.args.self.now in
    let T = seen (record { variables = c.self.inside.n; degree = c.self.inside.d }) S c.self.inside.monos.items c.self.inside.counts.items c.self.view_is c.self.invariant in
    run_products S x y z a c.args.rank k r T.limits.some f h j (subst (λ w. k < w) (returns-clause-value c y h) l) g
