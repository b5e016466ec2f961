use Rattle.std.proofs.Common.{◌≡◌, ◌<◌, ℕ, length, ◌∙◌, subst, arith}
use Rattle.std.specs.Option.{MatchOption}
use Rattle.std.specs.List.{Contains}
use Rattle.std.proofs.lemmas.List.{get_or_read}
use Rattle.local_order.specs.Mono.{degree}
use Rattle.mono_rank.specs.Rank.{fewer, mono_of_rank}
use Rattle.staircase.specs.Stair.{Stairs, IsLeastOfDegree}
use Rattle.staircase.proofs.Degrees.{IsFoundFrom, found_is}
use Rattle.staircase.proofs.stair.Stair.first_missing.Goals as goal

pub returns : goal.returns
returns c =
    let I = c.self.inside in
    let there : I.d < length I.firsts.items = omega (arith, c.self.invariant.starts.long) in
    let low : c.index-low.result.now ≡ fewer I.n I.d = get_or_read I.firsts.items I.d c.index-low.result.now there c.index-low.ensures 0 ∙ c.self.invariant.starts.each I.d (omega arith) in
    let found : IsFoundFrom I.ranks c.index-low.result.now c.first_from.result = subst (λ s. IsFoundFrom s c.index-low.result.now c.first_from.result) c.as_slice.ensures c.first_from.ensures in
    subst (λ (S : Stairs). MatchOption c.first_from.result ((r : ℕ) → Contains S.ranks r → degree (mono_of_rank S.shape r) < S.shape.degree) (IsLeastOfDegree S.shape S.shape.degree S.ranks)) c.self.view_is
    (found_is (record { variables = I.n; degree = I.d }) c.index-low.result.now I.ranks c.first_from.result c.self.invariant.limits.some c.self.invariant.low low found)
