use Rattle.std.proofs.Common.{◌≡◌, ◌+◌, ◌≤◌, suc, length, count_by, leb, ltb, ◌&&◌, sym, ap, ◌∙◌, subst, arith}
use Rattle.std.proofs.lemmas.List.{get_or_read}
use Rattle.std.proofs.lemmas.List.Sums.{count_by-le-length}
use Rattle.local_order.specs.Count.{monomial_count}
use Rattle.local_order.specs.Shape.{Shape}
use Rattle.mono_rank.specs.Rank.{fewer}
use Rattle.staircase.specs.Stair.{Stairs, is_of_degree}
use Rattle.staircase.proofs.Degrees.{none_past, between_count}
use Rattle.staircase.proofs.Picks.{rising_few}
use Rattle.staircase.proofs.stair.Stair.count.Goals as goal

pub returns-then-degree-self : goal.returns-then-degree-self
returns-then-degree-self c =
    let I = c.self.inside in
    subst (λ (S : Stairs). 0 ≡ count_by (is_of_degree S.shape c.args.degree) S.ranks) c.self.view_is (sym (none_past (record { variables = I.n; degree = I.d }) c.args.degree I.ranks c.self.invariant.limits.some (omega arith) c.self.invariant.low))

pub overflow_cast-result : goal.overflow_cast-result
overflow_cast-result c =
    let I = c.self.inside in
    let few : c.count_between.result ≤ length c.as_slice.result.now =
    subst (λ k. k ≤ length c.as_slice.result.now) (sym c.count_between.ensures) (count_by-le-length (λ r. leb c.index-low.result.now r && ltb r c.index-high.result.now) c.as_slice.result.now) in
    omega (arith, few, ap length c.as_slice.ensures, rising_few I.ranks (monomial_count I.n I.d) c.self.invariant.rises c.self.invariant.low, c.self.invariant.limits.small)

pub returns : goal.returns
returns c =
    let I = c.self.inside in
    let T : Shape = record { variables = I.n; degree = I.d } in
    let e = c.args.degree in
    let within : e ≤ I.d = omega (arith, c.if-degree-self.false) in
    let low : c.index-low.result.now ≡ fewer I.n e =
    get_or_read I.firsts.items e c.index-low.result.now (omega (arith, within, c.self.invariant.starts.long)) c.index-low.ensures 0 ∙ c.self.invariant.starts.each e (omega (arith, within)) in
    let next : e + 1 ≡ suc e = omega arith in
    let high : c.index-high.result.now ≡ fewer I.n (suc e) =
    get_or_read I.firsts.items (e + 1) c.index-high.result.now (omega (arith, within, c.self.invariant.starts.long)) c.index-high.ensures 0
    ∙ c.self.invariant.starts.each (e + 1) (omega (arith, within)) ∙ ap (fewer I.n) next in
    let counted : c.count_between.result ≡ count_by (λ r. leb c.index-low.result.now r && ltb r c.index-high.result.now) I.ranks =
    c.count_between.ensures ∙ ap (count_by (λ r. leb c.index-low.result.now r && ltb r c.index-high.result.now)) c.as_slice.ensures in
    subst (λ (S : Stairs). c.count_between.result ≡ count_by (is_of_degree S.shape e) S.ranks) c.self.view_is
    (counted ∙ between_count T e c.index-low.result.now c.index-high.result.now I.ranks c.self.invariant.limits.some c.self.invariant.low low high)
