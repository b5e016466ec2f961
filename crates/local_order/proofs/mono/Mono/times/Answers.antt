use Rattle.std.proofs.Common.{ℕ, ◌+◌, ◌<◌, ◌≤◌, get_or, MatchBool, refl, sym, subst, arith}
use Rattle.std.proofs.lemmas.List.Elements.{All-same, All-take}
use Rattle.std.proofs.lemmas.Bool.{false≢true}
use Rattle.local_order.specs.Mono.{mono_times}
use Rattle.local_order.proofs.Places.{get_or-mono_times}
use Rattle.local_order.proofs.Stored.{All-small_at, view_at, total_small, both_stored, product_is, product_stored}
use Rattle.local_order.proofs.mono.Mono.times.Goals as goal

-- where a sum is too great, the product has it
pub returns-then-not-is_stored-clause-some : goal.returns-then-not-is_stored-clause-some
returns-then-not-is_stored-clause-some c =
    let product = mono_times c.args.self.now c.args.other.now in
    let great = subst (λ t. MatchBool t ((k : ℕ) → k < c.loop-i.i → get_or c.self.inside.exps k 0 + get_or c.other.inside.exps k 0 ≤ 1000) ((k : ℕ) × (1000 < get_or c.self.inside.exps k 0 + get_or c.other.inside.exps k 0))) c.if-not-is_stored.true c.loop-i.invariant.small in
    let here = get_or-mono_times c.args.self.now c.args.other.now great.0 in
    let mine = view_at c.self.invariant c.self.view_is great.0 in
    let its = view_at c.other.invariant c.other.view_is great.0 in
    (λ e. absurd (false≢true e), λ small. absurd (omega (arith, All-small_at product small great.0, great.1, here, mine, its)))

pub overflow_add-result : goal.overflow_add-result
overflow_add-result c = omega (arith, total_small c.self.invariant, total_small c.other.invariant)

pub invariant_of-result : goal.invariant_of-result
invariant_of-result c =
    let inv = c.loop-i.invariant in
    let both = both_stored c.self.invariant c.self.view_is c.other.invariant c.other.view_is c.requires in
    let small = subst (λ t. MatchBool t ((k : ℕ) → k < c.loop-i.i → get_or c.self.inside.exps k 0 + get_or c.other.inside.exps k 0 ≤ 1000) ((k : ℕ) × (1000 < get_or c.self.inside.exps k 0 + get_or c.other.inside.exps k 0))) c.if-not-is_stored.false inv.small in
    product_stored c.loop-i.exps both inv.full (λ k i. inv.sums k (omega (arith, i, c.loop-i-test.false))) (λ k i. omega (arith, inv.sums k (omega (arith, i, c.loop-i-test.false)), small k (omega (arith, i, c.loop-i-test.false))))

pub returns-clause-value : goal.returns-clause-value
returns-clause-value c =
    let both = both_stored c.self.invariant c.self.view_is c.other.invariant c.other.view_is c.requires in
    product_is c.loop-i.exps both c.loop-i.invariant.full (λ k i. c.loop-i.invariant.sums k (omega arith))

pub returns-clause-some : goal.returns-clause-some
returns-clause-some c =
    let small = All-take (λ e. e ≤ 1000) c.self.inside.n c.loop-i.exps (invariant_of-result c).small in
    (λ _. All-same (λ e. e ≤ 1000) _ _ (sym (returns-clause-value c)) small, λ _. refl)
