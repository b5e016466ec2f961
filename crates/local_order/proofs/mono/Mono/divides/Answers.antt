use Rattle.std.proofs.Common.{◌≡◌, ℕ, ◌<◌, ◌≤◌, ◌↔◌, length, get_or, Bool, true, false, IsTrue, MatchBool, refl, ap, arith}
use Rattle.std.proofs.lemmas.Bool.{false≢true}
use Rattle.local_order.specs.Mono.{Divides}
use Rattle.local_order.proofs.Division.{Divides-from_places, places_from_Divides}
use Rattle.local_order.proofs.Stored.{view_at}
use Rattle.local_order.specs.Stored.{length_front}
use Rattle.local_order.proofs.mono.Mono.divides.Goals as goal

pub returns : goal.returns
returns c = decided c.loop-i.is_divisor c.loop-i.invariant
  where
    mine : (k : ℕ) → get_or c.args.self.now k 0 ≡ get_or c.self.inside.exps k 0
    mine = view_at c.self.invariant c.self.view_is

    its : (k : ℕ) → get_or c.args.other.now k 0 ≡ get_or c.other.inside.exps k 0
    its = view_at c.other.invariant c.other.view_is

    few : length c.args.other.now ≤ 8
    few = omega (arith, ap length c.other.view_is, length_front c.other.inside.exps c.other.inside.n c.other.inside.total_degree c.other.invariant, c.other.invariant.few)

    decided : (t : Bool) →
        MatchBool t ((k : ℕ) → k < c.loop-i.i → get_or c.self.inside.exps k 0 ≤ get_or c.other.inside.exps k 0) ((k : ℕ) × (get_or c.other.inside.exps k 0 < get_or c.self.inside.exps k 0)) →
        IsTrue t ↔ Divides c.args.self.now c.args.other.now
    decided true each = (λ _. Divides-from_places c.args.self.now c.args.other.now c.requires (λ k l. omega (arith, each k (omega (arith, c.loop-i-test.false, l, few)), mine k, its k)), λ _. refl)
    decided false some = (λ f. absurd (false≢true f), λ d. absurd (omega (arith, some.1, mine some.0, its some.0, places_from_Divides c.args.self.now c.args.other.now d some.0)))
