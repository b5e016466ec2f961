-- The rule holds of a new board.
-- All words but the corner are 0, and the one seat has the first chunks.
use Rattle.std.proofs.Common.{◌≡◌, ℕ, zero, suc, ◌+◌, ◌-◌, ◌<◌, ◌≤◌, Bool, true, false, List, [], ◌∷◌, length, take, set, get_or, refl, sym, ap, ◌∙◌, subst, inr, arith}
use Rattle.std.specs.Prelude.{if◌then◌else◌}
use mathlib.Core.Option.{some, some-injective, some-ne-none}
use lib.ListN.{get_elem?}
use Rattle.run_core.specs.State.{times}
use Rattle.run_core.specs.Sound.{IsSound}
use Rattle.reducer_list.specs.View.{Setting, View, top}
use Rattle.reducer_list.specs.Rule.{core, Fits, held, Kept}
use Rattle.std.specs.Prelude.{replicate, ltb}
use Rattle.std.specs.List.{range_with_len}
use Rattle.std.proofs.lemmas.Bool.{ltb-true}
use Rattle.sparse_poly.specs.Ideal.{Problem}
use Rattle.mora_law.specs.Ring.{IsAdmissible}
use Rattle.run_core.specs.State.{opening, highest}
use Rattle.run_core.proofs.Opening.{times_range}
use Rattle.reducer_list.specs.View.{one_seat}
use Rattle.reducer_list.specs.Rule.{table_words}

-- what the law of the opening state says
abbrev pub OpeningLaw : Type 0
OpeningLaw = (P : Problem) (workers : ℕ) → IsAdmissible P → 1 ≤ workers → IsSound (opening P workers)

-- each of the first numbers is there once
once : (c n : ℕ) → times c (range_with_len 0 n) ≤ 1
once c n = go (ltb c n) (times_range c n)
  where
    go : (b : Bool) → times c (range_with_len 0 n) ≡ (if b then 1 else 0) → times c (range_with_len 0 n) ≤ 1
    go true e = omega (arith, e)
    go false e = omega (arith, e)

-- and no other
within : (c n : ℕ) → 0 < times c (range_with_len 0 n) → c < n
within c n l = go (ltb c n) refl (times_range c n)
  where
    go : (b : Bool) → ltb c n ≡ b → times c (range_with_len 0 n) ≡ (if b then 1 else 0) → c < n
    go true is e = ltb-true c n is
    go false is e = absurd (omega (arith, e, l))

-- the only view
only : (v u : View) (i : ℕ) → get_elem? (v ∷ []) i ≡ some u → v ≡ u
only v u zero e = some-injective v u e
only v u (suc i) e = absurd (some-ne-none u (sym e))

-- the rule holds at the start
pub opens : OpeningLaw → (p : Setting) (words : List ℕ) → IsAdmissible p.problem → 1 ≤ p.workers → length words ≡ table_words p → get_or words 0 0 ≡ top p → ((i : ℕ) → 0 < i → get_or words i 0 ≡ 0)
    → Kept p (record { words = words; homes = []; views = one_seat p ∷ [] })
opens law p words ok some_workers long corner zeros = record {
  entries = [];
  heads = [];
  size = long;
  few = omega arith;
  count = refl;
  named = λ i less. absurd (omega arith);
  blank = λ i _ _. zeros (2 + i) (omega arith);
  apart = λ c. omega (arith, all_held c, once c p.workers);
  bound = λ c some_held. let w = within c p.workers (omega (arith, all_held c, some_held)) in omega arith;
  spelled = λ i e there. absurd (some-ne-none e (sym there));
  views = λ i v e. inr (subst (Fits p [] [] words) (only (one_seat p) v i e)
      record {
        setting = refl;
        list = refl;
        chunks = refl;
        draft = (λ c cs _ k less. absurd (omega arith));
        short = omega arith;
        taken = (λ c is. absurd (cc));
        reading = (λ r is. absurd (cc));
        joined = refl;
      });
  sound = subst (λ (z : ℕ × ℕ). IsSound (core p [] z.0 z.1 (one_seat p ∷ []))) (λ i. (sym corner i, sym (zeros 1 (omega arith)) i)) (law p.problem p.workers ok some_workers);
}
  where
    all_held : (c : ℕ) → held c [] (one_seat p ∷ []) ≡ times c (range_with_len 0 p.workers)
    all_held c = let g : 0 + (0 + times c (range_with_len 0 p.workers)) ≡ times c (range_with_len 0 p.workers) = omega arith in g

-- the first of some numbers one after another
take_range : (n m k : ℕ) → n ≤ m → take n (range_with_len k m) ≡ range_with_len k n
take_range zero m k le = refl
take_range (suc n) zero k le = absurd (omega arith)
take_range (suc n) (suc m) k le = ap (λ (l : List ℕ). k ∷ l) (take_range n m (k + 1) (omega arith))

-- the first chunks
pub first_chunks : (n : ℕ) → 1 ≤ n → n ≤ 16 → range_with_len 0 n ≡ 0 ∷ take (n - 1) (1 ∷ 2 ∷ 3 ∷ 4 ∷ 5 ∷ 6 ∷ 7 ∷ 8 ∷ 9 ∷ 10 ∷ 11 ∷ 12 ∷ 13 ∷ 14 ∷ 15 ∷ 16 ∷ [])
first_chunks zero some_n le = absurd (omega arith)
first_chunks (suc n) some_n le = ap (λ (l : List ℕ). 0 ∷ l) (sym (take_range n 16 1 (omega arith)) ∙ ap (λ (k : ℕ). take k (range_with_len 1 16)) (omega arith))

-- the words behind the first
pub zero_words : (n i x : ℕ) → 0 < i → get_or (set (replicate {A = ℕ} n 0) 0 x) i 0 ≡ 0
zero_words zero i x less = refl
zero_words (suc n) zero x less = absurd (omega arith)
zero_words (suc n) (suc i) x less = all_zero n i
  where
    all_zero : (n i : ℕ) → get_or (replicate {A = ℕ} n 0) i 0 ≡ 0
    all_zero zero i = refl
    all_zero (suc n) zero = refl
    all_zero (suc n) (suc i) = all_zero n i

-- the first word
pub first_word : (n x : ℕ) → 0 < n → get_or (set (replicate n 0) 0 x) 0 0 ≡ x
first_word zero x less = absurd (omega arith)
first_word (suc n) x less = refl

-- the greatest of the first numbers
pub highest_range : (n : ℕ) → 1 ≤ n → highest (range_with_len 0 n) < n
highest_range zero less = absurd (omega arith)
highest_range (suc n) less = let r = highest_low n 0 in omega arith
  where
    highest_low : (n k : ℕ) → highest (range_with_len k (suc n)) ≤ k + n
    highest_low zero k = omega arith
    highest_low (suc n) k = let r = highest_low n (k + 1) in omega arith
