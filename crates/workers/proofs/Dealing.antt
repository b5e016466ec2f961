-- Numbers from 0 on: the greatest goes to a new seat, and those below it stay.
-- By induction on how many there are, from any number on.
use Rattle.std.proofs.Common.{◌≡◌, ℕ, zero, suc, ◌+◌, [], ◌∷◌, cond, eqb, false, refl, ap, ◌∙◌, arith, ne_eqb}
use Rattle.std.specs.Prelude.{max}
use Rattle.std.specs.List.{range_with_len}
use Rattle.std.proofs.lemmas.Bool.{eq-eqb}
use Rattle.run_core.specs.State.{highest, without}
use Rattle.reducer_list.specs.View.{Setting}
use Rattle.reducer_list.specs.Steps.{all_but_last, last_only, left_half, right_half}
use Rattle.workers.specs.Rounds.{seat_with, low_seat}

-- the greatest of them is the last
highest_range : (a n : ℕ) → highest (range_with_len a (suc n)) ≡ a + n
highest_range a zero = omega arith
highest_range a (suc n) = let h = highest_range (a + 1) n in ap (λ x. max a x) h ∙ omega arith

-- other numbers differ
other : (a n : ℕ) → eqb (a + suc n) a ≡ false
other a n = ne_eqb (a + suc n) a (λ e. omega (arith, e))

-- without it the others are left
without_range : (a n x : ℕ) → x ≡ a + n → without x (range_with_len a (suc n)) ≡ range_with_len a n
without_range a zero x e = ap (λ b. cond b [] (a ∷ without x [])) (eq-eqb x a (omega (arith, e)))
without_range a (suc n) x e =
    ap (λ y. without y (range_with_len a (suc (suc n)))) e
    ∙ ap (λ b. cond b (range_with_len (a + 1) (suc n)) (a ∷ without (a + suc n) (range_with_len (a + 1) (suc n)))) (other a n)
    ∙ ap (λ l. a ∷ l) (without_range (a + 1) n (a + suc n) (omega arith))

-- so with the last chunk
front_range : (a n : ℕ) → all_but_last (range_with_len a (suc n)) ≡ range_with_len a n
front_range a zero = refl
front_range a (suc n) = ap (λ l. a ∷ l) (front_range (a + 1) n)

-- which is the greatest number
last_range : (a n : ℕ) → last_only (range_with_len a (suc n)) ≡ (a + n) ∷ []
last_range a zero = let z : a ≡ a + 0 = omega arith in ap (λ x. x ∷ []) z
last_range a (suc n) = let z : a + 1 + n ≡ a + suc n = omega arith in last_range (a + 1) n ∙ ap (λ x. x ∷ []) z

-- the seat that stays
pub left_low : (p : Setting) (n : ℕ) → left_half (low_seat p (suc n)) ≡ low_seat p n
left_low p n = λ t. record (seat_with p (without_range 0 n (highest (range_with_len 0 (suc n))) (highest_range 0 n) t)) { chunks = front_range 0 n t }

-- and the new one
pub right_low : (p : Setting) (n : ℕ) → right_half (low_seat p (suc n)) ≡ seat_with p (n ∷ [])
right_low p n =
    let h : highest (range_with_len 0 (suc n)) ≡ n = highest_range 0 n ∙ omega arith in
    let c : last_only (range_with_len 0 (suc n)) ≡ n ∷ [] = last_range 0 n ∙ (let z : 0 + n ≡ n = omega arith in ap (λ x. x ∷ []) z) in
    λ t. record (seat_with p (h t ∷ [])) { chunks = c t }
