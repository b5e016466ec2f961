-- The least and the greatest of some numbers, a list without one of them, and the numbers from 0 on, place by place.
-- What stands from a place on is the number there, and what stands from the next place on.
use Rattle.std.proofs.Common.{◌≡◌, ◌≢◌, ℕ, zero, suc, ◌+◌, ◌<◌, ◌≤◌, cond, List, [], ◌∷◌, ◌++◌, length, take, drop, Some, refl, sym, ap, ◌∙◌, arith, eq-eqb, ne_eqb}
use Rattle.std.specs.Prelude.{max, min}
use Rattle.std.specs.List.{slice_get, range_with_len}
use Rattle.run_core.specs.State.{highest, lowest, without}

-- the greatest from a place on
pub highest_from : (xs : List ℕ) (i x : ℕ) → slice_get xs i ≡ Some x → highest (drop i xs) ≡ max x (highest (drop (suc i) xs))
highest_from [] i x e = absurd (cc)
highest_from (y ∷ ys) zero x e = ap (λ z. max z (highest ys)) (cc)
highest_from (y ∷ ys) (suc i) x e = highest_from ys i x e

-- the least from a place on that isn't the last
pub lowest_from : (xs : List ℕ) (i x : ℕ) → slice_get xs i ≡ Some x → suc i < length xs → lowest (drop i xs) ≡ min x (lowest (drop (suc i) xs))
lowest_from [] i x e l = absurd (cc)
lowest_from (y ∷ []) zero x e l = absurd (omega arith)
lowest_from (y ∷ z ∷ ys) zero x e l = ap (λ n. min n (lowest (z ∷ ys))) (cc)
lowest_from (y ∷ ys) (suc i) x e l = lowest_from ys i x e (omega arith)

-- the least from the last place on
pub lowest_last : (xs : List ℕ) (i x : ℕ) → slice_get xs i ≡ Some x → suc i ≡ length xs → lowest (drop i xs) ≡ x
lowest_last [] i x e l = absurd (cc)
lowest_last (y ∷ []) zero x e l = cc
lowest_last (y ∷ z ∷ ys) zero x e l = absurd (omega arith)
lowest_last (y ∷ ys) (suc i) x e l = lowest_last ys i x e (omega arith)

-- none stands from the end on
pub highest_end : (xs : List ℕ) (i : ℕ) → i ≡ length xs → highest (drop i xs) ≡ 0
highest_end [] zero e = refl
highest_end [] (suc i) e = absurd (omega arith)
highest_end (y ∷ ys) zero e = absurd (omega arith)
highest_end (y ∷ ys) (suc i) e = highest_end ys i (omega arith)

-- a list without k where k doesn't stand at a place, cut there
pub without_else : (k : ℕ) (xs : List ℕ) (i x : ℕ) → slice_get xs i ≡ Some x → x ≢ k → (take i xs ++ without k (drop i xs)) ≡ take (suc i) xs ++ without k (drop (suc i) xs)
without_else k [] i x e ne = absurd (cc)
without_else k (y ∷ ys) zero x e ne = ap (λ b. cond b ys (y ∷ without k ys)) (ne_eqb k y (λ f. let g : y ≡ x = cc in ne (sym g ∙ sym f)))
without_else k (y ∷ ys) (suc i) x e ne = ap (λ l. y ∷ l) (without_else k ys i x e ne)

-- and where it stands there
pub without_here : (k : ℕ) (xs : List ℕ) (i x : ℕ) → slice_get xs i ≡ Some x → x ≡ k → without k (drop i xs) ≡ drop (suc i) xs
without_here k [] i x e is = absurd (cc)
without_here k (y ∷ ys) zero x e is = ap (λ b. cond b ys (y ∷ without k ys)) (eq-eqb k y (let g : y ≡ x = cc in sym is ∙ sym g))
without_here k (y ∷ ys) (suc i) x e is = without_here k ys i x e is

-- and where it stands nowhere
pub without_end : (k : ℕ) (xs : List ℕ) (i : ℕ) → length xs ≤ i → (take i xs ++ without k (drop i xs)) ≡ xs
without_end k [] zero l = refl
without_end k [] (suc i) l = refl
without_end k (y ∷ ys) zero l = absurd (omega arith)
without_end k (y ∷ ys) (suc i) l = ap (λ t. y ∷ t) (without_end k ys i (omega arith))

-- one more of the numbers from a on
pub range_more : (a n : ℕ) → range_with_len a (suc n) ≡ range_with_len a n ++ (a + n) ∷ []
range_more a zero = ap (λ x. x ∷ []) (omega arith)
range_more a (suc n) = let z : a + 1 + n ≡ a + suc n = omega arith in ap (λ xs. a ∷ xs) (range_more (a + 1) n ∙ ap (λ x. range_with_len (a + 1) n ++ x ∷ []) z)

-- so the first i numbers with i behind them are the first i + 1
pub range_next : (old new : List ℕ) (i : ℕ) → old ≡ range_with_len 0 i → new ≡ old ++ i ∷ [] → new ≡ range_with_len 0 (i + 1)
range_next old new i e f =
    let z : suc i ≡ i + 1 = omega arith in
    let y : 0 + i ≡ i = omega arith in
    f ∙ ap (λ l. l ++ i ∷ []) e ∙ sym (range_more 0 i ∙ ap (λ x. range_with_len 0 i ++ x ∷ []) y) ∙ ap (range_with_len 0) z
