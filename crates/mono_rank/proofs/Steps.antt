-- The step from a monomial to the next one, and the writes of the program that make it: the first exponent that isn't 0 is cleared
-- and passes one on. First what the writes leave of the other exponents, by induction on the zeros before it, then the writes in their order.
use Rattle.std.proofs.Common.{◌≡◌, ℕ, zero, suc, ◌+◌, ◌-◌, ◌<◌, ◌≤◌, List, [], ◌∷◌, length, get_or, set, refl, ap, ◌∙◌, arith, get_or-set_other}

-- ---- the step
-- its first exponent: what the first one that isn't 0 keeps, or one more where only the last variable occurs
abbrev pub next_first : List ℕ → ℕ
next_first [] = 0
next_first (x ∷ []) = suc x
next_first (zero ∷ y ∷ a) = next_first (y ∷ a)
next_first (suc x ∷ y ∷ a) = x

-- its other exponents: the right neighbour of the first one that isn't 0 has one more
abbrev pub next_rest : List ℕ → List ℕ
next_rest [] = []
next_rest (x ∷ []) = []
next_rest (zero ∷ y ∷ a) = 0 ∷ next_rest (y ∷ a)
next_rest (suc x ∷ y ∷ a) = suc y ∷ a

-- the next monomial
abbrev pub next : List ℕ → List ℕ
next a = next_first a ∷ next_rest a

-- ---- what the writes leave
-- the exponents below place i are 0
abbrev pub IsZeroBelow : ℕ → List ℕ → Type 0
IsZeroBelow i a = (k : ℕ) → k < i → get_or a k 0 ≡ 0

-- zeros before a place are zeros of the tail before the place before it
below_tail : (i x : ℕ) (a : List ℕ) → IsZeroBelow (suc i) (x ∷ a) → IsZeroBelow i a
below_tail i x a z k l = z (suc k) (omega arith)

-- the front of the next monomial, where a right neighbour follows
first_within : (a : List ℕ) (i e : ℕ) → suc i < length a → IsZeroBelow i a → suc e ≡ get_or a i 0 → e ≡ next_first a
first_within [] i e l z s = absurd (omega arith)
first_within (x ∷ []) i e l z s = absurd (omega arith)
first_within (zero ∷ y ∷ a) zero e l z s = absurd (omega arith)
first_within (suc x ∷ y ∷ a) zero e l z s = omega arith
first_within (zero ∷ y ∷ a) (suc i) e l z s = first_within (y ∷ a) i e (omega arith) (below_tail i 0 (y ∷ a) z) s
first_within (suc x ∷ y ∷ a) (suc i) e l z s = absurd (omega (arith, z 0 (omega arith)))

-- a place that is cleared and its neighbour raised leave a 0 before the rest
rest_within : (a : List ℕ) (i v : ℕ) → suc i < length a → IsZeroBelow i a → 0 < get_or a i 0 → v ≡ suc (get_or a (suc i) 0) → set (set a i 0) (suc i) v ≡ 0 ∷ next_rest a
rest_within [] i v l z s e = absurd (omega arith)
rest_within (x ∷ []) i v l z s e = absurd (omega arith)
rest_within (zero ∷ y ∷ a) zero v l z s e = absurd (omega arith)
rest_within (suc x ∷ y ∷ a) zero v l z s e = ap (λ w. 0 ∷ w ∷ a) e
rest_within (zero ∷ y ∷ a) (suc i) v l z s e = ap (λ w. 0 ∷ w) (rest_within (y ∷ a) i v (omega arith) (below_tail i 0 (y ∷ a) z) s e)
rest_within (suc x ∷ y ∷ a) (suc i) v l z s e = absurd (omega (arith, z 0 (omega arith)))

-- where only the last variable may occur, its exponent is cleared, and one more goes to the front
beyond : (a : List ℕ) (i : ℕ) → length a ≡ suc i → IsZeroBelow i a → (suc (get_or a i 0) ≡ next_first a) × (set a i 0 ≡ 0 ∷ next_rest a)
beyond [] i l z = absurd (omega arith)
beyond (x ∷ []) zero l z = (refl, refl)
beyond (x ∷ []) (suc i) l z = absurd (omega arith)
beyond (x ∷ y ∷ a) zero l z = absurd (omega arith)
beyond (zero ∷ y ∷ a) (suc i) l z =
    let rest = beyond (y ∷ a) i (omega arith) (below_tail i 0 (y ∷ a) z) in
    (rest.0, ap (λ w. 0 ∷ w) rest.1)
beyond (suc x ∷ y ∷ a) (suc i) l z = absurd (omega (arith, z 0 (omega arith)))

-- ---- as the program writes them
-- the writes within a degree
pub within_written : (a : List ℕ) (i : ℕ) → i < length a - 1 → IsZeroBelow i a → 0 < get_or a i 0 →
    set (set (set a i 0) (i + 1) (get_or (set a i 0) (i + 1) 0 + 1)) 0 (get_or a i 0 - 1) ≡ next a
within_written a i l z some =
    let j : i + 1 ≡ suc i = omega arith in
    let up : get_or (set a i 0) (i + 1) 0 + 1 ≡ suc (get_or a (suc i) 0) =
    omega (arith, get_or-set_other a i (i + 1) 0 0 (omega arith), ap (λ k. get_or a k 0) j) in
    ap (λ k. set (set (set a i 0) k (get_or (set a i 0) (i + 1) 0 + 1)) 0 (get_or a i 0 - 1)) j
    ∙ ap (λ s. set s 0 (get_or a i 0 - 1)) (rest_within a i (get_or (set a i 0) (i + 1) 0 + 1) (omega arith) z some up)
    ∙ ap (λ k. k ∷ next_rest a) (first_within a i (get_or a i 0 - 1) (omega arith) z (omega arith))

-- and those at the end of a degree
pub beyond_written : (a : List ℕ) (i : ℕ) → i ≡ length a - 1 → 1 ≤ length a → IsZeroBelow i a → set (set a i 0) 0 (get_or a i 0 + 1) ≡ next a
beyond_written a i l some z =
    let made = beyond a i (omega arith) z in
    let front : get_or a i 0 + 1 ≡ next_first a = omega (arith, made.0) in
    ap (λ s. set s 0 (get_or a i 0 + 1)) made.1 ∙ ap (λ k. k ∷ next_rest a) front
