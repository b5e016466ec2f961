-- Each characteristic of the table is a prime: trial division up to the root, by halves.
-- The trial is a test that computes, and one lemma turns it into primality.
use Rattle.std.proofs.Common.{◌≡◌, ℕ, zero, suc, ◌+◌, ◌*◌, ◌/◌, ◌%◌, ◌^◌, ◌<◌, ◌≤◌, ◌≢◌, Bool, true, not, ◌&&◌, ⊎_elim, subst, lit≤, lit<, eqb, refl, arith, get_or}
use Rattle.std.proofs.Math.Nat.{mod-zero, mul-mod_left, div-add-mod, mul-zero, mul-one, pow-suc}
use Rattle.std.proofs.lemmas.Bool.{cases_lt}
use Rattle.prime_field.specs.Prime.{IsPrime, InTable, table}

-- none of lo, .., lo + 2 ^ k - 1 divides p
abbrev none_divides : ℕ → ℕ → ℕ → Bool
none_divides p zero lo = not (eqb (p % lo) 0)
none_divides p (suc k) lo = none_divides p k lo && none_divides p k (lo + 2 ^ k)

-- both parts hold: the first
and_l : (a b : Bool) → (a && b) ≡ true → a ≡ true
and_l a b h = grind arith

-- both parts hold: the second
and_r : (a b : Bool) → (a && b) ≡ true → b ≡ true
and_r a b h = grind arith

-- a test that fails tells that a number is not 0
not_eq : (a : ℕ) → not (eqb a 0) ≡ true → a ≢ 0
not_eq a h = grind arith

-- where the test passes, no number of its range divides p
none_divides-sound : (p k lo d : ℕ) → none_divides p k lo ≡ true → lo ≤ d → d < lo + 2 ^ k → p % d ≢ 0
none_divides-sound p zero lo d h l u e =
    let same : d ≡ lo = omega arith in
    not_eq (p % lo) h (rw same at e)
none_divides-sound p (suc k) lo d h l u e =
    ⊎_elim
    (λ (w : d < lo + 2 ^ k). none_divides-sound p k lo d (and_l _ _ h) l w e)
    (λ (w : lo + 2 ^ k ≤ d). none_divides-sound p k (lo + 2 ^ k) d (and_r _ _ h) w (omega (arith, pow-suc 2 k)) e)
    (cases_lt d (lo + 2 ^ k))

-- the other factor of a number below r * r is below r
quotient_below : (p r d q : ℕ) → p < r * r → r ≤ d → d * q ≡ p → q < r
quotient_below p r d q high w e = grind arith

-- the other factor of a proper divisor is at least 2
quotient_two : (p d q : ℕ) → 2 ≤ p → d < p → d * q ≡ p → 2 ≤ q
quotient_two p d q two l e = go q e
  where
    go : (k : ℕ) → d * k ≡ p → 2 ≤ k
    go zero f = omega (arith, mul-zero d)
    go (suc zero) f = omega (arith, mul-one d)
    go (suc (suc k)) f = omega arith

-- a number with no divisor below r, where r * r is above it, is a prime
from_root : (p r : ℕ) → 2 ≤ p → p < r * r → ((d : ℕ) → 2 ≤ d → d < r → p % d ≢ 0) → IsPrime p
from_root p r h high none = record { two_up = h; only = only }
  where
    -- the other factor
    big : (d : ℕ) → d < p → p % d ≡ 0 → r ≤ d → ⊥
    big d l e w =
        let whole : d * (p / d) ≡ p = omega (arith, div-add-mod p d) in
        let left : p % (p / d) ≡ 0 = subst (λ n. n % (p / d) ≡ 0) whole (mul-mod_left d (p / d)) in
        none (p / d) (quotient_two p d (p / d) h l whole) (quotient_below p r d (p / d) high w whole) left

    small : (d : ℕ) → p % d ≡ 0 → d < 2 → d ≡ 1
    small zero e u = absurd (omega (arith, mod-zero p))
    small (suc d) e u = omega arith

    only : (d : ℕ) → d < p → p % d ≡ 0 → d ≡ 1
    only d l e =
        ⊎_elim
        (λ (w : d < r). ⊎_elim (λ (u : d < 2). small d e u) (λ (u : 2 ≤ d). absurd (none d u w e)) (cases_lt d 2))
        (λ (w : r ≤ d). absurd (big d l e w))
        (cases_lt d r)

-- a number that passes the trial up to its root is a prime
by_trial : (p k : ℕ) → 2 ≤ p → p < (2 + 2 ^ k) * (2 + 2 ^ k) → none_divides p k 2 ≡ true → IsPrime p
by_trial p k h l t = from_root p (2 + 2 ^ k) h l (λ d a b. none_divides-sound p k 2 d t a b)

-- 2 and 3 are primes
by_hand : (p : ℕ) → 2 ≤ p → p < 4 → IsPrime p
by_hand p h l = from_root p 2 h l (λ d a b. absurd (omega arith))

-- ---- the table
-- what holds of each characteristic that is offered holds of each place of the table
at_each : (P : ℕ → Type 0) → P 2 → P 3 → P 5 → P 7 → P 11 → P 13 → P 101 → P 32003 → P 65521 → P 2147483647 → (d k : ℕ) → k < 10 → P (get_or table k d)
at_each P a b c d e f g h i j z zero l = a
at_each P a b c d e f g h i j z (suc zero) l = b
at_each P a b c d e f g h i j z (suc (suc zero)) l = c
at_each P a b c d e f g h i j z (suc (suc (suc zero))) l = d
at_each P a b c d e f g h i j z (suc (suc (suc (suc zero)))) l = e
at_each P a b c d e f g h i j z (suc (suc (suc (suc (suc zero))))) l = f
at_each P a b c d e f g h i j z (suc (suc (suc (suc (suc (suc zero)))))) l = g
at_each P a b c d e f g h i j z (suc (suc (suc (suc (suc (suc (suc zero))))))) l = h
at_each P a b c d e f g h i j z (suc (suc (suc (suc (suc (suc (suc (suc zero)))))))) l = i
at_each P a b c d e f g h i j z (suc (suc (suc (suc (suc (suc (suc (suc (suc zero))))))))) l = j
at_each P a b c d e f g h i j z (suc (suc (suc (suc (suc (suc (suc (suc (suc (suc k)))))))))) l = absurd (omega arith)

-- each member of the table is a prime
pub IsPrime-table : (p : ℕ) → InTable p → IsPrime p
IsPrime-table p t =
    subst IsPrime t.2
    (at_each IsPrime (by_hand 2 (lit≤ tt) (lit< tt)) (by_hand 3 (lit≤ tt) (lit< tt)) (by_trial 5 0 (lit≤ tt) (lit< tt) refl) (by_trial 7 0 (lit≤ tt) (lit< tt) refl)
    (by_trial 11 1 (lit≤ tt) (lit< tt) refl) (by_trial 13 1 (lit≤ tt) (lit< tt) refl) (by_trial 101 4 (lit≤ tt) (lit< tt) refl) (by_trial 32003 8 (lit≤ tt) (lit< tt) refl)
    (by_trial 65521 8 (lit≤ tt) (lit< tt) refl) (by_trial 2147483647 16 (lit≤ tt) (lit< tt) refl) p t.0 t.1)

-- each member of the table is below 2 ^ 31
pub InTable-le : (p : ℕ) → InTable p → p ≤ 2147483647
InTable-le p t =
    subst (λ n. n ≤ 2147483647) t.2
    (at_each (λ n. n ≤ 2147483647) (lit≤ tt) (lit≤ tt) (lit≤ tt) (lit≤ tt) (lit≤ tt) (lit≤ tt) (lit≤ tt) (lit≤ tt) (lit≤ tt) (lit≤ tt) p t.0 t.1)
