-- The inverse is the one residue whose product with a is 1.
-- Euclid's steps keep that a times each factor is its remainder, and end at the remainder 1: so there is such a residue.
-- Where there is one, the least one is found, and two of them are the same.
use Rattle.std.proofs.Common.{◌≡◌, ℕ, zero, suc, ◌+◌, ◌-◌, ◌*◌, ◌/◌, ◌%◌, ◌<◌, ◌≤◌, ◌≢◌, Bool, true, false, eqb, get_or, ⊎_elim, lit<, refl, ap, sym, ◌∙◌, arith, subst}
use Rattle.std.proofs.Math.Nat.{mod-eq_of_lt, mod-lt, mul-zero, mul-one, mod_self, zero-mod}
use Rattle.std.proofs.lemmas.Bool.{cases_lt, eqb-true, eq-eqb}
use Rattle.std.proofs.lemmas.List.Folds.{find_at}
use Rattle.std.proofs.lemmas.List.FromFn.{length-range_with_len, get_or-range_with_len}
use Rattle.std.proofs.lemmas.List.Sums.{fails_before_first, passes_at_first}
use Rattle.std.proofs.lemmas.Option.{unwrap_or-slice_get}
use Rattle.std.specs.Int.{IsGcd}
use Rattle.std.specs.List.{find, range_with_len, position_or_len}
use Rattle.std.specs.Option.{unwrap_or}
use Rattle.prime_field.specs.Prime.{IsPrime}
use Rattle.prime_field.specs.Inverse.{inverse}
use Rattle.prime_field.proofs.Residue.{mul_same, euclid, euclid_factor}
use Rattle.prime_field.proofs.Coprime.{coprime, ends_at_one, IsGcd-to_mod}

-- the last factor of Euclid's steps, from two remainders and their factors, in at most so many steps
abbrev euclid_from : ℕ → ℕ → ℕ → ℕ → ℕ → ℕ → ℕ
euclid_from zero p high low hf lf = hf
euclid_from (suc k) p high zero hf lf = hf
euclid_from (suc k) p high (suc low) hf lf =
    let f = (hf + (p - ((high / suc low) % p * lf) % p)) % p in
    euclid_from k p (suc low) (high % suc low) lf f

-- Euclid's steps end at a factor whose product with a is 1
euclid_ends : (k p a high low hf lf : ℕ) → 1 < p → low < k → low < p → IsGcd high low 1 →
    (a * hf) % p ≡ high % p → (a * lf) % p ≡ low % p →
    (a * euclid_from k p high low hf lf) % p ≡ 1
euclid_ends zero p a high low hf lf one l m g e h = absurd (omega arith)
euclid_ends (suc k) p a high zero hf lf one l m g e h = ends_at_one p high 0 ((a * hf) % p) one g refl e
euclid_ends (suc k) p a high (suc low) hf lf one l m g e h =
    let f = (hf + (p - ((high / suc low) % p * lf) % p)) % p in
    let small : high % suc low < suc low = mod-lt high (omega arith) in
    euclid_ends k p a (suc low) (high % suc low) lf f one (omega arith) (omega arith) (IsGcd-to_mod high (suc low) 1 g) h
    (euclid p a high (suc low) hf lf f (omega arith) e h
    (euclid_factor p hf lf (high / suc low) (((high / suc low) % p * lf) % p) f (omega arith) refl refl))

-- Euclid's steps end at a residue
euclid_residue : (k p high low hf lf : ℕ) → 0 < p → hf < p → lf < p → euclid_from k p high low hf lf < p
euclid_residue zero p high low hf lf pos h l = h
euclid_residue (suc k) p high zero hf lf pos h l = h
euclid_residue (suc k) p high (suc low) hf lf pos h l =
    euclid_residue k p (suc low) (high % suc low) lf ((hf + (p - ((high / suc low) % p * lf) % p)) % p) pos l (mod-lt (hf + (p - ((high / suc low) % p * lf) % p)) pos)

-- a test doesn't answer both
not_both : (t : Bool) → t ≡ false → t ≡ true → ⊥
not_both t f h = grind arith

-- where b below p is an inverse of a, the one that the search finds is below p too, and is an inverse
-- (the search stops at b at the latest, at a number that passes its test)
found : (p a b : ℕ) → b < p → (a * b) % p ≡ 1 → (inverse p a < p) × ((a * inverse p a) % p ≡ 1)
unfolding inverse
found p a b l e = (subst (λ n. n < p) (sym is) stops, subst (λ n. (a * n) % p ≡ 1) (sym is) passes)
  where
    test : ℕ → Bool
    test n = eqb ((a * n) % p) 1

    number : (k : ℕ) → k < p → get_or (range_with_len 0 p) k 0 ≡ k
    number k i = get_or-range_with_len 0 p k 0 i ∙ (let r : 0 + k ≡ k = omega arith in r)

    place : ℕ
    place = position_or_len test (range_with_len 0 p)

    stops : place < p
    stops = ⊎_elim
        (λ (w : place < p). w)
        (λ (w : p ≤ place). absurd (not_both (test b)
        (ap test (sym (number b l)) ∙ fails_before_first test (range_with_len 0 p) b 0 (omega arith))
        (eq-eqb ((a * b) % p) 1 e)))
        (cases_lt place p)

    is : unwrap_or (find test (range_with_len 0 p)) 0 ≡ place
    is = ap (λ o. unwrap_or o 0) (find_at test (range_with_len 0 p)) ∙ unwrap_or-slice_get (range_with_len 0 p) place 0 ∙ number place stops

    passes : (a * place) % p ≡ 1
    passes = eqb-true ((a * place) % p) 1
        (ap test (sym (number place stops)) ∙ passes_at_first test (range_with_len 0 p) 0 (omega (arith, stops, length-range_with_len 0 p)))

-- a residue but 0 has an inverse below p: by Euclid's steps from p and a
both : (p a : ℕ) → IsPrime p → a < p → a ≢ 0 → (inverse p a < p) × ((a * inverse p a) % p ≡ 1)
both p a prime l n =
    let two : 1 < p = prime.two_up in
    found p a (euclid_from (suc a) p p a 0 1)
    (euclid_residue (suc a) p p a 0 1 (omega arith) (omega arith) two)
    (euclid_ends (suc a) p a p a 0 1 two (omega arith) l (coprime p a prime l n)
    (ap (λ x. x % p) (mul-zero a) ∙ zero-mod p ∙ sym (mod_self p))
    (ap (λ x. x % p) (mul-one a)))

-- the product of a with its inverse is 1
pub inverse-law : (p a : ℕ) → IsPrime p → a < p → a ≢ 0 → (a * inverse p a) % p ≡ 1
inverse-law p a prime l n = (both p a prime l n).1

-- the inverse is a residue
pub inverse-residue : (p a : ℕ) → IsPrime p → a < p → a ≢ 0 → inverse p a < p
inverse-residue p a prime l n = (both p a prime l n).0

-- two residues whose product with a is 1 are the same: b is b * (a * c), and so c
one_inverse : (p a b c : ℕ) → 1 < p → b < p → c < p → (a * b) % p ≡ 1 → (a * c) % p ≡ 1 → b ≡ c
one_inverse p a b c two l m e f =
    sym (mod-eq_of_lt l)
    ∙ ap (λ n. n % p) (sym (mul-one b))
    ∙ mul_same p b b 1 (a * c) refl (one ∙ sym f)
    ∙ ap (λ n. n % p) (let r : b * (a * c) ≡ a * b * c = omega arith in r)
    ∙ mul_same p (a * b) 1 c c (e ∙ sym one) refl
    ∙ ap (λ n. n % p) (let r : 1 * c ≡ c = omega arith in r)
    ∙ mod-eq_of_lt m
  where
    one : 1 % p ≡ 1
    one = mod-eq_of_lt two

-- the inverse is the one residue whose product with a is 1
pub inverse-only : (p a b : ℕ) → IsPrime p → a < p → a ≢ 0 → b < p → (a * b) % p ≡ 1 → b ≡ inverse p a
inverse-only p a b prime l n m e =
    let two : 1 < p = prime.two_up in
    one_inverse p a b (inverse p a) two m (inverse-residue p a prime l n) e (inverse-law p a prime l n)

-- 2 times 16002 is 1 modulo 32003
example : IsPrime 32003 → inverse 32003 2 ≡ 16002
example prime = sym (inverse-only 32003 2 16002 prime (lit< tt) (omega arith) (lit< tt) refl)

-- 2 ^ 16 times 2 ^ 15 is 1 modulo 2 ^ 31 - 1
example_big : IsPrime 2147483647 → inverse 2147483647 65536 ≡ 32768
example_big prime = sym (inverse-only 2147483647 65536 32768 prime (lit< tt) (omega arith) (lit< tt) refl)

-- 0 has no inverse
example_none : inverse 7 0 ≡ 0
unfolding inverse
example_none = refl

-- 3 times 5 is 1 modulo 7
example_found : inverse 7 3 ≡ 5
unfolding inverse
example_found = refl
