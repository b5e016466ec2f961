-- Sums and products of residues, and one step of Euclid's algorithm on them.
-- What is the same modulo p may be put in place of one another; then the step on the factors follows.
use Rattle.std.proofs.Common.{◌≡◌, ℕ, ◌+◌, ◌-◌, ◌*◌, ◌/◌, ◌%◌, ◌<◌, refl, ap, sym, ◌∙◌, arith}
use Rattle.std.proofs.Math.Nat.{add-mod, mod-mod, div-add-mod, mod-lt, add-mul-mod_self_left}
use Rattle.std.proofs.lemmas.Nat.{mul-mod}

-- sums of numbers that are the same modulo p are the same
pub add_same : (p a b c d : ℕ) → a % p ≡ b % p → c % p ≡ d % p → (a + c) % p ≡ (b + d) % p
add_same p a b c d e f =
    add-mod a c p ∙ ap (λ n. (n + c % p) % p) e ∙ ap (λ n. (b % p + n) % p) f ∙ sym (add-mod b d p)

-- products of numbers that are the same modulo p are the same
pub mul_same : (p a b c d : ℕ) → a % p ≡ b % p → c % p ≡ d % p → (a * c) % p ≡ (b * d) % p
mul_same p a b c d e f =
    mul-mod a c p ∙ ap (λ n. (n * (c % p)) % p) e ∙ ap (λ n. (b % p * n) % p) f ∙ sym (mul-mod b d p)

-- c and what it lacks are a multiple of p
fill : (p c : ℕ) → 0 < p → c + (p - c % p) ≡ p * (c / p + 1)
fill p c h = omega (arith, div-add-mod c p, mod-lt c h)

-- c and what it lacks to a multiple of p add nothing
pub add_back : (p a c : ℕ) → 0 < p → (a + c + (p - c % p)) % p ≡ a % p
add_back p a c h =
    ap (λ n. n % p) (let e : a + c + (p - c % p) ≡ a + p * (c / p + 1) = omega (arith, fill p c h) in e)
    ∙ add-mul-mod_self_left a p (c / p + 1)

-- a common summand may be left out
pub cancel : (p a b c : ℕ) → 0 < p → (a + c) % p ≡ (b + c) % p → a % p ≡ b % p
cancel p a b c h e =
    sym (add_back p a c h)
    ∙ add_same p (a + c) (b + c) (p - c % p) (p - c % p) e refl
    ∙ add_back p b c h

-- one step of Euclid's algorithm keeps that a times the factor is the remainder
pub euclid : (p a high low hf lf f : ℕ) → 0 < p →
    (a * hf) % p ≡ high % p → (a * lf) % p ≡ low % p →
    (f + (high / low) * lf) % p ≡ hf % p →
    (a * f) % p ≡ (high % low) % p
euclid p a high low hf lf f pos h l e =
    cancel p (a * f) (high % low) (high / low * low) pos
    (add_same p (a * f) (a * f) (high / low * low) (high / low * (a * lf)) refl
    (mul_same p (high / low) (high / low) low (a * lf) refl (sym l))
    ∙ ap (λ n. n % p) (let r : a * f + high / low * (a * lf) ≡ a * (f + high / low * lf) = omega arith in r)
    ∙ mul_same p a a (f + high / low * lf) hf refl e
    ∙ h
    ∙ ap (λ n. n % p) (let r : high ≡ high % low + high / low * low = omega (arith, div-add-mod high low) in r))

-- the factor that the loop makes is the one of Euclid's step
pub euclid_factor : (p hf lf q m f : ℕ) → 0 < p →
    m ≡ (q % p * lf) % p → f ≡ (hf + (p - m)) % p → (f + q * lf) % p ≡ hf % p
euclid_factor p hf lf q m f pos me fe =
    let same : (q * lf) % p ≡ m = mul_same p q (q % p) lf lf (sym (mod-mod q p)) refl ∙ sym me in
    let below : m < p = rw me (mod-lt (q % p * lf) pos) in
    add_same p f (hf + (p - m)) (q * lf) m (rw fe (mod-mod (hf + (p - m)) p)) (same ∙ sym (rw me (mod-mod (q % p * lf) p)))
    ∙ ap (λ n. n % p) (let r : hf + (p - m) + m ≡ hf + p * 1 = omega arith in r)
    ∙ add-mul-mod_self_left hf p 1
