-- The reduction of one lane: why no division is needed, and what the numbers are bounded by.
-- First the difference that is kept where it doesn't wrap, then Barrett's quotient, which is too small by at most 1.
use Rattle.std.proofs.Common.{◌≡◌, ℕ, ◌+◌, ◌-◌, ◌*◌, ◌/◌, ◌%◌, ◌^◌, ◌<◌, ◌≤◌, cond, ltb, ap, sym, ◌∙◌, ◌⊎◌, inl, inr, subst, arith}
use Rattle.std.proofs.Math.Nat.{div-add-mod, div-lt_iff_lt-mul, add-mul-mod_self_right, mod-lt, mod-eq_of_lt, add-mul-mod_self_left, mul-le-mul_left, mul-le-mul_right}
use Rattle.std.proofs.lemmas.Nat.{mul-le}
use Rattle.std.proofs.lemmas.Bool.{cases_lt, lt-ltb, le-ltb}

-- x less p, on 32 bits: where it is below 0 it wraps
abbrev pub wrapped_less : ℕ → ℕ → ℕ
wrapped_less x p = (x + (2 ^ 32 - p)) % 2 ^ 32

-- the lesser of a number below twice p and its wrapped difference with p is its residue
pub lesser_is_residue : (p x : ℕ) → p < 2 ^ 31 → x < 2 * p → cond (ltb x (wrapped_less x p)) x (wrapped_less x p) ≡ x % p
lesser_is_residue p x prime small = go (cases_lt x p)
  where
    go : (x < p) ⊎ (p ≤ x) → cond (ltb x (wrapped_less x p)) x (wrapped_less x p) ≡ x % p
    go (inl l) =
        let greater : x < wrapped_less x p = omega arith in
        ap (λ b. cond b x (wrapped_less x p)) (lt-ltb x (wrapped_less x p) greater) ∙ sym (mod-eq_of_lt l)
    go (inr g) =
        let less : wrapped_less x p ≡ x - p = omega arith in
        let not_less : wrapped_less x p ≤ x = omega arith in
        let back : x - p + p * 1 ≡ x = omega arith in
        let below : x - p < p = omega arith in
        ap (λ b. cond b x (wrapped_less x p)) (le-ltb x (wrapped_less x p) not_less)
        ∙ less ∙ sym (mod-eq_of_lt below) ∙ sym (add-mul-mod_self_left (x - p) p 1) ∙ ap (λ n. n % p) back

-- Barrett's quotient of y times a factor f, by q, the quotient of f times 2 ^ 32
abbrev pub guess : ℕ → ℕ → ℕ
guess q y = (y * q) / 2 ^ 32

-- the quotient's multiple of p is at most the product
pub guess_at_most : (p f q y : ℕ) → 0 < p → q ≡ f * 2 ^ 32 / p → guess q y * p ≤ y * f
guess_at_most p f q y pos e =
    let divided : p * q + f * 2 ^ 32 % p ≡ f * 2 ^ 32 = subst (λ n. p * n + f * 2 ^ 32 % p ≡ f * 2 ^ 32) (sym e) (div-add-mod (f * 2 ^ 32) p) in
    let scaled : y * (p * q) ≤ y * (f * 2 ^ 32) = mul-le-mul_left y (omega arith) in
    let guessed : guess q y * 2 ^ 32 * p ≤ y * q * p = mul-le-mul_right p (omega arith) in
    let left : guess q y * 2 ^ 32 * p ≡ guess q y * p * 2 ^ 32 = omega arith in
    let middle : y * q * p ≡ y * (p * q) = omega arith in
    let right : y * (f * 2 ^ 32) ≡ y * f * 2 ^ 32 = omega arith in
    omega arith

-- the product is less than twice p above it
pub guess_near : (p f q y : ℕ) → 0 < p → y < 2 ^ 32 → q ≡ f * 2 ^ 32 / p → y * f < guess q y * p + 2 * p
guess_near p f q y pos fits e =
    let divided : p * q + f * 2 ^ 32 % p ≡ f * 2 ^ 32 = subst (λ n. p * n + f * 2 ^ 32 % p ≡ f * 2 ^ 32) (sym e) (div-add-mod (f * 2 ^ 32) p) in
    let rest : f * 2 ^ 32 % p < p = mod-lt (f * 2 ^ 32) pos in
    let scaled : y * (f * 2 ^ 32) ≤ y * (p * q + p) = mul-le-mul_left y (omega arith) in
    let guessed : (y * q + 1) * p ≤ (guess q y * 2 ^ 32 + 2 ^ 32) * p = mul-le-mul_right p (omega arith) in
    let last : y * p ≤ 2 ^ 32 * p = mul-le-mul_right p (omega arith) in
    let split : y * (p * q + p) ≡ y * q * p + y * p = omega arith in
    let one_more : (y * q + 1) * p ≡ y * q * p + p = omega arith in
    let parts : (guess q y * 2 ^ 32 + 2 ^ 32) * p ≡ guess q y * p * 2 ^ 32 + 2 ^ 32 * p = omega arith in
    let right : y * (f * 2 ^ 32) ≡ y * f * 2 ^ 32 = omega arith in
    omega arith

-- the quotient of a factor fits in 32 bits
quotient_small : (p f q : ℕ) → f < p → q ≡ f * 2 ^ 32 / p → q < 2 ^ 32
quotient_small p f q h e = subst (λ n. n < 2 ^ 32) (sym e) ((div-lt_iff_lt-mul (omega arith)).1 (omega arith))

-- the product less the quotient's multiple of p, on 64 bits
abbrev pub rest : ℕ → ℕ → ℕ → ℕ → ℕ
rest p f q y = (y * f % 2 ^ 64 + (2 ^ 64 - y * q % 2 ^ 64 / 2 ^ 32 * p % 2 ^ 64)) % 2 ^ 64

-- nothing of it wraps
pub rest_exact : (p f q y : ℕ) → p < 2 ^ 31 → f < p → y < 2 ^ 32 → q ≡ f * 2 ^ 32 / p → rest p f q y + guess q y * p ≡ y * f
rest_exact p f q y prime factor fits e =
    let most : guess q y * p ≤ y * f = guess_at_most p f q y (omega arith) e in
    let product : y * f ≤ 2 ^ 32 * 2 ^ 31 = mul-le y f (2 ^ 32) (2 ^ 31) (omega arith) (omega arith) in
    let quotient : q < 2 ^ 32 = quotient_small p f q factor e in
    let high : y * q ≤ 2 ^ 32 * (2 ^ 32 - 1) = mul-le y q (2 ^ 32) (2 ^ 32 - 1) (omega arith) (omega arith) in
    let whole : y * q % 2 ^ 64 ≡ y * q = mod-eq_of_lt (omega arith) in
    let multiple : y * q % 2 ^ 64 / 2 ^ 32 * p ≡ guess q y * p = ap (λ n. n / 2 ^ 32 * p) whole in
    omega arith

-- it is below twice p
pub rest_small : (p f q y : ℕ) → p < 2 ^ 31 → f < p → y < 2 ^ 32 → q ≡ f * 2 ^ 32 / p → rest p f q y < 2 * p
rest_small p f q y prime factor fits e = omega (arith, rest_exact p f q y prime factor fits e, guess_near p f q y (omega arith) fits e)

-- and has the product's residue
pub rest_same : (p f q y : ℕ) → p < 2 ^ 31 → f < p → y < 2 ^ 32 → q ≡ f * 2 ^ 32 / p → rest p f q y % p ≡ (f * y) % p
rest_same p f q y prime factor fits e =
    sym (add-mul-mod_self_right (rest p f q y) (guess q y) p)
    ∙ ap (λ n. n % p) (rest_exact p f q y prime factor fits e ∙ swap)
  where
    swap : y * f ≡ f * y
    swap = omega arith
