-- Numerals modulo p: each digit may be read on from the residue of those before it.
-- So a numeral of any length is reduced digit by digit.
use Rattle.std.proofs.Common.{◌≡◌, ℕ, ◌+◌, ◌-◌, ◌*◌, ◌%◌, ◌<◌, ◌≤◌, All, List, [], ◌∷◌, length, drop, get_or, refl, ap, sym, ◌∙◌, subst}
use Rattle.std.proofs.Math.Nat.{mod-mod}
use Rattle.std.proofs.lemmas.List.{at_drop_more, drop_more}
use Rattle.std.proofs.lemmas.List.Elements.{All-head, All-tail}
use Rattle.prime_field.specs.Decimal.{AreDigits, value_from}
use Rattle.prime_field.proofs.Residue.{add_same, mul_same}

-- the numbers that a numeral goes on behind count modulo p
pub value_from-same : (p n m : ℕ) (digits : List ℕ) → n % p ≡ m % p → value_from n digits % p ≡ value_from m digits % p
value_from-same p n m [] e = e
value_from-same p n m (c ∷ digits) e =
    value_from-same p (10 * n + (c - 48)) (10 * m + (c - 48)) digits
    (add_same p (10 * n) (10 * m) (c - 48) (c - 48) (mul_same p 10 10 n m refl e) refl)

-- what is left of digits begins with a digit
pub digit_at : (digits : List ℕ) (i : ℕ) → i < length digits → AreDigits (drop i digits) → (48 ≤ get_or digits i 0) × (get_or digits i 0 ≤ 57) × AreDigits (drop (i + 1) digits)
digit_at digits i l h = subst AreDigits (drop_more digits i 0 l) h

-- one digit more is read on from the residue
pub value_from-more : (p n : ℕ) (digits : List ℕ) (i : ℕ) → i < length digits →
    value_from ((10 * n + (get_or digits i 0 - 48)) % p) (drop (i + 1) digits) % p ≡ value_from n (drop i digits) % p
value_from-more p n digits i l =
    value_from-same p ((10 * n + (get_or digits i 0 - 48)) % p) (10 * n + (get_or digits i 0 - 48)) (drop (i + 1) digits) (mod-mod (10 * n + (get_or digits i 0 - 48)) p)
    ∙ ap (λ v. v % p) (sym (at_drop_more (value_from n) digits i 0 l))

-- bytes from 48 to 57 are digits
pub AreDigits-from_all : (bytes : List ℕ) → All (λ b. (48 ≤ b) × (b ≤ 57)) bytes → AreDigits bytes
AreDigits-from_all [] h = tt
AreDigits-from_all (c ∷ bytes) h =
    let first = All-head (λ b. (48 ≤ b) × (b ≤ 57)) c bytes h in
    (first.0, first.1, AreDigits-from_all bytes (All-tail (λ b. (48 ≤ b) × (b ≤ 57)) c bytes h))
