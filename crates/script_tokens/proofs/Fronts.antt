-- The digits in front of a word: how many there are tells which they are, and what is behind them.
use Rattle.std.proofs.Common.{◌≡◌, Bool, true, false, cond, ℕ, List, [], ◌∷◌, length, take, drop, refl, ap}
use Rattle.std.proofs.lemmas.Bool.{and_parts, leb-true}
use Rattle.prime_field.specs.Decimal.{AreDigits}
use Rattle.script_grammar.specs.Tokens.{is_digit, is_letter}
use Rattle.script_grammar.specs.Words.{digits_front, digits_behind, exponent_of, exponents}

-- the digits in front of a word are its first bytes, as many as they are
pub front_taken : (w : List ℕ) → take (length (digits_front w)) w ≡ digits_front w
front_taken [] = refl
front_taken (b ∷ w) = elim (is_digit b) as (λ d. take (length (cond d (b ∷ digits_front w) [])) (b ∷ w) ≡ cond d (b ∷ digits_front w) []) [
  | true ↦ ap (λ v. b ∷ v) (front_taken w)
  | false ↦ refl
]

-- and behind them stands the rest
pub front_dropped : (w : List ℕ) → drop (length (digits_front w)) w ≡ digits_behind w
front_dropped [] = refl
front_dropped (b ∷ w) = elim (is_digit b) as (λ d. drop (length (cond d (b ∷ digits_front w) [])) (b ∷ w) ≡ cond d (digits_behind w) (b ∷ w)) [
  | true ↦ front_dropped w
  | false ↦ refl
]

-- a digit in front of digits gives digits
front_from_digit : (b : ℕ) (w : List ℕ) (d : Bool) → AreDigits (digits_front w) → is_digit b ≡ d → AreDigits (cond d (b ∷ digits_front w) [])
front_from_digit b w true digits h = let both = and_parts _ _ h in (leb-true 48 b both.0, leb-true b 57 both.1, digits)
front_from_digit b w false digits h = tt

-- the digits in front are digits
pub front_of_digits : (w : List ℕ) → AreDigits (digits_front w)
front_of_digits [] = tt
front_of_digits (b ∷ w) = front_from_digit b w (is_digit b) (front_of_digits w) refl

-- ---- letters with their exponents
pub exponents_letter : (b : ℕ) (w : List ℕ) → is_letter b ≡ true → exponents (b ∷ w) ≡ (b, exponent_of (digits_front w)) ∷ exponents w
exponents_letter b w h = rw h refl

-- a byte that is no letter has no part in the exponents
pub exponents_other : (b : ℕ) (w : List ℕ) → is_letter b ≡ false → exponents (b ∷ w) ≡ exponents w
exponents_other b w h = rw h refl
