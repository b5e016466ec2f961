-- Decimal numerals, as the bytes of their digits.
use Rattle.std.specs.Prelude.{ℕ, ◌+◌, ◌-◌, ◌*◌, ◌≤◌, List, [], ◌∷◌}

-- each byte is a decimal digit
abbrev pub AreDigits : List ℕ → Type 0
AreDigits [] = Unit {0}
AreDigits (c ∷ digits) = (48 ≤ c) × (c ≤ 57) × AreDigits digits

-- the value of a numeral that goes on behind n
abbrev pub value_from : ℕ → List ℕ → ℕ
value_from n [] = n
value_from n (c ∷ digits) = value_from (10 * n + (c - 48)) digits

-- the value of a numeral, and 0 where there is no digit
abbrev pub value_of : List ℕ → ℕ
value_of digits = value_from 0 digits
