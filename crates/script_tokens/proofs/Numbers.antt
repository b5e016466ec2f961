-- Numerals digit by digit.
use Rattle.std.proofs.Common.{◌≡◌, true, false, cond, Bool, Some, None, nat_lt, refl, ℕ, ◌+◌, ◌-◌, ◌*◌, ◌<◌, ◌≤◌, List, [], ◌∷◌, length, get_or, drop, drop-cons, add-one, sym, ap, ◌∙◌, arith}
use Rattle.std.proofs.lemmas.Bool.{and_parts, leb-true, ltb-true}
use Rattle.prime_field.specs.Decimal.{value_from, AreDigits}
use Rattle.script_grammar.specs.Tokens.{is_digit}
use Rattle.script_grammar.specs.Words.{is_numeral}
use Rattle.script_tokens.specs.Reads.{at_most}

-- more digits make no lesser number
pub value_above : (n : ℕ) (w : List ℕ) → n ≤ value_from n w
value_above n [] = omega arith
value_above n (b ∷ w) = let h = value_above (10 * n + (b - 48)) w in omega arith

-- a word of digits alone is made of digits
pub digits_alone : (w : List ℕ) → is_numeral w ≡ true → AreDigits w
digits_alone [] h = tt
digits_alone (b ∷ w) h =
    let both = and_parts (is_digit b) (is_numeral w) h in
    let digit = and_parts _ _ both.0 in
    (leb-true 48 b digit.0, leb-true b 57 digit.1, digits_alone w both.1)

-- one digit more
pub value_step : (n d i r : ℕ) (w : List ℕ) → i < length w → d ≡ get_or w i 0 - 48 → value_from n (drop i w) ≡ r → value_from (10 * n + d) (drop (i + 1) w) ≡ r
value_step n d i r w within e so_far =
    rw (e, add-one) (sym (ap (λ (x : List ℕ). value_from n x) (drop-cons w i 0 within)) ∙ so_far)

-- ---- what a number within a limit tells
at_most_some-by : (limit n x : ℕ) (b : Bool) → cond b None (Some n) ≡ Some x → n ≡ x
at_most_some-by limit n x true e = absurd cc
at_most_some-by limit n x false e = cc

-- a number that is let through is the number itself
pub at_most_some : (limit n x : ℕ) → at_most limit n ≡ Some x → n ≡ x
at_most_some limit n x e = at_most_some-by limit n x (nat_lt limit n) e

-- a number that is stopped is above the limit, told by the test
at_most_none-by : (limit n : ℕ) (b : Bool) → nat_lt limit n ≡ b → cond b None (Some n) ≡ None → limit < n
at_most_none-by limit n true h e = ltb-true limit n h
at_most_none-by limit n false h e = absurd cc

-- a number that is stopped is above the limit
pub at_most_none : (limit n : ℕ) → at_most limit n ≡ None → limit < n
at_most_none limit n e = at_most_none-by limit n (nat_lt limit n) refl e
