-- What stands in front of a text and behind a letter is read byte by byte:
-- what was read so far and what the bytes from there on give are what is read.
use Rattle.std.proofs.Common.{◌≡◌, ℕ, suc, ◌+◌, ◌-◌, ◌*◌, ◌<◌, ◌≤◌, true, false, List, [], ◌∷◌, ◌++◌, length, map, take, drop, get_or, refl, sym, ◌∙◌, ap, arith}
use Rattle.std.specs.Prelude.{◌==◌, if◌then◌else◌}
use Rattle.std.proofs.Math.Seq.{drop-cons, take-suc}
use Rattle.std.proofs.lemmas.List.{drop_all}
use Rattle.prime_field.specs.Decimal.{value_from, value_of}
use Rattle.script_grammar.specs.Tokens.{is_digit}
use Rattle.script_grammar.specs.Words.{digits_front}
use Rattle.text_out.specs.Reads.{exponent_behind, exponent_in, exponents_in}

-- a numeral that goes on has no smaller value
pub grows : (v : ℕ) (ds : List ℕ) → v ≤ value_from v ds
grows v [] = omega arith
grows v (d ∷ ds) = omega (arith, grows (10 * v + (d - 48)) ds)

-- the digits from a place on, by the byte there
digits_at : (w : List ℕ) (i : ℕ) → i < length w → digits_front (drop i w) ≡ (if is_digit (get_or w i 0) then get_or w i 0 ∷ digits_front (drop (suc i) w) else [])
digits_at w i h = ap digits_front (drop-cons w i 0 h)

-- a digit more
pub digit_more : (w : List ℕ) (i v d whole : ℕ) → i < length w → d ≡ get_or w i 0 → is_digit d ≡ true → value_from v (digits_front (drop i w)) ≡ whole → value_from (10 * v + (d - 48)) (digits_front (drop (i + 1) w)) ≡ whole
digit_more w i v d whole h d_is is e =
    let p : i + 1 ≡ suc i = omega arith in
    ap (λ k. value_from (10 * v + (d - 48)) (digits_front (drop k w))) p
    ∙ ap (λ k. value_from (10 * v + (k - 48)) (digits_front (drop (suc i) w))) d_is
    ∙ sym (ap (value_from v) (digits_at w i h ∙ ap (λ c. if c then get_or w i 0 ∷ digits_front (drop (suc i) w) else []) (ap is_digit (sym d_is) ∙ is)))
    ∙ e

-- no digit more
pub digit_none : (w : List ℕ) (i v d whole : ℕ) → i < length w → d ≡ get_or w i 0 → is_digit d ≡ false → value_from v (digits_front (drop i w)) ≡ whole → v ≡ whole
digit_none w i v d whole h d_is is e =
    sym (ap (value_from v) (digits_at w i h ∙ ap (λ c. if c then get_or w i 0 ∷ digits_front (drop (suc i) w) else []) (ap is_digit (sym d_is) ∙ is))) ∙ e

-- at the end no digit is left
pub digits_end : (w : List ℕ) (i v whole : ℕ) → length w ≤ i → value_from v (digits_front (drop i w)) ≡ whole → v ≡ whole
digits_end w i v whole h e = ap (λ (z : List ℕ). value_from v (digits_front z)) (sym (drop_all i w h)) ∙ e

-- a numeral whose first digits have a value above a limit is above it
pub digit_high : (w : List ℕ) (i v d whole limit : ℕ) → i < length w → d ≡ get_or w i 0 → is_digit d ≡ true → limit < 10 * v + (d - 48) → value_from v (digits_front (drop i w)) ≡ whole → limit < whole
digit_high w i v d whole limit h d_is is high e =
    omega (arith, high, grows (10 * v + (d - 48)) (digits_front (drop (i + 1) w)), digit_more w i v d whole h d_is is e)

-- the byte of a digit is at least that of 0
pub is_digit_low : (d : ℕ) → is_digit d ≡ true → 48 ≤ d
is_digit_low d h = grind arith

-- ---- letters
-- the exponent from a place on, by the byte there
letter_at : (v : ℕ) (w : List ℕ) (i : ℕ) → i < length w → exponent_in v (drop i w) ≡ (if get_or w i 0 == v then exponent_behind (drop (suc i) w) else exponent_in v (drop (suc i) w))
letter_at v w i h = ap (exponent_in v) (drop-cons w i 0 h)

-- where the letter stands, its exponent is what stands behind it
pub letter_here : (v : ℕ) (w : List ℕ) (i e : ℕ) → i < length w → get_or w i 0 ≡ v → exponent_in v (drop i w) ≡ e → exponent_behind (drop (i + 1) w) ≡ e
letter_here v w i e h is q =
    let p : i + 1 ≡ suc i = omega arith in
    let t : (get_or w i 0 == v) ≡ true = grind arith in
    ap (λ k. exponent_behind (drop k w)) p ∙ sym (letter_at v w i h ∙ ap (λ c. if c then exponent_behind (drop (suc i) w) else exponent_in v (drop (suc i) w)) t) ∙ q

-- where another byte stands, one goes on behind it
pub letter_other : (v : ℕ) (w : List ℕ) (i e : ℕ) → i < length w → (get_or w i 0 ≡ v → ⊥) → exponent_in v (drop i w) ≡ e → exponent_in v (drop (i + 1) w) ≡ e
letter_other v w i e h is q =
    let p : i + 1 ≡ suc i = omega arith in
    ap (λ k. exponent_in v (drop k w)) p ∙ sym (letter_at v w i h ∙ ap (λ c. if c then exponent_behind (drop (suc i) w) else exponent_in v (drop (suc i) w)) (differs (get_or w i 0) v is)) ∙ q
  where
    differs : (a b : ℕ) → (a ≡ b → ⊥) → (a == b) ≡ false
    differs a b h = grind arith

-- at the end the letter was not there
pub letter_end : (v : ℕ) (w : List ℕ) (i e : ℕ) → length w ≤ i → exponent_in v (drop i w) ≡ e → 0 ≡ e
letter_end v w i e h q = ap (exponent_in v) (sym (drop_all i w h)) ∙ q

-- ---- what stands behind a letter
-- behind a ^ stands the exponent
pub power_behind : (w : List ℕ) → 0 < length w → get_or w 0 0 ≡ 94 → exponent_behind w ≡ value_of (digits_front (drop 1 w))
power_behind [] h e = absurd (omega arith)
power_behind (b ∷ w) h e = ap (λ c. if c then value_of (digits_front w) else 1) (let p : (b == 94) ≡ true = grind arith in p)

-- without a ^ the exponent is 1
pub no_power_behind : (w : List ℕ) → (get_or w 0 0 ≡ 94 → ⊥) → exponent_behind w ≡ 1
no_power_behind [] e = refl
no_power_behind (b ∷ w) e = ap (λ c. if c then value_of (digits_front w) else 1) (differs b 94 e)
  where
    differs : (a b : ℕ) → (a ≡ b → ⊥) → (a == b) ≡ false
    differs a b h = grind arith

-- ---- the exponents of the first letters
-- a function over a list with one more member
map-push : (f : ℕ → ℕ) (xs : List ℕ) (x : ℕ) → map f (xs ++ x ∷ []) ≡ map f xs ++ f x ∷ []
map-push f [] x = refl
map-push f (y ∷ xs) x = ap (λ (z : List ℕ). f y ∷ z) (map-push f xs x)

-- the exponents of one more letter
pub exponents_next : (letters text : List ℕ) (i : ℕ) → i < length letters → exponents_in (take (i + 1) letters) text ≡ exponents_in (take i letters) text ++ exponent_in (get_or letters i 0) text ∷ []
exponents_next letters text i h =
    let p : i + 1 ≡ suc i = omega arith in
    ap (λ k. exponents_in (take k letters) text) p ∙ ap (λ (z : List ℕ). exponents_in z text) (take-suc letters i 0 h) ∙ map-push (λ v. exponent_in v text) (take i letters) (get_or letters i 0)
