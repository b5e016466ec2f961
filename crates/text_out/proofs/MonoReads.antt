-- A printed monomial is read back: at each letter its power is found, the powers before it have no such letter, and behind a
-- power stands a * or nothing.
use Rattle.std.proofs.Common.{◌≡◌, ◌≢◌, ℕ, suc, ◌+◌, ◌%◌, ◌^◌, ◌<◌, List, [], ◌∷◌, ◌++◌, length, map, Bool, true, false, codes, refl, sym, ◌∙◌, ap, arith, rules}
use Rattle.std.specs.Prelude.{if◌then◌else◌, ◌==◌, decimal}
use Rattle.std.specs.List.{join_with_byte, AllByRecursion}
use Rattle.std.specs.Prelude.{All, AllPairs}
use Rattle.std.specs.Char.{IsAsciiAlphabetic}
use Rattle.std.proofs.Common.{⊎_elim, get_or}
use Rattle.std.proofs.lemmas.List.{append-nil}
use Rattle.std.proofs.lemmas.Fmt.{decimal_by_steps, digits_value-decimal}
use Rattle.std.proofs.lemmas.Str.Parse.{IsNumeralModel, numerals_by_fold}
use Rattle.prime_field.specs.Decimal.{AreDigits, value_from, value_of}
use Rattle.local_order.specs.Mono.{degree}
use Rattle.text_out.specs.Texts.{power_text, powers, mono_text}
use Rattle.script_grammar.specs.Tokens.{is_digit}
use Rattle.script_grammar.specs.Words.{digits_front}
use Rattle.text_out.specs.Reads.{exponent_behind, exponent_in, exponents_in}

-- ---- numerals
-- values of numerals are told by folding their digits
own : IsNumeralModel AreDigits value_of
own = numerals_by_fold _ (search rules) value_from (search rules)

-- the value of a printed number is the number
pub value_again : (n : ℕ) → n < 2 ^ 64 → value_of (decimal n) ≡ n
value_again n h = digits_value-decimal own n h

-- all bytes pass the test
abbrev pub AreAll : (ℕ → Bool) → List ℕ → Type 0
AreAll test w = AllByRecursion (λ b. test b ≡ true) w

-- where all bytes of two texts pass a test, those of both together do
all-append : (test : ℕ → Bool) (v w : List ℕ) → AreAll test v → AreAll test w → AreAll test (v ++ w)
all-append test [] w h k = k
all-append test (b ∷ v) w h k = (h.0, all-append test v w h.1 k)

-- the byte of a digit is a digit
digit_is : (d : ℕ) → d < 10 → is_digit (48 + d) ≡ true
digit_is d h = grind arith

-- a printed number has digits alone
pub decimal_digits : (n : ℕ) → n < 2 ^ 64 → AreAll is_digit (decimal n)
decimal_digits = decimal_by_steps (λ n ds. AreAll is_digit ds) (λ n h. (digit_is n h, tt)) (λ n ds h k. all-append is_digit ds ((48 + n % 10) ∷ []) k (digit_is (n % 10) (let p : n % 10 < 10 = omega arith in p), tt))

-- the digits in front of what begins with no digit
pub digits_of_both : (ds rest : List ℕ) → AreAll is_digit ds → digits_front rest ≡ [] → digits_front (ds ++ rest) ≡ ds
digits_of_both [] rest h e = e
digits_of_both (d ∷ ds) rest h e = ap (λ b. if b then d ∷ digits_front (ds ++ rest) else []) h.0 ∙ ap (λ (z : List ℕ). d ∷ z) (digits_of_both ds rest h.1 e)

-- ---- letters
-- the byte is in no numeral and no mark of a monomial
pub record IsLetter (v : ℕ) : Type 0 where
  pub above : 57 < v
  pub mark : v ≢ 94

-- the byte is none of these
abbrev pub IsOther : ℕ → List ℕ → Type 0
IsOther u vs = AllByRecursion (λ v. u ≢ v) vs

-- letters, each once
abbrev pub AreDistinct : List ℕ → Type 0
AreDistinct [] = Unit {0}
AreDistinct (v ∷ vs) = IsLetter v × IsOther v vs × AreDistinct vs

-- numbers that differ are told apart by the test
differs : (a b : ℕ) → a ≢ b → (a == b) ≡ false
differs a b h = grind arith

-- ---- powers of other letters are passed over
-- no byte is v
abbrev pub IsFree : ℕ → List ℕ → Type 0
IsFree v text = AllByRecursion (λ b. (b == v) ≡ false) text

-- the exponent of a letter is looked for behind bytes without it
pub passed : (v : ℕ) (text rest : List ℕ) → IsFree v text → exponent_in v (text ++ rest) ≡ exponent_in v rest
passed v [] rest h = refl
passed v (b ∷ text) rest h = ap (λ c. if c then exponent_behind (text ++ rest) else exponent_in v (text ++ rest)) h.0 ∙ passed v text rest h.1

-- no digit is a letter
pub digits_free : (v : ℕ) (ds : List ℕ) → IsLetter v → AreAll is_digit ds → IsFree v ds
digits_free v [] l h = tt
digits_free v (d ∷ ds) l h = (low d h.0, digits_free v ds l h.1)
  where
    low : (d : ℕ) → is_digit d ≡ true → (d == v) ≡ false
    low d e = let p : 57 < v = l.above in grind arith

-- the power of another letter is without this one
power_free : (v u e : ℕ) → IsLetter v → u ≢ v → e < 2 ^ 64 → IsFree v (power_text u e)
power_free v u e l other small = go (e == 1)
  where
    go : (b : Bool) → IsFree v (if b then u ∷ [] else u ∷ codes "^" ++ decimal e)
    go true = (differs u v other, tt)
    go false = (differs u v other, (let p : (94 == v) ≡ false = differs 94 v (λ q. l.mark (sym q)) in p, digits_free v (decimal e) l (decimal_digits e small)))

-- the pieces, with a * before each
abbrev pub behind_pieces : List (List ℕ) → List ℕ
behind_pieces [] = []
behind_pieces (x ∷ xs) = 42 ∷ join_with_byte 42 (x ∷ xs)

-- the first piece, and the others with a * before each, are the joined pieces
pub join-cons : (x : List ℕ) (xs : List (List ℕ)) → join_with_byte 42 (x ∷ xs) ≡ x ++ behind_pieces xs
join-cons x [] = sym (append-nil x)
join-cons x (y ∷ xs) = refl

-- a * is no letter
pub star_free : (v : ℕ) → IsLetter v → (42 == v) ≡ false
star_free v l = let p : 57 < v = l.above in grind arith

-- a * in front changes no exponent
behind_free : (v : ℕ) (xs : List (List ℕ)) → IsLetter v → exponent_in v (behind_pieces xs) ≡ exponent_in v (join_with_byte 42 xs)
behind_free v [] l = refl
behind_free v (x ∷ xs) l = ap (λ c. if c then exponent_behind (join_with_byte 42 (x ∷ xs)) else exponent_in v (join_with_byte 42 (x ∷ xs))) (star_free v l)

-- numbers below 2^64, which are those that are printed
abbrev pub AreSmall : List ℕ → Type 0
AreSmall es = AllByRecursion (λ e. e < 2 ^ 64) es

-- one variable more in front, which is another one
skipped : (v u e : ℕ) (vs es : List ℕ) → IsLetter v → u ≢ v → e < 2 ^ 64 → exponent_in v (join_with_byte 42 (powers (u ∷ vs) (e ∷ es))) ≡ exponent_in v (join_with_byte 42 (powers vs es))
skipped v u e vs es l other small = go (e == 0)
  where
    go : (b : Bool) → exponent_in v (join_with_byte 42 (if b then powers vs es else power_text u e ∷ powers vs es)) ≡ exponent_in v (join_with_byte 42 (powers vs es))
    go true = refl
    go false =
        ap (exponent_in v) (join-cons (power_text u e) (powers vs es))
        ∙ passed v (power_text u e) (behind_pieces (powers vs es)) (power_free v u e l other small)
        ∙ behind_free v (powers vs es) l

-- a letter that isn't there
absent : (v : ℕ) (vs es : List ℕ) → IsLetter v → IsOther v vs → AreSmall es → exponent_in v (join_with_byte 42 (powers vs es)) ≡ 0
absent v [] es l h s = refl
absent v (u ∷ vs) [] l h s = refl
absent v (u ∷ vs) (e ∷ es) l h s = skipped v u e vs es l (λ q. h.0 (sym q)) s.0 ∙ absent v vs es l h.1 s.1

-- behind a power stands nothing or a *
ends_digits : (xs : List (List ℕ)) → digits_front (behind_pieces xs) ≡ []
ends_digits [] = refl
ends_digits (x ∷ xs) = refl

-- what follows a power is no exponent
ends_power : (xs : List (List ℕ)) → exponent_behind (behind_pieces xs) ≡ 1
ends_power [] = refl
ends_power (x ∷ xs) = refl

-- the letter's own power
here : (v e : ℕ) (xs : List (List ℕ)) → e < 2 ^ 64 → exponent_in v (join_with_byte 42 (power_text v e ∷ xs)) ≡ e
here v e xs small = ap (exponent_in v) (join-cons (power_text v e) xs) ∙ go (e == 1) refl
  where
    own_letter : (v == v) ≡ true
    own_letter = grind arith

    one : (n : ℕ) → (n == 1) ≡ true → n ≡ 1
    one n h = grind arith

    go : (b : Bool) → (e == 1) ≡ b → exponent_in v ((if b then v ∷ [] else v ∷ codes "^" ++ decimal e) ++ behind_pieces xs) ≡ e
    go true is = ap (λ c. if c then exponent_behind (behind_pieces xs) else exponent_in v (behind_pieces xs)) own_letter ∙ ends_power xs ∙ sym (one e is)
    go false is =
        ap (λ c. if c then exponent_behind (94 ∷ decimal e ++ behind_pieces xs) else exponent_in v (94 ∷ decimal e ++ behind_pieces xs)) own_letter
        ∙ ap value_of (digits_of_both (decimal e) (behind_pieces xs) (decimal_digits e small) (ends_digits xs))
        ∙ value_again e small

-- the exponents of letters that are other ones are the same with one variable more in front
same_map : (ws : List ℕ) (u e : ℕ) (vs es : List ℕ) → AreDistinct ws → IsOther u ws → e < 2 ^ 64 →
    map (λ v. exponent_in v (join_with_byte 42 (powers (u ∷ vs) (e ∷ es)))) ws ≡ map (λ v. exponent_in v (join_with_byte 42 (powers vs es))) ws
same_map [] u e vs es d h small = refl
same_map (w ∷ ws) u e vs es d h small =
    ap (λ z. z ∷ map (λ v. exponent_in v (join_with_byte 42 (powers (u ∷ vs) (e ∷ es)))) ws) (skipped w u e vs es d.0 h.0 small)
    ∙ ap (λ (z : List ℕ). exponent_in w (join_with_byte 42 (powers vs es)) ∷ z) (same_map ws u e vs es d.2 h.1 small)

-- a printed product of powers
pub powers_again : (letters m : List ℕ) → AreDistinct letters → AreSmall m → length m ≡ length letters → exponents_in letters (join_with_byte 42 (powers letters m)) ≡ m
powers_again [] [] d s l = refl
powers_again [] (e ∷ m) d s l = absurd (omega arith)
powers_again (v ∷ letters) [] d s l = absurd (omega arith)
powers_again (v ∷ letters) (e ∷ m) d s l =
    ap (λ z. z ∷ map (λ u. exponent_in u (join_with_byte 42 (powers (v ∷ letters) (e ∷ m)))) letters) (first (e == 0) refl)
    ∙ ap (λ (z : List ℕ). e ∷ z) (same_map letters v e letters m d.2 d.1 s.0 ∙ powers_again letters m d.2 s.1 (omega arith))
  where
    none : (n : ℕ) → (n == 0) ≡ true → n ≡ 0
    none n h = grind arith

    first : (b : Bool) → (e == 0) ≡ b → exponent_in v (join_with_byte 42 (if b then powers letters m else power_text v e ∷ powers letters m)) ≡ e
    first true is = absent v letters m d.0 d.1 s.1 ∙ sym (none e is)
    first false is = here v e (powers letters m) s.0

-- ---- the letters of a ring
-- the letters of a ring are letters, each once
pub letters_distinct : (letters : List ℕ) → All IsAsciiAlphabetic letters → AllPairs (λ a b. a ≢ b) letters → AreDistinct letters
letters_distinct [] a d = tt
letters_distinct (v ∷ vs) a d =
    (letter v (a 0 0 (omega arith)), other v vs (λ k i. d 0 (suc k) 0 (omega arith) (omega (arith, i))), letters_distinct vs (λ k z i. a (suc k) z (omega (arith, i))) (λ i j z h k. d (suc i) (suc j) z (omega (arith, h)) (omega (arith, k))))
  where
    letter : (v : ℕ) → IsAsciiAlphabetic v → IsLetter v
    letter v h = record {
      above = ⊎_elim (λ k. omega (arith, k.0)) (λ k. omega (arith, k.0)) h;
      mark = λ e. ⊎_elim (λ k. omega (arith, k.1, e)) (λ k. omega (arith, k.0, e)) h;
    }

    other : (v : ℕ) (vs : List ℕ) → ((k : ℕ) → k < length vs → v ≢ get_or vs k 0) → IsOther v vs
    other v [] h = tt
    other v (w ∷ vs) h = (h 0 (omega arith), other v vs (λ k i. h (suc k) (omega (arith, i))))

-- ---- a printed monomial
-- no exponent but 0
pub zeros_are : (letters m : List ℕ) → length m ≡ length letters → degree m ≡ 0 → map (λ v. 0) letters ≡ m
zeros_are [] [] l z = refl
zeros_are [] (e ∷ m) l z = absurd (omega arith)
zeros_are (v ∷ letters) [] l z = absurd (omega arith)
zeros_are (v ∷ letters) (e ∷ m) l z =
    ap (λ k. k ∷ map (λ v. 0) letters) (let p : 0 ≡ e = omega (arith, z) in p) ∙ ap (λ (k : List ℕ). e ∷ k) (zeros_are letters m (omega arith) (omega (arith, z)))

-- digits alone have no letter
pub digits_none : (letters ds : List ℕ) → AreDistinct letters → AreAll is_digit ds → exponents_in letters ds ≡ map (λ v. 0) letters
digits_none [] ds d h = refl
digits_none (v ∷ letters) ds d h =
    ap (λ z. z ∷ exponents_in letters ds) (ap (exponent_in v) (sym (append-nil ds)) ∙ passed v ds [] (digits_free v ds d.0 h)) ∙ ap (λ (z : List ℕ). 0 ∷ z) (digits_none letters ds d.2 h)

-- the exponents that stand in the text of a monomial are its exponents
pub mono_again : (letters m : List ℕ) → AreDistinct letters → AreSmall m → length m ≡ length letters → exponents_in letters (mono_text letters m) ≡ m
mono_again letters m d s l = go (degree m == 0) refl
  where
    go : (b : Bool) → (degree m == 0) ≡ b → exponents_in letters (if b then codes "1" else join_with_byte 42 (powers letters m)) ≡ m
    go true is = digits_none letters (codes "1") d (refl, tt) ∙ zeros_are letters m l (let p : degree m ≡ 0 = grind arith in p)
    go false is = powers_again letters m d s l

-- a monomial has one text, and a text is that of one monomial
pub one_mono : (letters m k : List ℕ) → AreDistinct letters → AreSmall m → AreSmall k → length m ≡ length letters → length k ≡ length letters → mono_text letters m ≡ mono_text letters k → m ≡ k
one_mono letters m k d s t l n e = sym (mono_again letters m d s l) ∙ ap (exponents_in letters) e ∙ mono_again letters k d t n
