-- What a word is.
use Rattle.std.specs.Prelude.{ℕ, Bool, true, false, ◌&&◌, ◌||◌, List, [], ◌∷◌, map, sum, nat_lt, ◌==◌, if◌then◌else◌, codes}
use Rattle.local_order.specs.Limits.{max_exponent}
use Rattle.std.specs.List.{list_all, list_any}
use Rattle.prime_field.specs.Decimal.{value_of}
use Rattle.script_grammar.specs.Tokens.{is_digit, is_letter, Token, word, text, mark, bad, end, cut}

-- digits alone
abbrev pub is_numeral : List ℕ → Bool
is_numeral w = list_all is_digit w

-- the same bytes
abbrev pub is_same : List ℕ → List ℕ → Bool
is_same [] [] = true
is_same (a ∷ x) (b ∷ y) = a == b && is_same x y
is_same [] (b ∷ y) = false
is_same (a ∷ x) [] = false

abbrev pub is_one_of : List (List ℕ) → List ℕ → Bool
is_one_of words w = list_any (λ v. is_same v w) words

abbrev pub keywords : List (List ℕ)
keywords = codes "ring" ∷ codes "poly" ∷ codes "ideal" ∷ codes "option" ∷ codes "noether" ∷ codes "LIB" ∷ codes "std" ∷ codes "vdim" ∷ codes "kbase" ∷ codes "highcorner" ∷ codes "milnor" ∷ codes "tjurina" ∷ codes "jacob" ∷ codes "redSB" ∷ codes "ds" ∷ codes "Ds" ∷ []

-- a word that begins with a letter
abbrev pub is_named : List ℕ → Bool
is_named [] = false
is_named (b ∷ w) = is_letter b

-- ---- short monomials: 2xy3 is 2 * x * y^3
-- the digits in front
abbrev pub digits_front : List ℕ → List ℕ
digits_front [] = []
digits_front (b ∷ w) = if is_digit b then b ∷ digits_front w else []

-- what is behind the digits in front
abbrev pub digits_behind : List ℕ → List ℕ
digits_behind [] = []
digits_behind (b ∷ w) = if is_digit b then digits_behind w else b ∷ w

abbrev pub has_letter : List ℕ → ℕ → Bool
has_letter letters b = list_any (λ l. l == b) letters

-- one or more groups of a variable letter and digits
abbrev pub is_groups : List ℕ → List ℕ → Bool
is_groups letters [] = false
is_groups letters (b ∷ w) = list_all (λ c. is_digit c || has_letter letters c) (b ∷ w)

-- digits or none, and then groups
abbrev pub is_short : List ℕ → List ℕ → Bool
is_short letters w = is_groups letters (digits_behind w)

-- the digits behind a letter are its exponent, which is 1 where there are none
abbrev pub exponent_of : List ℕ → ℕ
exponent_of [] = 1
exponent_of (b ∷ digits) = value_of (b ∷ digits)

-- each letter of a word, with its exponent
abbrev pub exponents : List ℕ → List (ℕ × ℕ)
exponents [] = []
exponents (b ∷ w) = if is_letter b then (b, exponent_of (digits_front w)) ∷ exponents w else exponents w

-- an exponent is above 1,000
abbrev pub has_large : List ℕ → Bool
has_large w = list_any (λ e. nat_lt max_exponent e.1) (exponents w)

-- the sum of the exponents
abbrev pub word_degree : List ℕ → ℕ
word_degree w = sum (map (λ e. e.1) (exponents w))

-- ---- tests of a token
abbrev pub is_the_word : List ℕ → Token → Bool
is_the_word w (word v) = is_same w v
is_the_word w (text v) = false
is_the_word w (mark m) = false
is_the_word w bad = false
is_the_word w end = false
is_the_word w cut = false

abbrev pub is_the_mark : ℕ → Token → Bool
is_the_mark m (mark n) = n == m
is_the_mark m (word w) = false
is_the_mark m (text w) = false
is_the_mark m bad = false
is_the_mark m end = false
is_the_mark m cut = false

abbrev pub is_the_text : List ℕ → Token → Bool
is_the_text w (text v) = is_same w v
is_the_text w (word v) = false
is_the_text w (mark m) = false
is_the_text w bad = false
is_the_text w end = false
is_the_text w cut = false

abbrev pub is_the_end : Token → Bool
is_the_end end = true
is_the_end (word w) = false
is_the_end (text w) = false
is_the_end (mark m) = false
is_the_end bad = false
is_the_end cut = false

-- the word that it is, or none
abbrev pub word_of : Token → List ℕ
word_of (word w) = w
word_of (text w) = []
word_of (mark m) = []
word_of bad = []
word_of end = []
word_of cut = []

abbrev pub is_word : Token → Bool
is_word (word w) = true
is_word (text w) = false
is_word (mark m) = false
is_word bad = false
is_word end = false
is_word cut = false
