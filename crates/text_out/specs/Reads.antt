-- Reading the texts of monomials and polynomials back, whatever else they may be: what is read is printed again and compared. Ours.
use Rattle.std.specs.Prelude.{ℕ, ◌-◌, ◌≤◌, List, [], ◌∷◌, All, Bool, true, false, map, codes, ◌==◌, if◌then◌else◌}
use Rattle.std.specs.List.{AllByRecursion}
use Rattle.prime_field.specs.Decimal.{value_of}
use Rattle.local_order.specs.Limits.{max_exponent}
use Rattle.sparse_poly.specs.Poly.{Term, Poly}
use Rattle.script_grammar.specs.Tokens.{is_digit}
use Rattle.script_grammar.specs.Words.{is_same, digits_front}

-- ---- monomials
-- the number behind a letter: that behind a ^, and else 1
abbrev pub exponent_behind : List ℕ → ℕ
exponent_behind [] = 1
exponent_behind (b ∷ text) = if b == 94 then value_of (digits_front text) else 1

-- the exponent of a letter, by the first place where it stands
abbrev pub exponent_in : ℕ → List ℕ → ℕ
exponent_in v [] = 0
exponent_in v (b ∷ text) = if b == v then exponent_behind text else exponent_in v text

abbrev pub exponents_in : List ℕ → List ℕ → List ℕ
exponents_in letters text = map (λ v. exponent_in v text) letters

-- ---- polynomials
-- a minus or not, and the bytes up to the next sign
pub record Piece : Type 0 where
  pub negative : Bool
  pub bytes : List ℕ

abbrev pub is_sign : ℕ → Bool
is_sign b = if b == 43 then true else b == 45

-- a byte in front of the first piece
abbrev pub byte_in_front : ℕ → List Piece → List Piece
byte_in_front b [] = []
byte_in_front b (x ∷ xs) = record { negative = x.negative; bytes = b ∷ x.bytes } ∷ xs

-- the pieces of a text in which the sign of the first is given already
abbrev pub pieces_from : Bool → List ℕ → List Piece
pieces_from negative [] = record { negative = negative; bytes = [] } ∷ []
pieces_from negative (b ∷ text) =
    if is_sign b then record { negative = negative; bytes = [] } ∷ pieces_from (b == 45) text else byte_in_front b (pieces_from negative text)

-- a minus in front of a text is the sign of its first piece
abbrev pub pieces : List ℕ → List Piece
pieces [] = pieces_from false []
pieces (b ∷ text) = if b == 45 then pieces_from true text else pieces_from false (b ∷ text)

-- the number in front, and 1 where there is none
abbrev pub size_in : List ℕ → ℕ
size_in [] = 1
size_in (b ∷ bytes) = if is_digit b then value_of (digits_front (b ∷ bytes)) else 1

-- the residue that a sign and a size stand for
abbrev pub residue : ℕ → Bool → ℕ → ℕ
residue p true size = p - size
residue p false size = size

abbrev pub term_in : ℕ → List ℕ → Piece → Term
term_in p letters x = record { mono = exponents_in letters x.bytes; coef = residue p x.negative (size_in x.bytes) }

abbrev pub terms_in : ℕ → List ℕ → List ℕ → Poly
terms_in p letters text = if is_same text (codes "0") then [] else map (term_in p letters) (pieces text)

-- ---- what is read back
-- each exponent of f is within the limit of monomials
abbrev pub HasSmallExponents : Poly → Type 0
HasSmallExponents f = AllByRecursion (λ t. All (λ e. e ≤ max_exponent) t.mono) f
