-- What the bytes of a script are cut into: blanks and comments, which may stand between any two tokens, and tokens.
use Rattle.std.specs.Prelude.{ℕ, suc, ◌+◌, Bool, false, ◌&&◌, ◌||◌, List, [], ◌∷◌, length, take, drop, Option, Some, None, nat_le, ◌==◌, if◌then◌else◌}
use Rattle.std.specs.Option.{option_map}

-- tab, newline, carriage return, space
abbrev pub is_blank : ℕ → Bool
is_blank b = b == 9 || b == 10 || b == 13 || b == 32

abbrev pub is_digit : ℕ → Bool
is_digit b = nat_le 48 b && nat_le b 57

abbrev pub is_letter : ℕ → Bool
is_letter b = (nat_le 65 b && nat_le b 90) || (nat_le 97 b && nat_le b 122)

abbrev pub is_word_byte : ℕ → Bool
is_word_byte b = is_letter b || is_digit b

-- = , ( ) ; + - * / ^
abbrev pub is_mark : ℕ → Bool
is_mark b = b == 61 || b == 44 || b == 40 || b == 41 || b == 59 || b == 43 || b == 45 || b == 42 || b == 47 || b == 94

-- the first byte is b
abbrev pub begins : ℕ → List ℕ → Bool
begins b [] = false
begins b (c ∷ rest) = b == c

-- where one stands between two tokens: at blanks, in a comment to the line's end, behind the first
-- byte of /*, in a comment up to */, behind the first byte of that */
pub data Layout : Type 0 where
  blanks : Layout
  line : Layout
  opened : Layout
  block : Layout
  closed : Layout

-- the bytes from the next token on; none where a comment isn't closed
unfoldable pub skip : Layout → List ℕ → Option (List ℕ)
skip blanks [] = Some []
skip blanks (b ∷ rest) =
    if is_blank b then skip blanks rest
    else (if b == 47 && begins 47 rest then skip line rest
    else (if b == 47 && begins 42 rest then skip opened rest
    else Some (b ∷ rest)))
skip line [] = Some []
skip line (b ∷ rest) = if b == 10 then skip blanks rest else skip line rest
skip opened [] = None
skip opened (b ∷ rest) = skip block rest
skip block [] = None
skip block (b ∷ rest) = if b == 42 && begins 47 rest then skip closed rest else skip block rest
skip closed [] = None
skip closed (b ∷ rest) = skip blanks rest

-- how many letters and digits the bytes begin with
unfoldable pub word_len : List ℕ → ℕ
word_len [] = 0
word_len (b ∷ rest) = if is_word_byte b then suc (word_len rest) else 0

-- how many bytes stand before the first "
unfoldable pub text_len : List ℕ → Option ℕ
text_len [] = None
text_len (b ∷ rest) = if b == 34 then Some 0 else option_map (λ n. suc n) (text_len rest)

pub data Token : Type 0 where
  -- a longest run of letters and digits
  word : List ℕ → Token
  -- a string, without its quotes
  text : List ℕ → Token
  mark : ℕ → Token
  -- a byte of no token
  bad : Token
  -- the end of the input
  end : Token
  -- the end of the input within a string or a comment
  cut : Token

-- a place in the input: the token that stands next, how many bytes are left from its first one on, and the bytes behind it
pub record Place : Type 0 where
  pub token : Token
  pub left : ℕ
  pub rest : List ℕ

abbrev pub the_end : Place
the_end = record { token = end; left = 0; rest = [] }

abbrev pub cut_off : Place
cut_off = record { token = cut; left = 0; rest = [] }

-- a string, of which the first " is taken already
abbrev pub string : ℕ → List ℕ → Option ℕ → Place
string left rest None = cut_off
string left rest (Some n) = record { token = text (take n rest); left = left; rest = drop (n + 1) rest }

-- the token that begins with the first byte
unfoldable pub front : List ℕ → Place
front [] = the_end
front (b ∷ rest) =
    if is_word_byte b then record {
      token = word (take (word_len (b ∷ rest)) (b ∷ rest));
      left = length (b ∷ rest);
      rest = drop (word_len (b ∷ rest)) (b ∷ rest);
    }
    else (if is_mark b then record { token = mark b; left = length (b ∷ rest); rest = rest }
    else (if b == 34 then string (length (b ∷ rest)) rest (text_len rest)
    else record { token = bad; left = length (b ∷ rest); rest = rest }))

abbrev pub front_if : Option (List ℕ) → Place
front_if None = cut_off
front_if (Some bytes) = front bytes

-- the place of the next token
unfoldable pub next : List ℕ → Place
next bytes = front_if (skip blanks bytes)
