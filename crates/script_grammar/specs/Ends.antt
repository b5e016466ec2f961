-- How the rest is spelled where the next token is no word, string or mark: the end, what isn't closed, a byte of no token.
use Rattle.std.specs.Prelude.{◌≡◌, ℕ, true, false, List, [], ◌∷◌, ◌++◌, length, ◌⊎◌, ◌==◌}
use Rattle.script_grammar.specs.Tokens.{is_blank, is_word_byte, is_mark, Token, bad, Place}
use Rattle.script_grammar.specs.Spelling.{Gap, gaps_bytes, ValidGaps, no_newline, no_close, no_quote, Spells}

-- nothing, or a comment in the last line, which no newline ends
abbrev pub IsLastLine : List ℕ → Type 0
IsLastLine bytes = (bytes ≡ []) ⊎ (body : List ℕ) × (no_newline body ≡ true) × (bytes ≡ 47 ∷ 47 ∷ body)

-- nothing but blanks and comments up to the end
abbrev pub SpellsEnd : List ℕ → Type 0
SpellsEnd bytes = (gaps : List Gap) × (last : List ℕ) × ValidGaps gaps × (bytes ≡ gaps_bytes gaps ++ last) × IsLastLine last

-- a comment that isn't closed
abbrev pub IsOpenRemark : List ℕ → Type 0
IsOpenRemark bytes = (body : List ℕ) × (no_close body ≡ true) × (bytes ≡ 47 ∷ 42 ∷ body)

-- a string that isn't closed
abbrev pub IsOpenText : List ℕ → Type 0
IsOpenText bytes = (body : List ℕ) × (no_quote body ≡ true) × (bytes ≡ 34 ∷ body)

-- blanks and comments, and then the input ends within a comment or a string
abbrev pub SpellsCut : List ℕ → Type 0
SpellsCut bytes = (gaps : List Gap) × (last : List ℕ) × ValidGaps gaps × (bytes ≡ gaps_bytes gaps ++ last) × (IsOpenRemark last ⊎ IsOpenText last)

-- a byte that is no blank and in no token
abbrev pub IsBadByte : ℕ → Type 0
IsBadByte b = (is_blank b ≡ false) × (is_word_byte b ≡ false) × (is_mark b ≡ false) × ((b == 34) ≡ false)

-- the bytes begin with such a byte, behind blanks and comments, and go on with the rest
abbrev pub SpellsBad : List ℕ → ℕ → List ℕ → Type 0
SpellsBad bytes b rest = (gaps : List Gap) × ValidGaps gaps × (bytes ≡ gaps_bytes gaps ++ b ∷ rest) × IsBadByte b

-- the place of such a byte
abbrev pub found_bad : ℕ → List ℕ → Place
found_bad b rest = record { token = bad; left = length (b ∷ rest); rest = rest }

-- the bytes spell these tokens one after the other, and nothing behind them
abbrev pub SpellsAll : List ℕ → List Token → Type 0
SpellsAll bytes [] = SpellsEnd bytes
SpellsAll bytes (token ∷ tokens) = (rest : List ℕ) × Spells bytes token rest × SpellsAll rest tokens
