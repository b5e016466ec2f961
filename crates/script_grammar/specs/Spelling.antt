-- How tokens are spelled: blanks and comments in front of each, and its bytes.
use Rattle.std.specs.Prelude.{◌≡◌, ℕ, ◌≤◌, Bool, true, false, not, ◌&&◌, List, [], ◌∷◌, ◌++◌, length, ◌==◌}
use Rattle.script_grammar.specs.Tokens.{is_blank, is_word_byte, is_mark, begins, Token, word, text, mark, bad, end, cut}

-- a blank; a comment up to the end of its line; a comment up to */
pub data Gap : Type 0 where
  blank : ℕ → Gap
  note : List ℕ → Gap
  remark : List ℕ → Gap

-- its bytes: a comment begins with // or /*
abbrev pub gap_bytes : Gap → List ℕ
gap_bytes (blank b) = b ∷ []
gap_bytes (note body) = 47 ∷ 47 ∷ (body ++ 10 ∷ [])
gap_bytes (remark body) = 47 ∷ 42 ∷ (body ++ 42 ∷ 47 ∷ [])

-- no newline is in these bytes
abbrev pub no_newline : List ℕ → Bool
no_newline [] = true
no_newline (b ∷ rest) = not (b == 10) && no_newline rest

-- no */ is in these bytes
abbrev pub no_close : List ℕ → Bool
no_close [] = true
no_close (b ∷ rest) = not (b == 42 && begins 47 rest) && no_close rest

-- a comment ends where it first can
abbrev pub ValidGap : Gap → Type 0
ValidGap (blank b) = is_blank b ≡ true
ValidGap (note body) = no_newline body ≡ true
ValidGap (remark body) = no_close body ≡ true

-- blanks and comments, one after the other
abbrev pub gaps_bytes : List Gap → List ℕ
gaps_bytes [] = []
gaps_bytes (g ∷ gaps) = gap_bytes g ++ gaps_bytes gaps

abbrev pub ValidGaps : List Gap → Type 0
ValidGaps [] = Unit {0}
ValidGaps (g ∷ gaps) = ValidGap g × ValidGaps gaps

-- letters and digits alone
abbrev pub all_word : List ℕ → Bool
all_word [] = true
all_word (b ∷ rest) = is_word_byte b && all_word rest

-- the first byte is a letter or a digit
abbrev pub begins_word : List ℕ → Bool
begins_word [] = false
begins_word (b ∷ rest) = is_word_byte b

-- no " is in these bytes
abbrev pub no_quote : List ℕ → Bool
no_quote [] = true
no_quote (b ∷ rest) = not (b == 34) && no_quote rest

-- the bytes of a token; those of the last three are none of its own
abbrev pub token_bytes : Token → List ℕ
token_bytes (word w) = w
token_bytes (text s) = 34 ∷ (s ++ 34 ∷ [])
token_bytes (mark m) = m ∷ []
token_bytes bad = []
token_bytes end = []
token_bytes cut = []

-- a token with these bytes behind it: a word is a longest one, a string ends at the first ", and / begins no comment
abbrev pub ValidItem : Token → List ℕ → Type 0
ValidItem (word w) rest = (1 ≤ length w) × (all_word w ≡ true) × (begins_word rest ≡ false)
ValidItem (text s) rest = no_quote s ≡ true
ValidItem (mark m) rest = (is_mark m ≡ true) × ((m == 47 && begins 47 rest) ≡ false) × ((m == 47 && begins 42 rest) ≡ false)
ValidItem bad rest = ⊥
ValidItem end rest = ⊥
ValidItem cut rest = ⊥

-- the bytes begin with the token, behind blanks and comments, and go on with the rest
abbrev pub Spells : List ℕ → Token → List ℕ → Type 0
Spells bytes token rest = (gaps : List Gap) × ValidGaps gaps × (bytes ≡ gaps_bytes gaps ++ (token_bytes token ++ rest)) × ValidItem token rest
