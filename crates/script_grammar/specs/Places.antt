-- Places: what one is that next gives, and what one is behind a whole expression.
use Rattle.std.specs.Prelude.{◌≡◌, ℕ, ◌≤◌, ◌-◌, Bool, true, false, List, ◌++◌, length}
use Rattle.script_grammar.specs.Tokens.{Token, word, text, mark, bad, end, cut, Place}
use Rattle.script_grammar.specs.Spelling.{token_bytes}
use Rattle.script_grammar.specs.Words.{is_the_mark}

-- the place of this token, where these bytes stand behind it
abbrev pub found_token : Token → List ℕ → Place
found_token token rest = record { token = token; left = length (token_bytes token ++ rest); rest = rest }

-- a word, a string or a mark
abbrev pub IsToken : Token → Type 0
IsToken (word w) = Unit {0}
IsToken (text s) = Unit {0}
IsToken (mark m) = Unit {0}
IsToken bad = ⊥
IsToken end = ⊥
IsToken cut = ⊥

-- the end of the input, also within a string or a comment
abbrev pub is_last : Token → Bool
is_last end = true
is_last cut = true
is_last (word w) = false
is_last (text w) = false
is_last (mark m) = false
is_last bad = false

-- Each place that next gives is so: a token takes a byte or more, and only the end takes none.
pub record Placed (t : Place) : Type 0 where
  pub shorter : length t.rest ≤ t.left - 1
  pub ends : t.left ≡ 0 → is_last t.token ≡ true
  pub last : is_last t.token ≡ true → t.left ≡ 0

-- No / ^ * + or - stands here, which would go on with an expression.
pub record EndsSum (t : Place) : Type 0 where
  pub slash : is_the_mark 47 t.token ≡ false
  pub caret : is_the_mark 94 t.token ≡ false
  pub star : is_the_mark 42 t.token ≡ false
  pub up : is_the_mark 43 t.token ≡ false
  pub down : is_the_mark 45 t.token ≡ false
