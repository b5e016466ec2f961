-- Single tokens. A function gets the token that stands next, and gives what it has read with the token behind it.
use Rattle.std.specs.Prelude.{ℕ, List, Result, Ok, Err, nat_lt, ◌&&◌, if◌then◌else◌}
use Rattle.local_order.specs.Limits.{max_exponent}
use Rattle.prime_field.specs.Decimal.{value_of}
use Rattle.script_grammar.specs.declared.refusal.What.{What}
use Rattle.script_grammar.specs.declared.refusal.What.TheVariants as whats
use Rattle.script_grammar.specs.declared.refusal.ReadKind.{ReadKind}
use Rattle.script_grammar.specs.declared.refusal.ReadKind.TheVariants.{BadByte, EndOfInput, Expected, ExponentTooLarge}
use Rattle.script_grammar.specs.declared.refusal.Refusal.{Refusal}
use Rattle.script_grammar.specs.Tokens.{Token, Place, next, word, text, mark, bad, end, cut}
use Rattle.script_grammar.specs.Words.{is_numeral, is_the_mark, is_the_word, is_word, word_of}

infixl 10 ◌>>=◌
abbrev pub ◌>>=◌ : {A B : Type 0} → Result A Refusal → (A → Result B Refusal) → Result B Refusal
(Ok x) >>= f = f x
(Err e) >>= f = Err e

-- what a reader of A gives
abbrev pub Read : Type 0 → Type 0
Read A = Result (A × Place) Refusal

-- A bad byte and the end are refused as such, whatever else is wanted there.
abbrev pub kind_at : Token → ReadKind → ReadKind
kind_at bad kind = BadByte
kind_at end kind = EndOfInput
kind_at cut kind = EndOfInput
kind_at (word w) kind = kind
kind_at (text w) kind = kind
kind_at (mark m) kind = kind

abbrev pub refused : {A : Type 0} → Place → ReadKind → Result A Refusal
refused t kind = Err (record { left = t.left; kind = kind_at t.token kind })

abbrev pub wanted : {A : Type 0} → Place → What → Result A Refusal
wanted t what = refused t (Expected what)

-- just this mark, or just this word
unfoldable pub mark_at : ℕ → What → Place → Result Place Refusal
mark_at m what t = if is_the_mark m t.token then Ok (next t.rest) else wanted t what

unfoldable pub word_at : List ℕ → What → Place → Result Place Refusal
word_at w what t = if is_the_word w t.token then Ok (next t.rest) else wanted t what

unfoldable pub numeral_at : Place → Result (List ℕ × Place) Refusal
numeral_at t = if is_word t.token && is_numeral (word_of t.token) then Ok (word_of t.token, next t.rest) else wanted t whats.Numeral

-- the numeral behind ^
unfoldable pub exponent_at : Place → Result (List ℕ × Place) Refusal
exponent_at t = do
  n ← numeral_at t
  if nat_lt max_exponent (value_of n.0) then refused t ExponentTooLarge else Ok n
