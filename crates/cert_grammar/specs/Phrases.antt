-- Reading the words of a line.
use Rattle.std.specs.Prelude.{ℕ, zero, suc, List, [], ◌∷◌, Bool, ◌&&◌, Option, Some, None, option_and_then, if◌then◌else◌, decimal}
use Rattle.std.specs.Option.{option_map}
use Rattle.prime_field.specs.Decimal.{value_of}
use Rattle.script_grammar.specs.Words.{is_same}
use Rattle.cert_grammar.specs.Lines.{Word, Line}
use Rattle.cert_grammar.specs.Cert.{is_number}

-- what is read, and the words behind it
abbrev pub Phrase : Type 0 → Type 0
Phrase A = List Word → Option (A × List Word)

-- one word
abbrev pub one_word : {A : Type 0} → (Word → Option A) → Phrase A
one_word of [] = None
one_word of (w ∷ ws) = option_map (λ a. (a, ws)) (of w)

-- this word, and then the phrase
abbrev pub keyword_at : Word → List Word → Option (List Word)
keyword_at k [] = None
keyword_at k (w ∷ ws) = if is_same w k then Some ws else None

abbrev pub behind_word : {A : Type 0} → Word → Phrase A → Phrase A
behind_word k F ws = option_and_then F (keyword_at k ws)

-- one phrase, and then one that hangs on it
abbrev pub both_words : {A B : Type 0} → Phrase A → (A → Phrase B) → Phrase (A × B)
both_words F G ws = option_and_then (λ x. option_map (λ y. ((x.0, y.0), y.1)) (G x.0 x.1)) (F ws)

-- so many of them
abbrev pub words_times : {A : Type 0} → Phrase A → ℕ → Phrase (List A)
words_times F zero ws = Some ([], ws)
words_times F (suc n) ws = option_and_then (λ x. option_map (λ y. (x.0 ∷ y.0, y.1)) (words_times F n x.1)) (F ws)

-- no word is left
abbrev pub ended : {A : Type 0} → A × List Word → Option A
ended (a, []) = Some a
ended (a, w ∷ ws) = None

-- the phrase, and no more
abbrev pub whole : {A : Type 0} → Phrase A → Line → Option A
whole F ws = option_and_then ended (F ws)

-- ---- words
-- the numeral of a number that passes the test, without leading zeros
abbrev pub numeral_of : (ℕ → Bool) → Word → Option ℕ
numeral_of test w = if test (value_of w) && is_same w (decimal (value_of w)) then Some (value_of w) else None

abbrev pub number_at : Phrase ℕ
number_at = one_word (numeral_of is_number)
