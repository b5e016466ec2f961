-- A text as lines, and a line as words.
use Rattle.std.specs.Prelude.{◌≡◌, ℕ, List, [], ◌∷◌, ◌++◌, Bool, true, false, ◌&&◌, not, ◌==◌, if◌then◌else◌}
use Rattle.std.specs.List.{join_with_byte, AllByRecursion}
use Rattle.script_grammar.specs.Words.{is_same}

abbrev pub Word : Type 0
Word = List ℕ

-- Each line of a certificate has a word at least.
abbrev pub Line : Type 0
Line = List Word

-- the words, with a blank between each two, and the end of the line
abbrev pub line_text : Line → List ℕ
line_text words = join_with_byte 32 words ++ 10 ∷ []

abbrev pub text : List Line → List ℕ
text [] = []
text (l ∷ ls) = line_text l ++ text ls

-- ---- which lines there are
-- neither a blank nor an end of a line is in the word
abbrev pub is_plain : Word → Bool
is_plain [] = true
is_plain (b ∷ w) = not (b == 32) && (not (b == 10) && is_plain w)

abbrev pub IsPlain : Word → Type 0
IsPlain w = is_plain w ≡ true

-- a word, and more
abbrev pub IsLine : Line → Type 0
IsLine [] = ⊥
IsLine (w ∷ ws) = IsPlain w × AllByRecursion IsPlain ws

abbrev pub AreLines : List Line → Type 0
AreLines lines = AllByRecursion IsLine lines

-- ---- bytes, taken apart
-- a line that has just begun has one empty word
abbrev pub in_front : ℕ → Line → Line
in_front b [] = []
in_front b (w ∷ ws) = (b ∷ w) ∷ ws

abbrev pub word_in_front : Line → Line
word_in_front [] = []
word_in_front (w ∷ ws) = [] ∷ w ∷ ws

-- what a byte that is no end of a line makes of the first line
abbrev pub with_byte : ℕ → List Line → List Line
with_byte b [] = [] ∷ []
with_byte b (l ∷ ls) = (if b == 32 then word_in_front l else in_front b l) ∷ ls

-- The lines of a text. Bytes that stand behind the last end of a line are one line more, without a word.
abbrev pub lines_of : List ℕ → List Line
lines_of [] = []
lines_of (b ∷ bytes) = if b == 10 then ([] ∷ []) ∷ lines_of bytes else with_byte b (lines_of bytes)

-- the words of a line, without its end
abbrev pub words_of : List ℕ → Line
words_of [] = [] ∷ []
words_of (b ∷ bytes) = if b == 32 then [] ∷ words_of bytes else in_front b (words_of bytes)

-- ---- tests
abbrev pub same_line : Line → Line → Bool
same_line [] [] = true
same_line [] (w ∷ ws) = false
same_line (v ∷ vs) [] = false
same_line (v ∷ vs) (w ∷ ws) = is_same v w && same_line vs ws
