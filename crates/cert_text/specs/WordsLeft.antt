-- The words that are left of a line.
use Rattle.std.specs.Prelude.{ℕ, List, [], Option, Some, None}
use Rattle.cert_grammar.specs.Lines.{Word, words_of}

abbrev pub words_left : Option (List ℕ) → List Word
words_left None = []
words_left (Some bytes) = words_of bytes
