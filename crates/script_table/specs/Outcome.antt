-- What is printed for a script.
use Rattle.std.specs.Prelude.{ℕ, List, ◌++◌, Result, Ok, Err, codes, decimal}
use Rattle.script_grammar.specs.declared.refusal.What.{What}
use Rattle.script_grammar.specs.declared.refusal.What.TheVariants as whats
use Rattle.script_grammar.specs.declared.refusal.ReadKind.{ReadKind}
use Rattle.script_grammar.specs.declared.refusal.ReadKind.TheVariants.{BadByte, EndOfInput, MissingNoether, TooManyCommands, Expected, NotAPrime, TooManyVariables, NameClash, TooManyNames, UnknownName, ExponentTooLarge, ZeroDivisor, TooDeep, NoetherDegree, TooManyMonomials, TooManyGenerators}
use Rattle.script_grammar.specs.declared.refusal.Refusal.{Refusal}
use Rattle.script_grammar.specs.declared.script.Script.{Script}
use Rattle.script_grammar.specs.Script.{position_of}
use Rattle.ring_reader.specs.Answers.{asked_by}

-- the line between two scripts
abbrev pub separator : List ℕ
separator = codes "%%\n"

-- the name of what was expected
abbrev pub what_text : What → List ℕ
what_text whats.Ring = codes "Ring"
what_text whats.Noether = codes "Noether"
what_text whats.Statement = codes "Statement"
what_text whats.Name = codes "Name"
what_text whats.Equals = codes "Equals"
what_text whats.Open = codes "Open"
what_text whats.Close = codes "Close"
what_text whats.Semicolon = codes "Semicolon"
what_text whats.Comma = codes "Comma"
what_text whats.Numeral = codes "Numeral"
what_text whats.Variable = codes "Variable"
what_text whats.Order = codes "Order"
what_text whats.RedSb = codes "RedSb"
what_text whats.Library = codes "Library"
what_text whats.Monomial = codes "Monomial"
what_text whats.Operand = codes "Operand"
what_text whats.Operator = codes "Operator"
what_text whats.Argument = codes "Argument"

-- the name of a kind
abbrev pub kind_text : ReadKind → List ℕ
kind_text BadByte = codes "BadByte"
kind_text EndOfInput = codes "EndOfInput"
kind_text MissingNoether = codes "MissingNoether"
kind_text TooManyCommands = codes "TooManyCommands"
kind_text (Expected what) = codes "Expected " ++ what_text what
kind_text NotAPrime = codes "NotAPrime"
kind_text TooManyVariables = codes "TooManyVariables"
kind_text NameClash = codes "NameClash"
kind_text TooManyNames = codes "TooManyNames"
kind_text UnknownName = codes "UnknownName"
kind_text ExponentTooLarge = codes "ExponentTooLarge"
kind_text ZeroDivisor = codes "ZeroDivisor"
kind_text TooDeep = codes "TooDeep"
kind_text NoetherDegree = codes "NoetherDegree"
kind_text (TooManyMonomials count) = codes "TooManyMonomials " ++ decimal count
kind_text TooManyGenerators = codes "TooManyGenerators"

-- a refusal with its line and column
abbrev pub refusal_text : ℕ × ℕ → ReadKind → List ℕ
refusal_text position kind = decimal position.0 ++ codes " " ++ decimal position.1 ++ codes " " ++ kind_text kind

abbrev pub reading_text : List ℕ → Result Script Refusal → List ℕ
reading_text bytes (Ok script) = codes "ok"
reading_text bytes (Err f) = refusal_text (position_of bytes f) f.kind

-- what is printed for the script of these bytes
abbrev pub outcome_text : List ℕ → List ℕ
outcome_text bytes = reading_text bytes (asked_by bytes)
