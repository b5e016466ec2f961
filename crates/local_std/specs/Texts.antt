-- The lines that answer no script.
use Rattle.std.specs.Prelude.{ℕ, List, ◌++◌, codes, decimal}
use Rattle.script_grammar.specs.declared.refusal.What.{What}
use Rattle.script_grammar.specs.declared.refusal.What.TheVariants as whats
use Rattle.script_grammar.specs.declared.refusal.ReadKind.{ReadKind}
use Rattle.script_grammar.specs.declared.refusal.ReadKind.TheVariants as kinds

abbrev pub usage_line : List ℕ
usage_line = codes "usage: lstd solve [--workers W] [--cert PATH] | lstd check | lstd bench K [--workers W] [--cert PATH]\n"

abbrev pub too_long_line : List ℕ
too_long_line = codes "input too long\n"

-- ---- refusals
-- what must stand at the place
abbrev pub what_text : What → List ℕ
what_text whats.Ring = codes "ring"
what_text whats.Noether = codes "noether"
what_text whats.Statement = codes "a statement"
what_text whats.Name = codes "a name"
what_text whats.Equals = codes "="
what_text whats.Open = codes "("
what_text whats.Close = codes ")"
what_text whats.Semicolon = codes ";"
what_text whats.Comma = codes ","
what_text whats.Numeral = codes "a numeral"
what_text whats.Variable = codes "a variable"
what_text whats.Order = codes "an order"
what_text whats.RedSb = codes "redSB"
what_text whats.Library = codes "\"sing.lib\""
what_text whats.Monomial = codes "a monomial"
what_text whats.Operand = codes "an operand"
what_text whats.Operator = codes "an operator or the end"
what_text whats.Argument = codes "a name"

abbrev pub kind_text : ReadKind → List ℕ
kind_text kinds.BadByte = codes "bad byte"
kind_text kinds.EndOfInput = codes "end of input"
kind_text kinds.MissingNoether = codes "noether is missing"
kind_text kinds.TooManyCommands = codes "too many commands"
kind_text (kinds.Expected what) = codes "expected " ++ what_text what
kind_text kinds.NotAPrime = codes "characteristic not in the table"
kind_text kinds.TooManyVariables = codes "too many variables"
kind_text kinds.NameClash = codes "name clash"
kind_text kinds.TooManyNames = codes "too many names"
kind_text kinds.UnknownName = codes "unknown name"
kind_text kinds.ExponentTooLarge = codes "exponent too large"
kind_text kinds.ZeroDivisor = codes "zero divisor"
kind_text kinds.TooDeep = codes "too deep"
kind_text kinds.NoetherDegree = codes "noether degree not 1 to 255"
kind_text (kinds.TooManyMonomials count) = decimal count ++ codes " monomials, at most 4096"
kind_text kinds.TooManyGenerators = codes "too many generators"

-- a refusal, with its line and column
abbrev pub refusal_line : ℕ → ℕ → ReadKind → List ℕ
refusal_line line column kind =
    codes "line " ++ decimal line ++ codes " column " ++ decimal column ++ codes ": " ++ kind_text kind ++ codes "\n"
