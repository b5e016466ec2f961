-- What comes of a script: it is read, or it is refused at a line and a column.
use Rattle.std.specs.Prelude.{ℕ, List, Result, Ok, Err, Option, Some, None}
use Rattle.script_grammar.specs.declared.refusal.ReadKind.{ReadKind}
use Rattle.script_grammar.specs.declared.refusal.Refusal.{Refusal}
use Rattle.script_grammar.specs.Trees.{Tree}
use Rattle.script_grammar.specs.Script.{script_of, position_of}

-- the line and the column of the refusal, and why, or none where the script is read
abbrev pub outcome_of : List ℕ → Result Tree Refusal → Option ((ℕ × ℕ) × ReadKind)
outcome_of bytes (Ok t) = None
outcome_of bytes (Err f) = Some (position_of bytes f, f.kind)

abbrev pub outcome : List ℕ → Option ((ℕ × ℕ) × ReadKind)
outcome bytes = outcome_of bytes (script_of bytes)
