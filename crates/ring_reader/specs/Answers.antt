-- What reading a script answers.
use Rattle.std.specs.Prelude.{◌≡◌, ℕ, List, Result, Ok, Err}
use Rattle.script_grammar.specs.declared.refusal.Refusal.{Refusal}
use Rattle.script_grammar.specs.declared.refusal.ReadKind.{ReadKind}
use Rattle.script_grammar.specs.declared.script.Script.{Script}
use Rattle.script_grammar.specs.Script.{script_of, position_of}
use Rattle.script_grammar.specs.Steps.{◌>>=◌}
use Rattle.script_grammar.specs.Meaning.{meaning}
use Rattle.ring_reader.specs.declared.error.ReadError.{ReadError}
use Rattle.ring_reader.specs.declared.error.ReadError.TheVariants as errors

abbrev pub error_at : ℕ × ℕ → ReadKind → ReadError
error_at position kind = errors.At position.0 position.1 kind

-- the refusal with its line and column
abbrev pub located : List ℕ → Refusal → ReadError
located bytes f = error_at (position_of bytes f) f.kind

-- what is answered is what is read, with the position of a refusal, unless memory ran out
abbrev pub Refuses : List ℕ → ReadError → Result Script Refusal → Type 0
Refuses bytes errors.Memory read = Unit {0}
Refuses bytes (errors.At line column kind) read = (f : Refusal) × (read ≡ Err f) × (errors.At line column kind ≡ located bytes f)

abbrev pub Answers : List ℕ → Result Script ReadError → Result Script Refusal → Type 0
Answers bytes (Ok s) read = read ≡ Ok s
Answers bytes (Err e) read = Refuses bytes e read

-- what the script of these bytes asks for, or its first refusal
abbrev pub asked_by : List ℕ → Result Script Refusal
asked_by bytes = script_of bytes >>= λ t. Ok (meaning t)
