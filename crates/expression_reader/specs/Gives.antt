-- What a function of the code answers, beside what the grammar reads and what that means.
use Rattle.std.specs.Prelude.{◌≡◌, Bool, Result, Ok, Err}
use Rattle.sparse_poly.specs.Poly.{Poly}
use Rattle.expression_reader.specs.declared.stop.Stop.{Stop}
use Rattle.expression_reader.specs.declared.stop.Stop.TheVariants as stops
use Rattle.script_grammar.specs.declared.refusal.Refusal.{Refusal}
use Rattle.script_grammar.specs.Tokens.{Place}
use Rattle.script_grammar.specs.Steps.{◌>>=◌}
use Rattle.script_grammar.specs.Expressions.{Declarations, takes_exponent}
use Rattle.script_grammar.specs.Trees.{Operand}
use Rattle.script_grammar.specs.Meaning.{Values, operand_value}

-- What a function answered, seen by view, is what is read, unless memory ran out.
abbrev pub Fails : {Y : Type 0} → Stop → Result Y Refusal → Type 0
Fails stops.Memory read = Unit {0}
Fails (stops.Refused f) read = read ≡ Err f

abbrev pub Gives : {X Y : Type 0} → (X → Y) → Result X Stop → Result Y Refusal → Type 0
Gives view (Ok x) read = read ≡ Ok (view x)
Gives view (Err e) read = Fails e read

-- what is read, with its value in place of its tree
abbrev pub meant : {A B : Type 0} → (A → B) → Result (A × Place) Refusal → Result (B × Place) Refusal
meant value read = read >>= λ x. Ok (value x.0, x.1)

-- an operand's value, and whether ^ may stand behind it
abbrev pub operand_meaning : Declarations → Values → Operand → Poly × Bool
operand_meaning known v o = (operand_value v o, takes_exponent known o)
