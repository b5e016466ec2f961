-- Where reading goes on, whatever was read.
use Rattle.std.specs.Prelude.{[], Result, Ok}
use Rattle.script_grammar.specs.declared.refusal.Refusal.{Refusal}
use Rattle.script_grammar.specs.Tokens.{Place}
use Rattle.script_grammar.specs.Steps.{◌>>=◌}
use Rattle.script_grammar.specs.Statements.{remarks_at}

-- the place behind what was read
abbrev pub behind_read : {A : Type 0} → Result (A × Place) Refusal → Result Place Refusal
behind_read read = read >>= λ x. Ok x.1

-- behind remarks
abbrev pub remarks_read : Place → Result Place Refusal
remarks_read t = behind_read (remarks_at t.left [] t)
