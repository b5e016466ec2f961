-- A script read part by part, each to its value.
use Rattle.std.specs.Prelude.{ℕ, suc, List, [], Result, Ok}
use Rattle.script_grammar.specs.declared.refusal.Refusal.{Refusal}
use Rattle.script_grammar.specs.declared.script.Command.{Command}
use Rattle.script_grammar.specs.declared.script.Script.{Script}
use Rattle.script_grammar.specs.Tokens.{Place}
use Rattle.script_grammar.specs.Steps.{◌>>=◌}
use Rattle.script_grammar.specs.Expressions.{Declarations}
use Rattle.script_grammar.specs.Statements.{degree_of}
use Rattle.script_grammar.specs.Script.{ring_part, noether_part, statements_at}
use Rattle.script_grammar.specs.Meaning.{Values, statements_meaning}
use Rattle.expression_reader.specs.Gives.{meant}
use Rattle.ring_reader.specs.Behind.{remarks_read}
use Rattle.ring_reader.specs.RingView.{RingValue, ring_value}

abbrev pub no_names : RingValue → Declarations
no_names r = record { ring = r.name; prime = r.prime; letters = r.letters; polys = []; ideals = [] }

abbrev pub no_values : RingValue → ℕ → Values
no_values r d = record { p = r.prime; letters = r.letters; d = d; polys = []; ideals = [] }

-- the statements up to the end, as the commands that they ask
abbrev pub statements_part : RingValue → ℕ → Place → Result (List Command) Refusal
statements_part r d t = statements_at (suc t.left) (no_names r) 0 [] t >>= λ statements. Ok (statements_meaning (no_values r d) statements)

abbrev pub script_value : RingValue → ℕ → List Command → Script
script_value r d commands = record { names = r.letters; field = r.prime; d = d; commands = commands }

-- the whole script
abbrev pub script_parts : Place → Result Script Refusal
script_parts t =
    remarks_read t >>= λ before. meant ring_value (ring_part before) >>= λ ring. remarks_read ring.1 >>= λ between.
    meant degree_of (noether_part ring.0.letters between) >>= λ noether. statements_part ring.0 noether.0 noether.1 >>= λ commands. Ok (script_value ring.0 noether.0 commands)
