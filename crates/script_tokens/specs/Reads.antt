-- What a function of the code answers, beside what the grammar reads.
use Rattle.std.specs.Prelude.{◌≡◌, ℕ, nat_lt, if◌then◌else◌, Result, Ok, Err, Option, Some, None, List}
use Rattle.prime_field.specs.Decimal.{value_of}
use Rattle.script_grammar.specs.declared.refusal.Refusal.{Refusal}
use Rattle.script_grammar.specs.Steps.{◌>>=◌}
use Rattle.script_grammar.specs.Tokens.{Place}

-- the answer, seen by view, is what is read
abbrev pub ReadsAs : {X Y : Type 0} → (X → Y) → Result X Refusal → Result Y Refusal → Type 0
ReadsAs view (Ok x) read = read ≡ Ok (view x)
ReadsAs view (Err f) read = read ≡ Err f

-- n, where it is at most the limit
abbrev pub at_most : ℕ → ℕ → Option ℕ
at_most limit n = if nat_lt limit n then None else Some n

-- the number that the digits read are
abbrev pub meant_number : Result (List ℕ × Place) Refusal → Result (ℕ × Place) Refusal
meant_number read = read >>= λ n. Ok (value_of n.0, n.1)
