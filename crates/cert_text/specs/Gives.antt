-- What a call of the reader answers, told by what is read.
use Rattle.std.specs.Prelude.{◌≡◌, ℕ, List, [], ◌∷◌, Bool, false, ◌++◌, Option, Some, None, Result, Ok, Err}
use Rattle.cert_text.specs.declared.stop.Stop.{Stop}
use Rattle.cert_text.specs.declared.stop.Stop.TheVariants.{Form, Memory}
use Rattle.sparse_poly.specs.Poly.{Polynomial}
use Rattle.cert_grammar.specs.Lines.{Word, Line, same_line}
use Rattle.entry_code.specs.declared.reading.Reading.{Reading}

-- where it is refused, the lines from the refused one on are left; want of memory is free
abbrev pub Stops : {A : Type 0} → Stop → List Line → Result (A × List Line) (List Line) → Type 0
Stops Form left read = read ≡ Err left
Stops Memory left read = Unit {0}

-- what is read, seen by view, and the lines that are left
abbrev pub Gives : {X A : Type 0} → (X → A) → Result X Stop → List Line → Result (A × List Line) (List Line) → Type 0
Gives view (Ok x) left read = read ≡ Ok (view x, left)
Gives view (Err stop) left read = Stops stop left read

-- the first word, and those behind it
abbrev pub uncons : List Word → Option (Word × List Word)
uncons [] = None
uncons (w ∷ ws) = Some (w, ws)

-- no whole line is left: none, or bytes without an end
pub data IsUnended : List Line → Type 0 where
  at_end : IsUnended []
  without_end : IsUnended ([] ∷ [])

-- readings in front of those that are read
abbrev pub with_front : List Reading → Result ((List Reading × Polynomial) × List Line) (List Line) → Result ((List Reading × Polynomial) × List Line) (List Line)
with_front rs (Ok x) = Ok ((rs ++ x.0.0, x.0.1), x.1)
with_front rs (Err s) = Err s

-- members in front of those that are read
abbrev pub with_items : {A : Type 0} → List A → Result (List A × List Line) (List Line) → Result (List A × List Line) (List Line)
with_items xs (Ok x) = Ok (xs ++ x.0, x.1)
with_items xs (Err s) = Err s

-- a line that is given, and the lines that are left
abbrev pub GivesLine : {X : Type 0} → Result X Stop → List Line → Result (List Line) (List Line) → Type 0
GivesLine (Ok x) left read = read ≡ Ok left
GivesLine (Err Form) left read = read ≡ Err left
GivesLine (Err Memory) left read = Unit {0}

-- members in front of those that are read of words
abbrev pub with_words : {A : Type 0} → List A → Option (List A × List Word) → Option (List A × List Word)
with_words ms None = None
with_words ms (Some x) = Some (ms ++ x.0, x.1)

-- bytes in front of those that are read
abbrev pub with_bytes : List ℕ → Option (List ℕ) → Option (List ℕ)
with_bytes vs None = None
with_bytes vs (Some us) = Some (vs ++ us)

-- whether this line stands next
abbrev pub next_is : Line → List Line → Bool
next_is k [] = false
next_is k (l ∷ ls) = same_line l k
