-- What a written block claims of a problem.
use Rattle.std.specs.Prelude.{ℕ, List, [], ◌∷◌, Option, Some, None}
use Rattle.sparse_poly.specs.Ideal.{Problem}
use Rattle.entry_code.specs.Entry.{Entry}
use Rattle.text_out.specs.declared.answer.Answer.{Answer}
use Rattle.text_out.specs.declared.answer.Answer.TheVariants.{Fits, TooSmall}
use Rattle.cert_grammar.specs.declared.certified.Certified.{Certified}

-- the last member
abbrev pub last_of : {A : Type 0} → List A → Option A
last_of [] = None
last_of (x ∷ []) = Some x
last_of (x ∷ y ∷ xs) = last_of (y ∷ xs)

-- the highest corner, which is the last monomial of the staircase; none is named where the degree is too small
abbrev pub corner_of : Answer → Option (List ℕ)
corner_of (Fits basis stair) = last_of stair
corner_of (TooSmall missing) = None

-- the problem in these letters, the entries of a run, the answer and its highest corner
abbrev pub claim : List ℕ → Problem → List Entry → Answer → Certified
claim letters problem entries answer = record { letters = letters; problem = problem; entries = entries; answer = answer; corner = corner_of answer }
