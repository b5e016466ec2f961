-- What contracts see of a run and the entries that it knows.
use Rattle.std.specs.Prelude.{◌≡◌, ℕ, ◌<◌, ◌≤◌, List, [], ◌∷◌, length, take, map, Bool, true, false, Option, Some, None, All, if◌then◌else◌}
use Rattle.local_order.specs.Shape.{Shape}
use Rattle.sparse_poly.specs.Shape.{shape_of}
use Rattle.rank_algebra.specs.Ranks.{Ranks}
use Rattle.sparse_poly.specs.Ideal.{Problem}
use Rattle.entry_code.specs.declared.item.Item.{Item}
use Rattle.entry_code.specs.declared.reading.Reading.{Reading}
use Rattle.entry_code.specs.declared.term.Term.{Term}
use Rattle.entry_code.specs.Entry.{Entry, entry_at}
use Rattle.rank_algebra.specs.Vector.{Vector, Agree}
use Rattle.mora_law.specs.Ring.{ranks_of_problem, ring}
use Rattle.rank_algebra.specs.Rows.{vector_of_row, BeginsAt}
use Rattle.mora_law.specs.declared.step_end.StepEnd.{StepEnd}
use Rattle.mora_law.specs.declared.step_end.StepEnd.TheVariants.{Zero, Reduced, Stuck}
use Rattle.mora_law.specs.Step.{Run}
use Rattle.mora_law.specs.Alike.{RunAlike}
use Rattle.mora_law.specs.Entries.{terms_of, monic, lead_rank}
use Rattle.entry_code.specs.Terms.{vector_of_terms, HasRisingRanks}
use Rattle.mora_law.specs.Legal.{IsItemOf}
use Rattle.mora_law.specs.Start.{run}
use Rattle.mora_form.specs.Reducers.{row_at}

-- the field, and the monomials; the rows of the entries that are known; whether a run is open, of which item and by
-- which readings, without those that ended with Stuck and were followed by another; how its last step ended; what is left, as
-- a row; and the rows of the intermediates
pub record State : Type 0 where
  pub p : ℕ
  pub shape : Shape
  pub known : List (List ℕ)
  pub is_open : Bool
  pub item : Item
  pub reads : List Reading
  pub end : Option StepEnd
  pub poly : List ℕ
  pub kept : List (List ℕ)

-- the ring of a state
abbrev pub ring_of : State → Ranks
ring_of s = ring s.p s.shape

-- the entries that are known as vectors
abbrev pub entry_vector : List (List ℕ) → ℕ → Vector
entry_vector known k = vector_of_row (row_at known k)

-- the run as the definition of steps has it
abbrev pub run_in : State → Run
run_in s = record { end = s.end; poly = vector_of_row s.poly; kept = map vector_of_row s.kept }

-- the entries with these terms are those that are known
pub record Knows (entries : List Entry) (s : State) : Type 0 where
  pub all : length s.known ≡ length entries
  pub each : (k : ℕ) → k < length entries → Agree (ring_of s) (ring_of s).n (entry_vector s.known k) (vector_of_terms (entry_at entries k).terms)
  pub leads : (k : ℕ) → k < length entries → BeginsAt (row_at s.known k) (lead_rank (entry_at entries k).terms)

-- the problem is over the same field, and about the same monomials
pub record IsOver (P : Problem) (s : State) : Type 0 where
  pub field : P.p ≡ s.p
  pub shape : shape_of P ≡ s.shape

-- the run is that of its item by its readings over these entries; each reading but the last ended with Reduced, and after a
-- step there is one
pub record HasRun (P : Problem) (entries : List Entry) (s : State) : Type 0 where
  pub over : IsOver P s
  pub item : IsItemOf (length P.gens) (length entries) s.item
  pub known : All (λ d. d.known ≤ length entries) s.reads
  pub some : (s.end ≡ None → ⊥) → 0 < length s.reads
  pub before : (j : ℕ) → 0 < j → j < length s.reads → (run P entries s.item (take j s.reads)).end ≡ Some Reduced
  pub run : RunAlike (ring_of s) (run_in s) (run P entries s.item s.reads)

-- a list without its last member
abbrev pub without_last : List Reading → List Reading
without_last [] = []
without_last (d ∷ []) = []
without_last (d ∷ e ∷ ds) = d ∷ without_last (e ∷ ds)

-- whether the last step was stuck
abbrev pub is_stuck : Option StepEnd → Bool
is_stuck None = false
is_stuck (Some Zero) = false
is_stuck (Some Reduced) = false
is_stuck (Some Stuck) = true

-- the readings that stay in the record when one more follows: a last one that ended with Stuck is dropped
abbrev pub recorded : Option StepEnd → List Reading → List Reading
recorded end reads = if is_stuck end then without_last reads else reads

-- the first coefficient of a list of terms
abbrev pub first_coef : List Term → ℕ
first_coef [] = 0
first_coef (t ∷ ts) = t.coef

-- a monic polynomial by its terms: at least one, with rising ranks and residues other than 0, the first of which is 1
pub record AreMonicTerms (p places : ℕ) (ts : List Term) : Type 0 where
  pub some : 0 < length ts
  pub ranks : HasRisingRanks places ts
  pub one : first_coef ts ≡ 1
  pub residues : All (λ t. (0 < t.coef) × (t.coef < p)) ts

-- the entry that a stuck run gives: what is left, made monic
abbrev pub draft_in : State → Entry
draft_in s = record { item = s.item; reads = s.reads; terms = terms_of (ring_of s) (monic (ring_of s) (vector_of_row s.poly)) }

-- the entry of a run that is stuck: its terms are what the run ends with, made monic
abbrev pub draft_of : Problem → List Entry → Item → List Reading → Entry
draft_of P entries item reads = record { item = item; reads = reads; terms = terms_of (ranks_of_problem P) (monic (ranks_of_problem P) (run P entries item reads).poly) }
