-- The replay of a run: what a step chooses, and the state of a run as the checker holds it.
use Rattle.std.specs.Prelude.{◌≡◌, ℕ, ◌<◌, Bool, true, false, List, [], ◌∷◌, ◌++◌, map, get_or, Option, Some, None, All}
use Rattle.sparse_poly.specs.Ideal.{Problem}
use Rattle.entry_code.specs.declared.term.Term.{Term}
use Rattle.entry_code.specs.Placed.{Placed}
use Rattle.entry_code.specs.Entry.{Entry, entry_at}
use Rattle.rank_algebra.specs.Ranks.{Ranks}
use Rattle.rank_algebra.specs.Vector.{Vector}
use Rattle.mora_law.specs.declared.step_end.StepEnd.{StepEnd}
use Rattle.mora_law.specs.Lead.{ecart}
use Rattle.mora_law.specs.Step.{Reducer, Run}
use Rattle.mora_law.specs.Entries.{lead_rank}
use Rattle.entry_code.specs.Terms.{vector_of_terms}
use Rattle.cert_check.specs.declared.choice.Place.{Place}
use Rattle.cert_check.specs.declared.choice.Place.TheVariants as places
use Rattle.cert_check.specs.declared.choice.Choice.{Choice}
use Rattle.cert_check.specs.Sparse.{AreStored}

-- the terms that a place beyond a list is given
abbrev pub no_terms : Placed Term
no_terms = record { list = []; places = 0 }

-- the intermediates as vectors
abbrev pub vectors_of : List (Placed Term) → List Vector
vectors_of kept = map (λ ts. vector_of_terms ts.list) kept

-- the intermediates may reduce
abbrev pub AreKept : Problem → List (Placed Term) → Type 0
AreKept P kept = All (λ ts. AreStored P ts.list) kept

-- the terms at a place
abbrev pub terms_at : List Entry → List (Placed Term) → Place → List Term
terms_at entries kept (places.Entry i) = (entry_at entries i).terms
terms_at entries kept (places.Kept k) = (get_or kept k no_terms).list

-- the place is one of so many entries and of so many intermediates
abbrev pub HasPlace : ℕ → ℕ → Place → Type 0
HasPlace known kept (places.Entry i) = i < known
HasPlace known kept (places.Kept k) = k < kept

-- the reducer with these terms
abbrev pub reducer_with : List Term → ℕ → Reducer
reducer_with ts q = record { poly = vector_of_terms ts; lead = lead_rank ts; cofactor = q }

-- x is the reducer that stands at its place, with its ecart
pub record IsReducerAt (R : Ranks) (known kept : ℕ) (ts : List Term) (x : Choice) : Type 0 where
  pub within : HasPlace known kept x.place
  pub small : x.cofactor < R.n
  pub ecart : x.ecart ≡ ecart R (vector_of_terms ts)

-- what was chosen is the reducer c, where `at` has the terms at each place
abbrev pub IsChosen : Ranks → ℕ → ℕ → (Place → List Term) → Option Choice → Option Reducer → Type 0
IsChosen R known kept at None c = c ≡ None
IsChosen R known kept at (Some x) c = (c ≡ Some (reducer_with (at x.place) x.cofactor)) × IsReducerAt R known kept (at x.place) x

-- what was chosen so far has a lesser ecart
abbrev pub HasLessEcart : Option Choice → ℕ → Type 0
HasLessEcart None e = ⊥
HasLessEcart (Some x) e = x.ecart < e

-- v was put behind the intermediates where it is to be kept
abbrev pub IsPut : Vector → Bool → List (Placed Term) → List (Placed Term) → Type 0
IsPut v true old new = (ts : Placed Term) × (new ≡ old ++ ts ∷ []) × ((r : ℕ) → vector_of_terms ts.list r ≡ v r)
IsPut v false old new = new ≡ old

-- the state of a run: how its last step ended, what is left, and the intermediates
abbrev pub state : Option StepEnd → Vector → List (Placed Term) → Run
state end h kept = record { end = end; poly = h; kept = vectors_of kept }
