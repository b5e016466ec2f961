-- One step of Mora's normal form.
use Rattle.std.specs.Prelude.{◌≡◌, ℕ, zero, suc, ◌*◌, ◌<◌, ◌≤◌, length, get_or, List, [], ◌∷◌, ◌++◌, Bool, true, false, Option, Some, None, nat_lt, nat_le}
use Rattle.rank_algebra.specs.Ranks.{Ranks}
use Rattle.entry_code.specs.declared.reading.Reading.{Reading}
use Rattle.rank_algebra.specs.Vector.{Vector, nothing, shift, less, cut_at}
use Rattle.mora_law.specs.declared.step_end.StepEnd.{StepEnd}
use Rattle.mora_law.specs.declared.step_end.StepEnd.TheVariants.{Zero, Reduced, Stuck}
use Rattle.mora_law.specs.Lead.{lead, ecart}

-- a vector whose lead divides: times the monomial `cofactor` its lead is the one to be removed
pub record Reducer : Type 0 where
  pub poly : Vector
  pub lead : ℕ
  pub cofactor : ℕ

-- g as a reducer, where the quotient by its lead is told
abbrev pub reducer_by : Vector → ℕ → Option ℕ → Option Reducer
reducer_by g low None = None
reducer_by g low (Some q) = Some (record { poly = g; lead = low; cofactor = q })

-- the same, where its lead is told
abbrev pub reducer_at : Ranks → ℕ → Vector → Option ℕ → Option Reducer
reducer_at R r g None = None
reducer_at R r g (Some low) = reducer_by g low (R.quotient r low)

-- g as a reducer of the monomial of rank r, where its lead divides
abbrev pub reducer : Ranks → ℕ → Vector → Option Reducer
reducer R r g = reducer_at R r g (lead R g)

-- the first or the second
abbrev pub better_by : Reducer → Reducer → Bool → Option Reducer
better_by a b true = Some a
better_by a b false = Some b

-- of two, the one of less ecart, and the first on a tie
abbrev pub better : Ranks → Option Reducer → Option Reducer → Option Reducer
better R None b = b
better R (Some a) None = Some a
better R (Some a) (Some b) = better_by a b (nat_le (ecart R a.poly) (ecart R b.poly))

-- the reducer of least ecart, and the first of these
abbrev pub choose : Ranks → ℕ → List Vector → Option Reducer
choose R r [] = None
choose R r (g ∷ gs) = better R (reducer R r g) (choose R r gs)

-- c is the reducer that the vector at place k makes; it has the least ecart of all reducers in the list, and is the first of that ecart
pub record IsFirstOfLeastEcart (R : Ranks) (r : ℕ) (gs : List Vector) (k : ℕ) (c : Reducer) : Type 0 where
  pub within : k < length gs
  pub is : reducer R r (get_or gs k nothing) ≡ Some c
  pub before : (j : ℕ) (x : Reducer) → j < k → reducer R r (get_or gs j nothing) ≡ Some x → ecart R c.poly < ecart R x.poly
  pub behind : (j : ℕ) (x : Reducer) → k < j → j < length gs → reducer R r (get_or gs j nothing) ≡ Some x → ecart R c.poly ≤ ecart R x.poly

-- `left` vectors from k on
abbrev pub firsts : ℕ → ℕ → (ℕ → Vector) → List Vector
firsts zero k vectors = []
firsts (suc left) k vectors = vectors k ∷ firsts left (suc k) vectors

-- a run so far: how its last step ended, if there was one, what is left, and the intermediates
pub record Run : Type 0 where
  pub end : Option StepEnd
  pub poly : Vector
  pub kept : List Vector

-- where the reducer has the greater ecart, what is reduced is put last into the intermediates
abbrev pub keep : Bool → List Vector → Vector → List Vector
keep true kept h = kept ++ h ∷ []
keep false kept h = kept

-- the multiple of the reducer that has h's leading term is subtracted
abbrev pub reduce : Ranks → List Vector → Vector → ℕ → Option Reducer → Run
reduce R kept h r None = record { end = Some Stuck; poly = h; kept = kept }
reduce R kept h r (Some g) = record {
  end = Some Reduced;
  poly = less R (h r * R.inverse_of (g.poly g.lead)) (shift R g.cofactor g.poly) h;
  kept = keep (nat_lt (ecart R h) (ecart R g.poly)) kept h;
}

-- a step on h, whose lead is told: reducers are the first `known` entries and the intermediates
abbrev pub step_at : Ranks → (ℕ → Vector) → ℕ → List Vector → Vector → Option ℕ → Run
step_at R entries known kept h None = record { end = Some Zero; poly = h; kept = kept }
step_at R entries known kept h (Some r) = reduce R kept h r (choose R r (firsts known 0 entries ++ kept))

-- one step: first everything from the corner on is dropped
abbrev pub step : Ranks → (ℕ → Vector) → Run → Reading → Run
step R entries s d = step_at R entries d.known s.kept (cut_at d.corner s.poly) (lead R (cut_at d.corner s.poly))
