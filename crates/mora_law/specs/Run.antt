-- Runs of Mora's normal form.
use Rattle.std.specs.Prelude.{ℕ, ◌≤◌, List, [], ◌∷◌, None}
use Rattle.rank_algebra.specs.Ranks.{Ranks}
use Rattle.entry_code.specs.declared.reading.Reading.{Reading}
use Rattle.rank_algebra.specs.Vector.{Vector}
use Rattle.mora_law.specs.Step.{Run, step}

-- a step for each reading
abbrev pub steps : Ranks → (ℕ → Vector) → Run → List Reading → Run
steps R entries s [] = s
steps R entries s (d ∷ ds) = steps R entries (step R entries s d) ds

-- no step yet, and no intermediates
abbrev pub begin : Vector → Run
begin f = record { end = None; poly = f; kept = [] }

-- the run from f by these readings
abbrev pub run_from : Ranks → (ℕ → Vector) → Vector → List Reading → Run
run_from R entries f reads = steps R entries (begin f) reads

-- along the readings the number known never falls, from `known` on, and is at most s; corners never rise, from `corner` on
abbrev pub AreOrderly : ℕ → ℕ → ℕ → List Reading → Type 0
AreOrderly s known corner [] = known ≤ s
AreOrderly s known corner (d ∷ ds) = (known ≤ d.known) × (d.corner ≤ corner) × AreOrderly s d.known d.corner ds

-- the number known at the last reading
abbrev pub last_known : ℕ → List Reading → ℕ
last_known known [] = known
last_known known (d ∷ ds) = last_known d.known ds

-- the corner at the last reading
abbrev pub last_corner : ℕ → List Reading → ℕ
last_corner w [] = w
last_corner w (d ∷ ds) = last_corner d.corner ds
