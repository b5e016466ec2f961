-- Orderly readings: what they know and where they cut, from the first to the last.
-- Each fact goes along the readings.
use Rattle.std.proofs.Common.{ℕ, zero, suc, ◌≤◌, List, [], ◌∷◌, take, arith, le_trans}
use Rattle.rank_algebra.specs.Ranks.{Ranks}
use Rattle.entry_code.specs.declared.reading.Reading.{Reading}
use Rattle.rank_algebra.specs.Division.{Basis}
use Rattle.mora_law.specs.Run.{AreOrderly, last_known, last_corner}
use Rattle.mora_law.specs.Legal.{HaveCorners}

-- orderly readings are so for more entries
pub orderly_more : (i s : ℕ) → i ≤ s → (ds : List Reading) (known w : ℕ) → AreOrderly i known w ds → AreOrderly s known w ds
orderly_more i s l [] known w o = le_trans o l
orderly_more i s l (d ∷ ds) known w o = (o.0, o.1, orderly_more i s l ds d.known d.corner o.2)

-- the last reading knows at most the bound
pub last_known_le : (s : ℕ) (ds : List Reading) (known w : ℕ) → AreOrderly s known w ds → last_known known ds ≤ s
last_known_le s [] known w o = o
last_known_le s (d ∷ ds) known w o = last_known_le s ds d.known d.corner o.2

-- its corner is at most the first bound
pub last_corner_le : (s : ℕ) (ds : List Reading) (known w : ℕ) → AreOrderly s known w ds → last_corner w ds ≤ w
last_corner_le s [] known w o = omega arith
last_corner_le s (d ∷ ds) known w o = le_trans (last_corner_le s ds d.known d.corner o.2) o.1

-- and at least the lowest
pub last_corner_ge : (R : Ranks) (B : Basis) (c w : ℕ) (ds : List Reading) → c ≤ w → HaveCorners R B c ds → c ≤ last_corner w ds
last_corner_ge R B c w [] l h = l
last_corner_ge R B c w (d ∷ ds) l h = last_corner_ge R B c d.corner ds h.0 h.2

-- what is known is at most the bound
pub known_le : (s : ℕ) (ds : List Reading) (known w : ℕ) → AreOrderly s known w ds → known ≤ s
known_le s [] known w o = o
known_le s (d ∷ ds) known w o = le_trans o.0 (known_le s ds d.known d.corner o.2)

-- the first readings are orderly
pub orderly_take : (s j : ℕ) (ds : List Reading) (known w : ℕ) → AreOrderly s known w ds → AreOrderly s known w (take j ds)
orderly_take s zero ds known w o = known_le s ds known w o
orderly_take s (suc j) [] known w o = o
orderly_take s (suc j) (d ∷ ds) known w o = (o.0, o.1, orderly_take s j ds d.known d.corner o.2)
