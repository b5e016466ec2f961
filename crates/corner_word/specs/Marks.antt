-- What a cover shows, the multiples of its leads, and what it keeps: a mark for each of them.
use Rattle.std.specs.Prelude.{◌≡◌, ℕ, suc, ◌<◌, ◌≤◌, ◌↔◌, List, [], ◌∷◌, Bool, true, false, IsTrue, Contains, length, get_or}
use Rattle.local_order.specs.Shape.{Shape, count}
use Rattle.mono_rank.specs.Rank.{HasRank}
use Rattle.mono_rank.specs.Cover.{IsMultipleOfRanks}

-- a cover is seen as the monomials that it is about, and the ranks of the multiples of its leads, rising
pub record Covered : Type 0 where
  pub shape : Shape
  pub multiples : List ℕ

-- these are the leads that were added: the multiples are theirs
pub record IsCoverOf (leads : List ℕ) (c : Covered) : Type 0 where
  pub each : (m : List ℕ) (r : ℕ) → HasRank c.shape m r → Contains c.multiples r ↔ IsMultipleOfRanks c.shape leads m

-- ---- what is kept
-- the mark of a rank
abbrev pub mark_at : List Bool → ℕ → Bool
mark_at marks r = get_or marks r false

-- the ranks that are marked, where the first mark is that of rank k
abbrev pub marked_from : ℕ → List Bool → List ℕ
marked_from k [] = []
marked_from k (true ∷ marks) = k ∷ marked_from (suc k) marks
marked_from k (false ∷ marks) = marked_from (suc k) marks

-- all ranks from w on are marked
pub record IsMarkedFrom (marks : List Bool) (w : ℕ) : Type 0 where
  pub low : w ≤ length marks
  pub from : (r : ℕ) → w ≤ r → r < length marks → IsTrue (mark_at marks r)

-- and the rank before isn't
pub record IsLeastMarked (marks : List Bool) (w : ℕ) : Type 0 where
  pub marked : IsMarkedFrom marks w
  pub before : (k : ℕ) → suc k ≡ w → mark_at marks k ≡ false

-- a mark for each monomial, and the corner beside them
pub record IsCoverKept (T : Shape) (marks : List Bool) (w : ℕ) : Type 0 where
  pub some : 1 ≤ T.variables
  pub all : length marks ≡ count T
  pub corner : IsLeastMarked marks w
