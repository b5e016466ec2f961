-- What ties a polynomial to the start of its run: up to a factor with constant term 1 the start is, below the corner,
-- that polynomial and a combination of the entries that were known.
use Rattle.std.specs.Prelude.{ℕ, List, [], ◌∷◌, ⊤}
use Rattle.rank_algebra.specs.Ranks.{Ranks}
use Rattle.rank_algebra.specs.Vector.{Vector, add, Agree}
use Rattle.rank_algebra.specs.Combination.{Part, value, Each, IsProper}
use Rattle.rank_algebra.specs.Division.{Basis, IsFrom}

-- f times (1 + the units) is, below rank w, h and the parts; the parts begin at rank l or later
pub record Tied (R : Ranks) (B : Basis) (known l : ℕ) (f : Vector) (w : ℕ) (h : Vector) : Type 0 where
  pub units : List Part
  pub proper : Each IsProper units
  pub parts : List Part
  pub allowed : Each (IsFrom R B known l) parts
  pub is : Agree R w (add f (value R (λ k. f) units)) (add h (value R B.member parts))

-- Q holds of each vector of the list
abbrev pub Every : (Vector → Type 0) → List Vector → Type 0
Every Q [] = ⊤
Every Q (g ∷ gs) = Q g × Every Q gs
