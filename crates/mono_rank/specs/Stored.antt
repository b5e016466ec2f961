-- What a table keeps.
use Rattle.std.specs.Prelude.{◌≡◌, ℕ, suc, ◌+◌, ◌*◌, ◌<◌, ◌≤◌, List, length, get_or}
use Rattle.local_order.specs.Limits.{max_degree, max_monomials, max_variables}
use Rattle.local_order.specs.Shape.{Shape, count}
use Rattle.mono_rank.specs.Rank.{HasRank, fewer, mono_at}

-- rows of eight numbers: at place i of row p how many monomials in i + 1 variables have a degree below p
abbrev pub HasCounts : List ℕ → Type 0
HasCounts s = (p i : ℕ) → i < 8 → 8 * p + i < length s → get_or s (8 * p + i) 0 ≡ fewer (suc i) p

-- the monomial of each rank stands at its place
pub record ListsRanks (T : Shape) (s : List (List ℕ)) : Type 0 where
  pub all : length s ≡ count T
  pub each : (r : ℕ) → r < length s → HasRank T (mono_at s r) r

-- the limits of a table
pub record HasLimits (T : Shape) : Type 0 where
  pub some : 1 ≤ T.variables
  pub few : T.variables ≤ max_variables
  pub low : T.degree ≤ max_degree
  pub small : count T ≤ max_monomials

-- its monomials, and the rows 0 to d + 1 of numbers
pub record IsTable (T : Shape) (s : List (List ℕ)) (c : List ℕ) : Type 0 where
  pub limits : HasLimits T
  pub monos : ListsRanks T s
  pub rows : length c ≡ 8 * (T.degree + 2)
  pub counts : HasCounts c
