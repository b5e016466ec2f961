-- The staircase of leads that are named by their ranks.
use Rattle.std.specs.Prelude.{◌≡◌, ℕ, suc, ◌+◌, ◌<◌, ◌≤◌, ◌↔◌, List, length, get_or, All, Contains, Bool, ◌==◌}
use Rattle.mono_rank.specs.Rank.{HasRank, mono_of_rank, fewer}
use Rattle.mono_rank.specs.Stored.{HasLimits}
use Rattle.mono_rank.specs.Cover.{IsMultipleOfRanks}
use Rattle.local_order.specs.Mono.{degree}
use Rattle.local_order.specs.Shape.{Shape, count}
use Rattle.sparse_poly.specs.Shape.{shape_of}
use Rattle.sparse_poly.specs.Ideal.{Problem, IsLeadOfIdeal}

-- a staircase is seen as the monomials that it is among, and its ranks
pub record Stairs : Type 0 where
  pub shape : Shape
  pub ranks : List ℕ

-- each number is above those before it
pub record IsRising (ranks : List ℕ) : Type 0 where
  pub rising : (i j : ℕ) → i < j → j < length ranks → get_or ranks i 0 < get_or ranks j 0

-- the ranks of the monomials that are multiples of no lead, rising
pub record IsStairOf (T : Shape) (leads : List ℕ) (ranks : List ℕ) : Type 0 where
  pub rises : IsRising ranks
  pub exactly : (r : ℕ) → Contains ranks r ↔ ((m : List ℕ) × HasRank T m r × ¬ IsMultipleOfRanks T leads m)

-- whether the monomial of rank r has degree e
abbrev pub is_of_degree : Shape → ℕ → ℕ → Bool
is_of_degree T e r = degree (mono_of_rank T r) == e

-- r is the least of the ranks whose monomials have degree e
pub record IsLeastOfDegree (T : Shape) (e : ℕ) (ranks : List ℕ) (r : ℕ) : Type 0 where
  pub there : Contains ranks r
  pub of_degree : degree (mono_of_rank T r) ≡ e
  pub least : (q : ℕ) → Contains ranks q → degree (mono_of_rank T q) ≡ e → r ≤ q

-- the first rank of each degree, and the number of monomials at the end
pub record HasFirsts (T : Shape) (firsts : List ℕ) : Type 0 where
  pub long : length firsts ≡ T.degree + 2
  pub each : (e : ℕ) → e < T.degree + 2 → get_or firsts e 0 ≡ fewer T.variables e

-- what is kept: rising ranks below the number of monomials, and the first ranks
pub record IsStairKept (T : Shape) (ranks firsts : List ℕ) : Type 0 where
  pub limits : HasLimits T
  pub rises : IsRising ranks
  pub low : All (λ r. r < count T) ranks
  pub starts : HasFirsts T firsts

-- the leads of the ideal are the multiples of the leads with these ranks
abbrev pub ShowLeads : Problem → List ℕ → Type 0
ShowLeads P leads = (m : List ℕ) → length m ≡ P.n → degree m ≤ P.d → IsLeadOfIdeal P m ↔ IsMultipleOfRanks (shape_of P) leads m
