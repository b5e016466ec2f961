-- The rank of a monomial: how many of the monomials of bounded degree are greater in the order ds.
use Rattle.std.specs.Prelude.{◌≡◌, ℕ, zero, suc, ◌<◌, ◌≤◌, ◌↔◌, List, [], ◌∷◌, length, Contains, count_by, slice_index_or, ◌==◌, if◌then◌else◌}
use Rattle.local_order.specs.Mono.{degree}
use Rattle.local_order.specs.Order.{IsAbove, above}
use Rattle.local_order.specs.Count.{monomial_count, monomials}
use Rattle.local_order.specs.Shape.{Shape, count}

-- how many monomials in n variables of degree at most d are above m
unfoldable pub rank_of : Shape → List ℕ → ℕ
rank_of T m = count_by (λ k. above k m) (monomials T.variables T.degree)

-- m is a monomial in n variables of degree at most d, and r is its rank
pub record HasRank (T : Shape) (m : List ℕ) (r : ℕ) : Type 0 where
  pub in_ring : length m ≡ T.variables
  pub low : degree m ≤ T.degree
  pub rank : rank_of T m ≡ r

-- how many monomials in n variables have a degree below d
abbrev pub fewer : ℕ → ℕ → ℕ
fewer n zero = 0
fewer n (suc d) = monomial_count n d

-- the monomial at place r of a list
abbrev pub mono_at : List (List ℕ) → ℕ → List ℕ
mono_at s r = slice_index_or s r []

-- s has the monomials in n variables of degree at most d in falling order, each once
pub record ListsMonomials (T : Shape) (s : List (List ℕ)) : Type 0 where
  pub falling : (i j : ℕ) → i < j → j < length s → IsAbove (mono_at s i) (mono_at s j)
  pub exactly : (m : List ℕ) → Contains s m ↔ ((length m ≡ T.variables) × (degree m ≤ T.degree))

-- the first monomial of a list whose rank is r
abbrev pub first_of_rank : Shape → ℕ → List (List ℕ) → List ℕ
first_of_rank T r [] = []
first_of_rank T r (m ∷ s) = if rank_of T m == r then m else first_of_rank T r s

-- the monomial of rank r
unfoldable pub mono_of_rank : Shape → ℕ → List ℕ
mono_of_rank T r = first_of_rank T r (monomials T.variables T.degree)

-- the monomials of k ranks from r on
abbrev pub of_ranks : Shape → ℕ → ℕ → List (List ℕ)
of_ranks T r zero = []
of_ranks T r (suc k) = mono_of_rank T r ∷ of_ranks T (suc r) k

-- the monomials in n variables of degree at most d by rank, which is in falling order
unfoldable pub by_rank : Shape → List (List ℕ)
by_rank T = of_ranks T 0 (count T)
