-- Numberings of the monomials of degree at most d by any order that goes by degree first, with products, quotients and
-- cofactors by number: these are ranks that compute. Ours.
use Rattle.std.specs.Prelude.{◌≡◌, ℕ, ◌+◌, ◌*◌, ◌%◌, ◌<◌, ◌≤◌, ◌⊎◌, ◌&&◌, List, length, Option, Some, None, nat_lt, nat_le, if◌then◌else◌}
use Rattle.local_order.specs.Mono.{degree, mono_times, mono_quotient, divides}
use Rattle.local_order.specs.Count.{monomial_count}
use Rattle.local_order.specs.Shape.{Shape}
use Rattle.rank_algebra.specs.Ranks.{Ranks}
use Rattle.mono_rank.specs.Rank.{rank_of, mono_of_rank}

-- a total order of the monomials in n variables that goes by degree first, the lesser degree being above, and that products keep
pub record IsDegreeOrder (n : ℕ) (Above : List ℕ → List ℕ → Type 0) : Type 0 where
  pub irreflexive : (a : List ℕ) → Above a a → ⊥
  pub transitive : (a b c : List ℕ) → Above a b → Above b c → Above a c
  pub total : (a b : List ℕ) → length a ≡ n → length b ≡ n → (a ≡ b) ⊎ (Above a b ⊎ Above b a)
  pub by_degree : (a b : List ℕ) → degree a < degree b → Above a b
  pub degrees : (a b : List ℕ) → Above a b → degree a ≤ degree b
  pub products : (c a b : List ℕ) → length c ≡ n → length a ≡ n → length b ≡ n → Above a b → Above (mono_times c a) (mono_times c b)

-- how many there are, the monomial of a rank and the rank of a monomial
pub record Numbering : Type 0 where
  pub count : ℕ
  pub mono : ℕ → List ℕ
  pub rank : List ℕ → ℕ

-- O numbers the monomials in n variables of degree at most d, the greatest first
pub record IsNumbering (n d : ℕ) (Above : List ℕ → List ℕ → Type 0) (O : Numbering) : Type 0 where
  pub in_ring : (r : ℕ) → r < O.count → length (O.mono r) ≡ n
  pub low : (r : ℕ) → r < O.count → degree (O.mono r) ≤ d
  pub small : (m : List ℕ) → length m ≡ n → degree m ≤ d → O.rank m < O.count
  pub there : (m : List ℕ) → length m ≡ n → degree m ≤ d → O.mono (O.rank m) ≡ m
  pub back : (r : ℕ) → r < O.count → O.rank (O.mono r) ≡ r
  pub falls : (a b : List ℕ) → length a ≡ n → degree a ≤ d → length b ≡ n → degree b ≤ d → Above a b → O.rank a < O.rank b

-- the numbering by rank
abbrev pub numbering : Shape → Numbering
numbering T = record { count = monomial_count T.variables T.degree; mono = mono_of_rank T; rank = rank_of T }

-- the rank of a product, and the number of monomials where its degree is above d
abbrev pub rank_times : ℕ → Numbering → ℕ → ℕ → ℕ
rank_times d O a b = if nat_lt a O.count && (nat_lt b O.count && nat_le (degree (O.mono a) + degree (O.mono b)) d) then O.rank (mono_times (O.mono a) (O.mono b)) else O.count

-- the rank of the quotient of the monomial of rank r by that of rank a, where it divides
abbrev pub rank_quotient : Numbering → ℕ → ℕ → Option ℕ
rank_quotient O r a = if nat_lt r O.count && (nat_lt a O.count && divides (O.mono a) (O.mono r)) then Some (O.rank (mono_quotient (O.mono r) (O.mono a))) else None

-- the rank of what the monomial of rank a lacks to its least common multiple with that of rank b
abbrev pub rank_cofactor : Numbering → ℕ → ℕ → ℕ
rank_cofactor O a b = if nat_lt a O.count && nat_lt b O.count then O.rank (mono_quotient (O.mono b) (O.mono a)) else O.count

-- the ranks of a numbering, with residues modulo p and their inverses
abbrev pub ranks_of : ℕ → (ℕ → ℕ) → ℕ → Numbering → Ranks
ranks_of p inv d O = record { p = p; n = O.count; times = rank_times d O; quotient = rank_quotient O; cofactor = rank_cofactor O; degree = λ r. degree (O.mono r); inverse_of = inv }
