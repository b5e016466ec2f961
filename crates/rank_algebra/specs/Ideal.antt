-- The ideal modulo degree d + 1 by rank.
use Rattle.std.specs.Prelude.{ℕ, ◌<◌}
use Rattle.rank_algebra.specs.Ranks.{Ranks}
use Rattle.rank_algebra.specs.Vector.{Same, Vector, nothing, Agree}
use Rattle.rank_algebra.specs.Combination.{Span}

-- so many vectors, as generators
pub record Generators : Type 0 where
  pub count : ℕ
  pub member : ℕ → Vector

-- v is a combination of the generators with polynomials as cofactors, modulo degree d + 1
abbrev pub InSpan : Ranks → Generators → Vector → Type 0
InSpan R G v = Span R G.member (λ t. t.place < G.count) v

-- r is the rank of v's lead
pub record IsLead (R : Ranks) (v : Vector) (r : ℕ) : Type 0 where
  pub small : r < R.n
  pub low : Agree R r v nothing
  pub some : Same R.p (v r) 0 → ⊥

-- r is the rank of the lead of a combination of the generators
pub record IsLeadOfSpan (R : Ranks) (G : Generators) (r : ℕ) : Type 0 where
  pub poly : Vector
  pub inside : InSpan R G poly
  pub is : IsLead R poly r
