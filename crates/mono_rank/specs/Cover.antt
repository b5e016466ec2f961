-- The highest corner of leads that are named by their ranks: from it on each monomial is a multiple of a lead.
use Rattle.std.specs.Prelude.{ℕ, ◌≤◌, List, length, get_or, Contains}
use Rattle.local_order.specs.Mono.{Divides}
use Rattle.local_order.specs.Shape.{Shape, count}
use Rattle.rank_algebra.specs.Ranks.{Ranks}
use Rattle.rank_algebra.specs.Division.{Basis, corner_of}
use Rattle.mono_rank.specs.Rank.{HasRank}
use Rattle.mono_rank.specs.Laws.{numbering, ranks_of}

-- a lead divides m
abbrev pub IsMultipleOfRanks : Shape → List ℕ → List ℕ → Type 0
IsMultipleOfRanks T leads m = (l : ℕ) × (k : List ℕ) × Contains leads l × HasRank T k l × Divides k m

-- each monomial of a rank from w on is a multiple of a lead (a rank is always below the number of monomials)
abbrev pub Covers : Shape → List ℕ → ℕ → Type 0
Covers T leads w = (m : List ℕ) (r : ℕ) → w ≤ r → HasRank T m r → IsMultipleOfRanks T leads m

-- w is the least such rank: the number of monomials where the last one is no multiple, and 0 where 1 is a lead
pub record IsCorner (T : Shape) (leads : List ℕ) (w : ℕ) : Type 0 where
  pub covers : Covers T leads w
  pub low : w ≤ count T
  pub least : (v : ℕ) → Covers T leads v → w ≤ v

-- vectors with these leads: the corner sees nothing else of them
abbrev pub with_leads : List ℕ → Basis
with_leads leads = record { size = length leads; member = λ k r. 0; lead = λ k. get_or leads k 0 }

-- computing with the ranks: the corner sees no residues, which are taken modulo 1
abbrev pub ranks_in : Shape → Ranks
ranks_in T = ranks_of 1 (λ c. 0) T.degree (numbering T)

-- the corner of leads as a number: that of vectors with these leads
unfoldable pub corner_of_leads : Shape → List ℕ → ℕ
corner_of_leads T leads = corner_of (ranks_in T) (with_leads leads)
