-- Pairs that are skipped and tickets that are settled, by rank. Least common multiples beyond degree d have no rank, so
-- these serve the proofs alone.
use Rattle.std.specs.Prelude.{◌≡◌, ℕ, ◌<◌, ◌⊎◌, List, length}
use Rattle.rank_algebra.specs.Ranks.{Ranks}
use Rattle.entry_code.specs.declared.item.Item.{Item}
use Rattle.entry_code.specs.declared.item.Item.TheVariants.{Generator, Pair}
use Rattle.entry_code.specs.Entry.{Entry}
use Rattle.rank_algebra.specs.Division.{Basis}
use Rattle.rank_algebra.specs.Ideal.{Generators}
use Rattle.mora_law.specs.Entries.{basis_of}
use Rattle.mora_law.specs.Legal.{IsItemOf}
use Rattle.mora_law.specs.Settled.{HasEntry, GoesToZero, LeavesNothing}

-- the leads of i and j are coprime
pub record IsProduct (R : Ranks) (B : Basis) (i j : ℕ) : Type 0 where
  pub left : R.cofactor (B.lead i) (B.lead j) ≡ B.lead j
  pub right : R.cofactor (B.lead j) (B.lead i) ≡ B.lead i

-- an entry below i has a lead that divides the least common multiple of those of i and j
pub record IsChain (R : Ranks) (B : Basis) (i j : ℕ) : Type 0 where
  pub place : ℕ
  pub below : place < i
  pub cofactor : ℕ
  pub divides : R.times cofactor (B.lead place) ≡ R.times (B.lead i) (R.cofactor (B.lead i) (B.lead j))

-- the pair of the item is skipped
abbrev pub IsSkippedByRank : Ranks → Basis → Item → Type 0
IsSkippedByRank R B (Generator g) = ⊥
IsSkippedByRank R B (Pair i j) = IsProduct R B i j ⊎ IsChain R B i j

-- the item is skipped, or has an entry, or a run that ends with Zero
abbrev pub IsSettledByRank : Ranks → Generators → List Entry → Item → Type 0
IsSettledByRank R G entries item = (IsSkippedByRank R (basis_of entries) item ⊎ HasEntry entries item) ⊎ GoesToZero R G entries item

-- each item of the entries is settled, or plain division of its start leaves nothing
abbrev pub AllSettledByRank : Ranks → Generators → List Entry → Type 0
AllSettledByRank R G entries = (item : Item) → IsItemOf G.count (length entries) item → IsSettledByRank R G entries item ⊎ LeavesNothing R G entries item
