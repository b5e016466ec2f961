-- Rows: so many residues modulo p, one for each monomial of bounded degree, by rank. What the operations do, place by place. Ours.
use Rattle.std.specs.Prelude.{◌≡◌, ◌≢◌, ℕ, ◌+◌, ◌*◌, ◌-◌, ◌%◌, ◌<◌, ◌≤◌, List, length, All, slice_index}
use Rattle.rank_algebra.specs.Vector.{Vector}

-- r has so many places, and a residue modulo p at each
pub record IsRow (p places : ℕ) (r : List ℕ) : Type 0 where
  pub full : length r ≡ places
  pub residues : All (λ c. c < p) r

-- r is the row of 0
abbrev pub IsZeroRow : List ℕ → Type 0
IsZeroRow r = (k : ℕ) → slice_index r k ≡ 0

-- the residues of a row, as a vector
abbrev pub vector_of_row : List ℕ → Vector
vector_of_row r = λ k. slice_index r k

-- the first residue of r that isn't 0 stands at rank i
pub record BeginsAt (r : List ℕ) (i : ℕ) : Type 0 where
  pub within : i < length r
  pub some : slice_index r i ≢ 0
  pub before : (k : ℕ) → k < i → slice_index r k ≡ 0

-- s is r without what stands at the ranks from w on
pub record IsCutAt (w : ℕ) (r s : List ℕ) : Type 0 where
  pub full : length s ≡ length r
  pub kept : (k : ℕ) → k < w → slice_index s k ≡ slice_index r k
  pub dropped : (k : ℕ) → w ≤ k → slice_index s k ≡ 0

-- s is c times r
pub record IsScaled (p c : ℕ) (r s : List ℕ) : Type 0 where
  pub row : IsRow p (length r) s
  pub value : (k : ℕ) → slice_index s k ≡ (c * slice_index r k) % p

-- s is r less c times g
pub record Subtracts (p c : ℕ) (g r s : List ℕ) : Type 0 where
  pub row : IsRow p (length r) s
  pub value : (k : ℕ) → slice_index s k ≡ (slice_index r k + (p - c) * slice_index g k) % p
