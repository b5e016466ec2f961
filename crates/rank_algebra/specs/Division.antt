-- Plain division by monic vectors: what remains, the corner of their leads, and their S-pairs.
use Rattle.std.specs.Prelude.{◌≡◌, ℕ, zero, suc, ◌-◌, ◌<◌, ◌≤◌, Bool, Option, Some, None, is_some, option_map, option_and_then, unwrap_or, find}
use Rattle.std.specs.List.{range_with_len, list_all}
use Rattle.rank_algebra.specs.Ranks.{Ranks}
use Rattle.rank_algebra.specs.Vector.{Same, Vector, nothing, shift, less, cut_at, Agree}
use Rattle.rank_algebra.specs.Combination.{Part, Span}

-- so many vectors, with the ranks of their leads
pub record Basis : Type 0 where
  pub size : ℕ
  pub member : ℕ → Vector
  pub lead : ℕ → ℕ

-- the first so many of them
abbrev pub first_of : ℕ → Basis → Basis
first_of s B = record { size = s; member = B.member; lead = B.lead }

-- the vectors are monic with these leads
pub record IsMonic (R : Ranks) (B : Basis) : Type 0 where
  pub small : (k : ℕ) → k < B.size → B.lead k < R.n
  pub lowest : (k : ℕ) → k < B.size → Agree R (B.lead k) (B.member k) nothing
  pub one : (k : ℕ) → k < B.size → Same R.p (B.member k (B.lead k)) 1

-- the lead at `place` times the monomial of rank `cofactor`
pub record Hit : Type 0 where
  pub place : ℕ
  pub cofactor : ℕ

-- whether the lead at place k divides r
abbrev pub divides_at : Ranks → Basis → ℕ → ℕ → Bool
divides_at R B r k = is_some (R.quotient r (B.lead k))

-- the lead at place k and the cofactor, where it divides r
abbrev pub hit_at : Ranks → Basis → ℕ → ℕ → Option Hit
hit_at R B r k = option_map (λ q. record { place = k; cofactor = q }) (R.quotient r (B.lead k))

-- the first lead that divides r
unfoldable pub first_lead : Ranks → Basis → ℕ → Option Hit
first_lead R B r = option_and_then (hit_at R B r) (find (divides_at R B r) (range_with_len 0 B.size))

-- v less the multiple of a member that has its term of rank r
abbrev pub remove_by : Ranks → Basis → ℕ → Vector → Option Hit → Vector
remove_by R B r v None = v
remove_by R B r v (Some h) = less R (v r) (shift R h.cofactor (B.member h.place)) v

-- v without its term of rank r, where that is a multiple of a lead
abbrev pub remove : Ranks → Basis → ℕ → Vector → Vector
remove R B r v = remove_by R B r v (first_lead R B r)

-- the same for `left` ranks from r on; what has a greater rank is dropped
abbrev pub remainder_from : Ranks → Basis → ℕ → ℕ → Vector → Vector
remainder_from R B zero r v = cut_at r v
remainder_from R B (suc left) r v = remainder_from R B left (suc r) (remove R B r v)

-- the remainder of plain division: below the corner, from the greatest monomial to the least, each multiple of a lead is removed
-- by the first such member; from the corner on everything is dropped
abbrev pub remainder : Ranks → Basis → ℕ → Vector → Vector
remainder R B corner v = remainder_from R B corner 0 v

-- r is a multiple of a lead
pub record IsMultiple (R : Ranks) (B : Basis) (r : ℕ) : Type 0 where
  pub place : ℕ
  pub cofactor : ℕ
  pub known : place < B.size
  pub is : R.times cofactor (B.lead place) ≡ r

-- every rank from w on is a multiple of a lead
pub record IsCover (R : Ranks) (B : Basis) (w : ℕ) : Type 0 where
  pub within : w ≤ R.n
  pub covers : (r : ℕ) → w ≤ r → r < R.n → IsMultiple R B r

-- whether each rank from w on is that of a multiple of a lead
abbrev pub covers_from : Ranks → Basis → ℕ → Bool
covers_from R B w = list_all (λ r. is_some (first_lead R B r)) (range_with_len w (R.n - w))

-- the corner of the leads: the least rank from which on every rank is that of a multiple of a lead; n where the last one isn't
unfoldable pub corner_of : Ranks → Basis → ℕ
corner_of R B = unwrap_or (find (covers_from R B) (range_with_len 0 R.n)) R.n

-- the S-pair of members i and j
abbrev pub pair : Ranks → Basis → ℕ → ℕ → Vector
pair R B i j = less R 1 (shift R (R.cofactor (B.lead j) (B.lead i)) (B.member j)) (shift R (R.cofactor (B.lead i) (B.lead j)) (B.member i))

-- the least common multiple of two leads
abbrev pub lcm_of : Ranks → Basis → ℕ → ℕ → ℕ
lcm_of R B i j = R.times (B.lead i) (R.cofactor (B.lead i) (B.lead j))

-- a multiple of a member whose lead is below the monomial of rank l
pub record IsBelow (R : Ranks) (B : Basis) (l : ℕ) (t : Part) : Type 0 where
  pub known : t.place < B.size
  pub below : l < R.times t.mono (B.lead t.place)

-- a combination of such multiples
abbrev pub Below : Ranks → Basis → ℕ → Vector → Type 0
Below R B l v = Span R B.member (IsBelow R B l) v

-- a multiple of one of the first members without a term of a rank below l
pub record IsFrom (R : Ranks) (B : Basis) (first l : ℕ) (t : Part) : Type 0 where
  pub earlier : t.place < first
  pub from : l ≤ R.times t.mono (B.lead t.place)
