-- What stands before a reading, and what is asked of one, by the reading itself.
-- The reading at a place is the one that a list lends there.
use Rattle.std.proofs.Common.{◌≡◌, ℕ, suc, ◌-◌, ◌≤◌, List, length, get_or, slice_get, Some, sym, ◌∙◌, ap, arith}
use Rattle.std.proofs.lemmas.Option.{get_or_from_slice_get}
use Rattle.local_order.specs.Shape.{Shape, count}
use Rattle.sparse_poly.specs.Ideal.{Problem}
use Rattle.entry_code.specs.declared.reading.Reading.{Reading}
use Rattle.entry_code.specs.Entry.{Entry}
use Rattle.rank_algebra.specs.Division.{first_of, corner_of}
use Rattle.mora_law.specs.Ring.{ranks_of_problem}
use Rattle.mora_law.specs.Entries.{basis_of}
use Rattle.cert_check.specs.Checks.{no_reading, reading_at, known_before, corner_before, IsKnown, IsCornerOf}
use Rattle.cert_check.specs.Sparse.{HasTable}
use Rattle.cert_check.specs.Answers.{AreCorners}
use Rattle.cert_check.proofs.Tables.{all_ranks}

-- the reading that a list lends is the one at the place
pub reading_is : (ds : List Reading) (j : ℕ) (d : Reading) → slice_get ds j ≡ Some d → reading_at ds j ≡ d
reading_is ds j d e = get_or_from_slice_get ds j d no_reading e

-- before the first reading nothing was known
pub known_first : (ds : List Reading) (j : ℕ) → j ≡ 0 → 0 ≡ known_before 0 ds j
known_first ds j e = ap (known_before 0 ds) (sym e)

-- before another, what the one before it knew
pub known_next : (ds : List Reading) (j : ℕ) (d : Reading) → (j ≡ 0 → ⊥) → slice_get ds (j - 1) ≡ Some d → d.known ≡ known_before 0 ds j
known_next ds j d n e = ap (λ (x : Reading). x.known) (sym (reading_is ds (j - 1) d e)) ∙ ap (known_before 0 ds) (let z : suc (j - 1) ≡ j = omega (arith, n) in z)

-- the corner before the first reading is told
pub corner_first : (first : ℕ) (ds : List Reading) (j : ℕ) → j ≡ 0 → first ≡ corner_before first ds j
corner_first first ds j e = ap (corner_before first ds) (sym e)

-- that before another is the corner of the one before it
pub corner_next : (first : ℕ) (ds : List Reading) (j : ℕ) (d : Reading) → (j ≡ 0 → ⊥) → slice_get ds (j - 1) ≡ Some d → d.corner ≡ corner_before first ds j
corner_next first ds j d n e = ap (λ (x : Reading). x.corner) (sym (reading_is ds (j - 1) d e)) ∙ ap (corner_before first ds) (let z : suc (j - 1) ≡ j = omega (arith, n) in z)

-- what is asked of what a reading knows
pub known_is : (i : ℕ) (ds : List Reading) (j before : ℕ) (d : Reading) → slice_get ds j ≡ Some d → before ≡ known_before 0 ds j
    → before ≤ d.known → d.known ≤ i → (suc j ≡ length ds → d.known ≡ i) → IsKnown i ds j
known_is i ds j before d e b l m a = record {
  risen = omega (arith, l, b, ap (λ (x : Reading). x.known) (reading_is ds j d e));
  within = omega (arith, m, ap (λ (x : Reading). x.known) (reading_is ds j d e));
  all_known = λ n. ap (λ (x : Reading). x.known) (reading_is ds j d e) ∙ a n;
}

-- and the other way round
pub known_of : (i : ℕ) (ds : List Reading) (j before : ℕ) (d : Reading) → slice_get ds j ≡ Some d → before ≡ known_before 0 ds j → IsKnown i ds j
    → (before ≤ d.known) × ((d.known ≤ i) × (suc j ≡ length ds → d.known ≡ i))
known_of i ds j before d e b k =
    let z = ap (λ (x : Reading). x.known) (reading_is ds j d e) in
    (omega (arith, k.risen, b, z), (omega (arith, k.within, z), λ n. sym z ∙ k.all_known n))

-- the corner before, by the ranks of the problem
pub before_ranks : (P : Problem) (T : Shape) → HasTable P T → (ds : List Reading) (j n before : ℕ) → n ≡ count T → before ≡ corner_before n ds j → before ≡ corner_before (ranks_of_problem P).n ds j
before_ranks P T t ds j n before e b = b ∙ ap (λ x. corner_before x ds j) (e ∙ sym (all_ranks P T t))

module _ (P : Problem) (entries : List Entry) (i : ℕ) (corners : List ℕ) (h : AreCorners P entries i corners) (ds : List Reading) (j before : ℕ) (d : Reading)
    (e : slice_get ds j ≡ Some d) (b : before ≡ corner_before (ranks_of_problem P).n ds j) (l : (reading_at ds j).known ≤ i) where
  -- the corner of what it knows
  pub own_corner : get_or corners d.known 0 ≡ corner_of (ranks_of_problem P) (first_of (reading_at ds j).known (basis_of entries))
  own_corner = ap (λ k. get_or corners k 0) (sym (ap (λ (x : Reading). x.known) (reading_is ds j d e))) ∙ (h (reading_at ds j).known l).1

  -- what is asked of its corner
  pub corner_is : (low high : ℕ) → low ≡ get_or corners i 0 → high ≡ get_or corners d.known 0 → d.corner ≤ before → d.corner ≤ high → low ≤ d.corner → IsCornerOf (ranks_of_problem P) (basis_of entries) i ds j
  corner_is low high p q x y z =
      let w = ap (λ (r : Reading). r.corner) (reading_is ds j d e) in
      let lowest = (h i (omega arith)).1 in
      record {
        fallen = omega (arith, w, x, b);
        below = omega (arith, w, y, q, own_corner);
        above = omega (arith, w, z, p, lowest);
      }

  -- and the other way round
  pub corner_asks : (low high : ℕ) → low ≡ get_or corners i 0 → high ≡ get_or corners d.known 0 → IsCornerOf (ranks_of_problem P) (basis_of entries) i ds j → (d.corner ≤ before) × ((d.corner ≤ high) × (low ≤ d.corner))
  corner_asks low high p q k =
      let w = ap (λ (r : Reading). r.corner) (reading_is ds j d e) in
      let lowest = (h i (omega arith)).1 in
      (omega (arith, w, k.fallen, b), (omega (arith, w, k.below, q, own_corner), omega (arith, w, k.above, p, lowest)))
