-- What holds of each reading of a list, one by one, and what holds along the list, are the same.
-- Each lemma goes along the readings; what the reading before the first knew, and its corner, are told.
use Rattle.std.proofs.Common.{◌≡◌, ℕ, zero, suc, ◌<◌, ◌≤◌, List, [], ◌∷◌, length, refl, arith}
use Rattle.rank_algebra.specs.Ranks.{Ranks}
use Rattle.entry_code.specs.declared.reading.Reading.{Reading}
use Rattle.rank_algebra.specs.Division.{Basis, first_of, corner_of}
use Rattle.mora_law.specs.Run.{AreOrderly, last_known}
use Rattle.mora_law.specs.Legal.{HaveCorners}
use Rattle.mora_law.proofs.Orderly.{known_le}
use Rattle.cert_check.specs.Checks.{reading_at, known_before, corner_before}

-- reading j knows at least what the one before it knew, and at most i entries, and its corner is at most that of the one before it
pub record IsInOrder (i first w : ℕ) (ds : List Reading) (j : ℕ) : Type 0 where
  pub risen : known_before first ds j ≤ (reading_at ds j).known
  pub within : (reading_at ds j).known ≤ i
  pub fallen : (reading_at ds j).corner ≤ corner_before w ds j

-- behind the first reading each is in order
order_rest : (i first w : ℕ) (d : Reading) (ds : List Reading) (j : ℕ) → IsInOrder i first w (d ∷ ds) (suc j) → IsInOrder i d.known d.corner ds j
order_rest i first w d ds zero h = record { risen = h.risen; within = h.within; fallen = h.fallen }
order_rest i first w d ds (suc j) h = record { risen = h.risen; within = h.within; fallen = h.fallen }

-- and the other way round
order_more : (i first w : ℕ) (d : Reading) (ds : List Reading) (j : ℕ) → IsInOrder i d.known d.corner ds j → IsInOrder i first w (d ∷ ds) (suc j)
order_more i first w d ds zero h = record { risen = h.risen; within = h.within; fallen = h.fallen }
order_more i first w d ds (suc j) h = record { risen = h.risen; within = h.within; fallen = h.fallen }

-- readings that are in order one by one are orderly
pub orderly_from : (i first w : ℕ) (ds : List Reading) → first ≤ i → ((j : ℕ) → j < length ds → IsInOrder i first w ds j) → AreOrderly i first w ds
orderly_from i first w [] l h = l
orderly_from i first w (d ∷ ds) l h =
    let z = h 0 (omega arith) in
    (z.risen, z.fallen, orderly_from i d.known d.corner ds z.within (λ j m. order_rest i first w d ds j (h (suc j) (omega (arith, m)))))

-- and the readings of an orderly list are in order
pub orderly_each : (i first w : ℕ) (ds : List Reading) → AreOrderly i first w ds → (j : ℕ) → j < length ds → IsInOrder i first w ds j
orderly_each i first w [] o j l = absurd (omega (arith, l))
orderly_each i first w (d ∷ ds) o zero l = record { risen = o.0; within = known_le i ds d.known d.corner o.2; fallen = o.1 }
orderly_each i first w (d ∷ ds) o (suc j) l = order_more i first w d ds j (orderly_each i d.known d.corner ds o.2 j (omega (arith, l)))

-- what the last reading knows is what is known at the end
pub last_is : (first : ℕ) (ds : List Reading) (j : ℕ) → suc j ≡ length ds → last_known first ds ≡ (reading_at ds j).known
last_is first [] j e = absurd (omega (arith, e))
last_is first (d ∷ []) zero e = refl
last_is first (d ∷ []) (suc j) e = absurd (omega (arith, e))
last_is first (d ∷ c ∷ ds) zero e = absurd (omega (arith, e))
last_is first (d ∷ c ∷ ds) (suc j) e = last_is d.known (c ∷ ds) j (omega (arith, e))

-- a list that isn't empty has a last place
pub last_place : {X : Type 0} (xs : List X) → 0 < length xs → (j : ℕ) × (suc j ≡ length xs)
last_place [] l = absurd (omega (arith, l))
last_place (x ∷ xs) l = (length xs, refl)

-- the corner of reading j lies between `lowest` and the corner of what it knows
pub record IsBetween (R : Ranks) (B : Basis) (lowest : ℕ) (ds : List Reading) (j : ℕ) : Type 0 where
  pub above : lowest ≤ (reading_at ds j).corner
  pub below : (reading_at ds j).corner ≤ corner_of R (first_of (reading_at ds j).known B)

-- where each does, all do
pub between_from : (R : Ranks) (B : Basis) (lowest : ℕ) (ds : List Reading) → ((j : ℕ) → j < length ds → IsBetween R B lowest ds j) → HaveCorners R B lowest ds
between_from R B lowest [] h = tt
between_from R B lowest (d ∷ ds) h =
    let z = h 0 (omega arith) in
    (z.above, z.below, between_from R B lowest ds (λ j l. let n = h (suc j) (omega (arith, l)) in record { above = n.above; below = n.below }))

-- and where all do, each does
pub between_each : (R : Ranks) (B : Basis) (lowest : ℕ) (ds : List Reading) → HaveCorners R B lowest ds → (j : ℕ) → j < length ds → IsBetween R B lowest ds j
between_each R B lowest [] h j l = absurd (omega (arith, l))
between_each R B lowest (d ∷ ds) h zero l = record { above = h.0; below = h.1 }
between_each R B lowest (d ∷ ds) h (suc j) l = let n = between_each R B lowest ds h.2 j (omega (arith, l)) in record { above = n.above; below = n.below }
