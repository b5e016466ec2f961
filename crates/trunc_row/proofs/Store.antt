-- Rows that stand one after another in a list: the row at a place, and one more row at the end.
-- The first row is taken off, and the others stand one after another in what is left.
use Rattle.std.proofs.Common.{◌≡◌, ℕ, zero, suc, ◌+◌, ◌*◌, ◌<◌, ◌≤◌, List, [], ◌∷◌, ◌++◌, length, take, drop, Some, slice_get, refl, ap, ap₂, sym, ◌∙◌, arith}
use Rattle.std.proofs.Math.Nat
use Rattle.std.proofs.Math.Seq.{take-length}
use Rattle.std.proofs.lemmas.List.{drop-drop, take-append-le, drop-append-le, length-drop, length-take-le}
use Rattle.trunc_row.specs.Stored.{rows_of}

-- so many rows are so many
pub length-rows_of : (w count : ℕ) (s : List ℕ) → length (rows_of w count s) ≡ count
length-rows_of w zero s = refl
length-rows_of w (suc count) s = ap suc (length-rows_of w count (drop w s))

-- the row at a place
pub rows_of-at : (w count i : ℕ) (s : List ℕ) → i < count → slice_get (rows_of w count s) i ≡ Some (take w (drop (i * w) s))
rows_of-at w zero i s l = absurd (omega arith)
rows_of-at w (suc count) zero s l = ap (λ k. Some (take w (drop k s))) (let e : 0 ≡ 0 * w = omega arith in e)
rows_of-at w (suc count) (suc i) s l =
    rows_of-at w count i (drop w s) (omega arith)
    ∙ ap (λ t. Some (take w t)) (drop-drop (i * w) w s)
    ∙ ap (λ k. Some (take w (drop k s))) (let e : w + i * w ≡ suc i * w = omega (arith, Nat.suc-mul i w) in e)

-- a row behind the list is one more row
pub rows_of-more : (w count : ℕ) (s row : List ℕ) → length s ≡ count * w → length row ≡ w → rows_of w (suc count) (s ++ row) ≡ rows_of w count s ++ row ∷ []
rows_of-more w zero [] row e f = ap (λ t. t ∷ []) (ap (λ k. take k row) (sym f) ∙ take-length row)
rows_of-more w zero (x ∷ s) row e f = absurd (omega (arith, e))
rows_of-more w (suc count) s row e f =
    let room : w ≤ length s = omega (arith, e, Nat.suc-mul count w) in
    let rest : length (drop w s) ≡ count * w = omega (arith, length-drop w s, e, Nat.suc-mul count w) in
    ap₂ (λ a b. a ∷ b) (take-append-le w s row room)
    (ap (rows_of w (suc count)) (drop-append-le w s row room) ∙ rows_of-more w count (drop w s) row rest f)

-- the same with the count that the code has
pub rows_of-push : (w count : ℕ) (s row : List ℕ) → length s ≡ count * w → length row ≡ w → rows_of w (count + 1) (s ++ row) ≡ rows_of w count s ++ row ∷ []
rows_of-push w count s row e f = ap (λ k. rows_of w k (s ++ row)) (let q : count + 1 ≡ suc count = omega arith in q) ∙ rows_of-more w count s row e f

-- a row ends within the list
pub row_within : (w count i : ℕ) → i < count → i * w + w ≤ count * w
row_within w count i l = omega (arith, Nat.suc-mul i w, Nat.mul-le-mul_right {m = suc i} {n = count} w l)

-- a row has its width
pub length-row : (w k : ℕ) (s : List ℕ) → k + w ≤ length s → length (take w (drop k s)) ≡ w
length-row w k s l = length-take-le w (drop k s) (omega (arith, length-drop k s))
