-- The first lead that divides, found lead by lead, and the corner, found from the last rank down.
-- What is found is what the definitions search for; a rank that covers, and before which one has no divisor, is the corner.
use Rattle.std.proofs.Common.{◌≡◌, ℕ, ◌+◌, ◌-◌, ◌<◌, ◌≤◌, ◌⊎◌, List, [], ◌∷◌, ◌++◌, length, get_or, true, false, Option, Some, None, is_some, refl, sym, ◌∙◌, ap, arith, inl, inr, below_more, length-append}
use Rattle.std.specs.Prelude.{option_map, option_and_then}
use Rattle.std.proofs.Math.Seq.{get_or-append_seam}
use Rattle.std.proofs.lemmas.Bool.{cases_lt}
use Rattle.std.proofs.lemmas.List.{get_or_append_left}
use Rattle.local_order.specs.Shape.{Shape, count}
use Rattle.sparse_poly.specs.Shape.{shape_of}
use Rattle.rank_algebra.specs.Ranks.{Ranks, IsRanks}
use Rattle.sparse_poly.specs.Ideal.{Problem}
use Rattle.rank_algebra.specs.Division.{Basis, Hit, divides_at, hit_at, first_lead, IsMultiple, IsCover, corner_of}
use Rattle.mora_law.specs.Ring.{ranks_of_problem, IsAdmissible}
use Rattle.mora_law.proofs.Ring.{ranks_are}
use Rattle.rank_algebra.proofs.First.{first_is, first_none}
use Rattle.rank_algebra.proofs.Corner.{corner_is, corner_least}
use Rattle.rank_algebra.proofs.Searches.{first_found, none_found}
use Rattle.tail_reduce.proofs.Ranked.{ranks_n}
use Rattle.tail_reduce.specs.declared.divisors.Divisor.{Divisor}
use Rattle.tail_reduce.specs.Divisors.{AreLeadsOf, AreFirsts, hit_of}

-- ---- the first lead that divides
-- no lead before the k-th divides
pub record NoneBefore (table : Shape) (leads : List ℕ) (rank k : ℕ) : Type 0 where
  pub is : (P : Problem) (B : Basis) → AreLeadsOf P B table leads → (j : ℕ) → j < k → divides_at (ranks_of_problem P) B rank j ≡ false

-- nor does the k-th
pub none_more : (table : Shape) (leads : List ℕ) (rank k : ℕ) → k < length leads → ((P : Problem) → table ≡ shape_of P → (ranks_of_problem P).quotient rank (get_or leads k 0) ≡ None) →
    NoneBefore table leads rank k → NoneBefore table leads rank (k + 1)
none_more table leads rank k l q n = record {
  is = λ P B h. below_more (λ j. divides_at (ranks_of_problem P) B rank j ≡ false) k (n.is P B h)
      (ap (λ x. is_some ((ranks_of_problem P).quotient rank x)) (h.lead k l) ∙ ap is_some (q P h.table_is));
}

-- the first that does is found
pub found_there : (table : Shape) (leads : List ℕ) (rank k q : ℕ) → k < length leads → ((P : Problem) → table ≡ shape_of P → (ranks_of_problem P).quotient rank (get_or leads k 0) ≡ Some q) →
    NoneBefore table leads rank k → (P : Problem) (B : Basis) → AreLeadsOf P B table leads → first_lead (ranks_of_problem P) B rank ≡ Some (record { place = k; cofactor = q })
unfolding first_lead
found_there table leads rank k q l e n P B h =
    let at : (ranks_of_problem P).quotient rank (B.lead k) ≡ Some q = ap ((ranks_of_problem P).quotient rank) (h.lead k l) ∙ e P h.table_is in
    ap (option_and_then (hit_at (ranks_of_problem P) B rank)) (first_found (divides_at (ranks_of_problem P) B rank) 0 B.size k (omega arith) (omega (arith, h.size)) (ap is_some at) (λ j a b. n.is P B h j b))
    ∙ ap (option_map {U = Hit} (λ x. record { place = k; cofactor = x })) at

-- where none does none is found
pub found_nowhere : (table : Shape) (leads : List ℕ) (rank k : ℕ) → k ≡ length leads → NoneBefore table leads rank k → (P : Problem) (B : Basis) → AreLeadsOf P B table leads →
    first_lead (ranks_of_problem P) B rank ≡ None
unfolding first_lead
found_nowhere table leads rank k e n P B h =
    ap (option_and_then (hit_at (ranks_of_problem P) B rank)) (none_found (divides_at (ranks_of_problem P) B rank) 0 B.size (λ j a b. n.is P B h j (omega (arith, e, h.size))))

-- what is found is an entry, and the quotient has a rank
pub divisor_known : (P : Problem) (B : Basis) (r : ℕ) (hit : Hit) → IsAdmissible P → r < count (shape_of P) → first_lead (ranks_of_problem P) B r ≡ Some hit →
    (hit.place < B.size) × (hit.cofactor < count (shape_of P))
divisor_known P B r hit h l e =
    let L = ranks_are P h in
    let f = first_is (ranks_of_problem P) L B r hit (omega (arith, l, ranks_n P)) e in
    let z : (ranks_of_problem P).times (B.lead hit.place) hit.cofactor ≡ r = L.comm (B.lead hit.place) hit.cofactor ∙ f.is in
    (f.known, omega (arith, l, z, L.le (B.lead hit.place) hit.cofactor (omega (arith, l, z, ranks_n P))))

-- so it is of a stored divisor
pub stored_known : (P : Problem) (B : Basis) (firsts : List (Option Divisor)) (r : ℕ) (d : Divisor) → IsAdmissible P → r < count (shape_of P) →
    AreFirsts (ranks_of_problem P) B (count (shape_of P)) firsts → get_or firsts r None ≡ Some d → (d.place < B.size) × (d.cofactor < count (shape_of P))
stored_known P B firsts r d h l f e = divisor_known P B r (hit_of d) h l (sym (f.each r l) ∙ ap (option_map hit_of) e)

-- ---- rank by rank
-- one rank more
pub firsts_more : (R : Ranks) (B : Basis) (k : ℕ) (firsts : List (Option Divisor)) (o : Option Divisor) → option_map hit_of o ≡ first_lead R B k → AreFirsts R B k firsts → AreFirsts R B (k + 1) (firsts ++ o ∷ [])
firsts_more R B k firsts o e h = record {
  all = length-append firsts (o ∷ []) ∙ (let one : length (o ∷ []) ≡ 1 = refl in omega (arith, h.all, one));
  each = λ r l. go r l (cases_lt r k);
}
  where
    go : (r : ℕ) → r < k + 1 → (r < k) ⊎ (k ≤ r) → option_map hit_of (get_or (firsts ++ o ∷ []) r None) ≡ first_lead R B r
    go r l (inl m) = ap (option_map hit_of) (get_or_append_left firsts (o ∷ []) None r (omega (arith, h.all))) ∙ h.each r m
    go r l (inr m) =
        let z : length firsts ≡ r = omega (arith, h.all) in
        let y : k ≡ r = omega arith in
        ap (λ x. option_map hit_of (get_or (firsts ++ o ∷ []) x None)) (sym z) ∙ ap (option_map hit_of) (get_or-append_seam firsts o [] None) ∙ e ∙ ap (first_lead R B) y

-- ---- the corner
-- every rank from `corner` on has a divisor
pub record CornerTo (firsts : List (Option Divisor)) (count corner : ℕ) : Type 0 where
  pub low : corner ≤ count
  pub each : (r : ℕ) → corner ≤ r → r < count → is_some (get_or firsts r None) ≡ true

-- it goes down past a rank with a divisor
pub corner_down : (firsts : List (Option Divisor)) (count corner : ℕ) → is_some (get_or firsts (corner - 1) None) ≡ true → CornerTo firsts count corner → CornerTo firsts count (corner - 1)
corner_down firsts count corner e h = record { low = omega (arith, h.low); each = λ r m n. go r n m (cases_lt r corner) }
  where
    go : (r : ℕ) → r < count → corner - 1 ≤ r → (r < corner) ⊎ (corner ≤ r) → is_some (get_or firsts r None) ≡ true
    go r n m (inl k) = let z : corner - 1 ≡ r = omega arith in ap (λ x. is_some (get_or firsts x None)) (sym z) ∙ e
    go r n m (inr k) = h.each r k n

-- where nothing is stored, no lead is found
none_stored : (R : Ranks) (B : Basis) (firsts : List (Option Divisor)) (count r : ℕ) → AreFirsts R B count firsts → r < count → is_some (get_or firsts r None) ≡ false → first_lead R B r ≡ None
none_stored R B firsts count r f l e = go (get_or firsts r None) e (f.each r l)
  where
    go : (o : Option Divisor) → is_some o ≡ false → option_map hit_of o ≡ first_lead R B r → first_lead R B r ≡ None
    go None e g = sym g
    go (Some d) e g = absurd (cc e)

-- every rank from there on is that of a multiple
covers : (R : Ranks) (B : Basis) (firsts : List (Option Divisor)) (count corner : ℕ) → IsRanks R → R.n ≡ count → AreFirsts R B count firsts → CornerTo firsts count corner → IsCover R B corner
covers R B firsts count corner L e f h = record {
  within = omega (arith, h.low, e);
  covers = λ r l m. go r m (get_or firsts r None) (h.each r l (omega (arith, m, e))) (f.each r (omega (arith, m, e)));
}
  where
    go : (r : ℕ) → r < R.n → (o : Option Divisor) → is_some o ≡ true → option_map hit_of o ≡ first_lead R B r → IsMultiple R B r
    go r m None t g = absurd (cc t)
    go r m (Some d) t g = let x = first_is R L B r (hit_of d) m (sym g) in record { place = d.place; cofactor = d.cofactor; known = x.known; is = x.is }

-- so where it is the first, or nothing is stored just before it, it is the corner
pub corner_there : (R : Ranks) (B : Basis) (firsts : List (Option Divisor)) (count corner : ℕ) → IsRanks R → R.n ≡ count → AreFirsts R B count firsts → CornerTo firsts count corner →
    (0 < corner → is_some (get_or firsts (corner - 1) None) ≡ false) → corner ≡ corner_of R B
corner_there R B firsts count corner L e f h stop = go (cases_lt (corner_of R B) corner)
  where
    go : (corner_of R B < corner) ⊎ (corner ≤ corner_of R B) → corner ≡ corner_of R B
    go (inl l) =
        let low : corner - 1 < count = omega (arith, h.low) in
        let last : corner - 1 < R.n = omega (arith, low, e) in
        absurd (first_none R L B (corner - 1) last (none_stored R B firsts count (corner - 1) f low (stop (omega (arith, l)))) ((corner_is R L B).covers (corner - 1) (omega (arith, l)) last))
    go (inr l) = omega (arith, l, corner_least R L B corner (covers R B firsts count corner L e f h))
