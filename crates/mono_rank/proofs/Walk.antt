-- The next monomial has the next place, so the walk from 1 on comes to each monomial.
-- What its exponents tell is compared variable by variable, from a run of zeros on.
use Rattle.std.proofs.Common.{◌≡◌, ℕ, zero, suc, ◌+◌, ◌<◌, ◌≤◌, ◌⊎◌, List, [], ◌∷◌, length, refl, ap, sym, ◌∙◌, inl, inr, arith}
use Rattle.std.proofs.lemmas.Bool.{cases_lt}
use Rattle.std.proofs.lemmas.List.{length-replicate}
use Rattle.local_order.specs.Mono.{degree, mono_one}
use Rattle.local_order.specs.Order.{IsAbove}
use Rattle.local_order.specs.Count.{monomial_count}
use Rattle.local_order.proofs.Division.{degree-one}
use Rattle.local_order.proofs.Count.{monomial_count-zero}
use Rattle.mono_rank.specs.Rank.{fewer}
use Rattle.mono_rank.specs.Next.{IsNext}
use Rattle.mono_rank.proofs.Pascal.{pascal}
use Rattle.mono_rank.proofs.Places.{below_from, place, count_same, place_sum, place_low, place_above, above_of_place, degree_of_place, same_of_place}
use Rattle.mono_rank.proofs.Steps.{next_first, next_rest, next}

-- the next monomial has as many exponents
pub length-next : (a : List ℕ) → 1 ≤ length a → length (next a) ≡ length a
length-next [] l = absurd (omega arith)
length-next (x ∷ []) l = refl
length-next (zero ∷ y ∷ a) l = omega (arith, length-next (y ∷ a) (omega arith))
length-next (suc x ∷ y ∷ a) l = refl

-- a zero in front tells nothing
zero_front : (i : ℕ) (a : List ℕ) → below_from i 0 (0 ∷ a) ≡ below_from (suc i) 0 a
zero_front i a = let k : 0 + below_from (suc i) 0 a ≡ below_from (suc i) 0 a = omega arith in k

-- what it tells, and what the monomial tells, differ by one step
next_tells : (a : List ℕ) (i n : ℕ) → 1 ≤ length a → n ≡ i + length a →
    monomial_count n (degree (next a)) + below_from i 0 a ≡ monomial_count n (degree a) + (monomial_count i (next_first a) + below_from (suc i) (next_first a) (next_rest a))
next_tells [] i n l e = absurd (omega arith)
next_tells (x ∷ []) i n l e =
    omega (arith, count_same n (suc i) (suc x + 0) (suc x) (omega arith) (omega arith), count_same n (suc i) (x + 0) x (omega arith) (omega arith), pascal i (suc x))
next_tells (zero ∷ y ∷ a) i n l f =
    let whole : monomial_count n (next_first (y ∷ a) + (0 + degree (next_rest (y ∷ a)))) ≡ monomial_count n (next_first (y ∷ a) + degree (next_rest (y ∷ a))) =
    ap (λ k. monomial_count n (next_first (y ∷ a) + k)) (let k : 0 + degree (next_rest (y ∷ a)) ≡ degree (next_rest (y ∷ a)) = omega arith in k) in
    let same : monomial_count n (0 + (y + degree a)) ≡ monomial_count n (y + degree a) =
    ap (monomial_count n) (let k : 0 + (y + degree a) ≡ y + degree a = omega arith in k) in
    let e : ℕ = next_first (y ∷ a) in
    let rest : below_from (suc (suc i)) (e + 0) (next_rest (y ∷ a)) ≡ below_from (suc (suc i)) e (next_rest (y ∷ a)) =
    ap (λ s. below_from (suc (suc i)) s (next_rest (y ∷ a))) (let k : e + 0 ≡ e = omega arith in k) in
    omega (arith, whole, same, rest, zero_front i (y ∷ a), next_tells (y ∷ a) (suc i) n (omega arith) (omega arith), pascal i (next_first (y ∷ a)))
next_tells (suc x ∷ y ∷ a) i n l e =
    let front : fewer (suc i) (0 + suc x) ≡ monomial_count (suc i) x = ap (fewer (suc i)) (let k : 0 + suc x ≡ suc x = omega arith in k) in
    let rest : below_from (suc (suc i)) (0 + suc x + y) a ≡ below_from (suc (suc i)) (x + suc y) a =
    ap (λ s. below_from (suc (suc i)) s a) (let k : 0 + suc x + y ≡ x + suc y = omega arith in k) in
    let whole : monomial_count n (x + (suc y + degree a)) ≡ monomial_count n (suc x + (y + degree a)) =
    ap (monomial_count n) (let k : x + (suc y + degree a) ≡ suc x + (y + degree a) = omega arith in k) in
    omega (arith, front, rest, whole, pascal i x)

-- the next monomial has the next place
pub place-next : (a : List ℕ) → 1 ≤ length a → place (next a) ≡ suc (place a)
place-next [] l = absurd (omega arith)
place-next (x ∷ a) l =
    let from : below_from 1 (0 + x) a ≡ below_from 1 x a = ap (λ s. below_from 1 s a) (let k : 0 + x ≡ x = omega arith in k) in
    let long = length-next (x ∷ a) l in
    omega (
      arith,
      next_tells (x ∷ a) 0 (suc (length a)) l (omega arith),
      from,
      place_sum (x ∷ a) l,
      place_sum (next (x ∷ a)) (omega (arith, long)),
      ap (λ n. monomial_count n (degree (next (x ∷ a)))) long,
    )

-- so the step leads to the greatest of the monomials below
pub step-is_next : (a : List ℕ) → 1 ≤ length a → IsNext a (next a)
step-is_next a l = record {
  in_ring = length-next a l;
  below = above_of_place a (next a) (sym (length-next a l)) l (omega (arith, place-next a l));
  greatest = λ m e h. go m e (place_above a m (sym e) l h) (cases_lt (place (next a)) (place m));
}
  where
    go : (m : List ℕ) → length m ≡ length a → place a < place m → (place (next a) < place m) ⊎ (place m ≤ place (next a)) → (m ≡ next a) ⊎ IsAbove (next a) m
    go m e h (inl k) = inr (above_of_place (next a) m (length-next a l ∙ sym e) (omega (arith, length-next a l)) k)
    go m e h (inr k) = inl (same_of_place m (next a) (e ∙ sym (length-next a l)) (omega (arith, e)) (omega (arith, place-next a l)))

-- and what comes next has the next place
pub place-is_next : (a b : List ℕ) → 1 ≤ length a → IsNext a b → place b ≡ suc (place a)
place-is_next a b l h = go (h.greatest (next a) (length-next a l) (step-is_next a l).below)
  where
    after : place a < place b
    after = place_above a b (sym h.in_ring) l h.below

    go : (next a ≡ b) ⊎ IsAbove b (next a) → place b ≡ suc (place a)
    go (inl e) = omega (arith, ap place e, place-next a l)
    go (inr k) = absurd (omega (arith, after, place-next a l, place_above b (next a) (h.in_ring ∙ sym (length-next a l)) (omega (arith, h.in_ring)) k))

-- ---- the walk
-- the monomial in n variables that is reached from 1 after r steps
abbrev pub walk : ℕ → ℕ → List ℕ
walk n zero = mono_one n
walk n (suc r) = next (walk n r)

-- it has n exponents
pub length-walk : (n r : ℕ) → 1 ≤ n → length (walk n r) ≡ n
length-walk n zero l = let z : ℕ = 0 in length-replicate n z
length-walk n (suc r) l = length-next (walk n r) (omega (arith, length-walk n r l)) ∙ length-walk n r l

-- 1 has place 0
pub place-one : (n : ℕ) → 1 ≤ n → place (mono_one n) ≡ 0
place-one n l =
    let z : ℕ = 0 in
    let long : length (mono_one n) ≡ n = length-replicate n z in
    omega (arith, place_low (mono_one n) (omega (arith, long)), count_same (length (mono_one n)) n (degree (mono_one n)) 0 long (degree-one n), monomial_count-zero n)

-- after r steps the place is r
pub place-walk : (n r : ℕ) → 1 ≤ n → place (walk n r) ≡ r
place-walk n zero l = place-one n l
place-walk n (suc r) l = place-next (walk n r) (omega (arith, length-walk n r l)) ∙ ap suc (place-walk n r l)

-- the degree is low as long as the number of monomials isn't reached
pub degree-walk : (n d r : ℕ) → 1 ≤ n → r < monomial_count n d → degree (walk n r) ≤ d
degree-walk n d r l h =
    degree_of_place (walk n r) d (omega (arith, length-walk n r l)) (omega (arith, place-walk n r l, ap (λ k. monomial_count k d) (length-walk n r l)))

-- each monomial is reached after as many steps as its place tells
pub walk_to : (m : List ℕ) → 1 ≤ length m → walk (length m) (place m) ≡ m
walk_to m l =
    same_of_place (walk (length m) (place m)) m (length-walk (length m) (place m) l) (omega (arith, length-walk (length m) (place m) l)) (place-walk (length m) (place m) l)
