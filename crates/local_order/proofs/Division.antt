-- Divisibility and coprimality, read place by place.
-- A divisor has the lesser exponent at each place, and coprime monomials have a 0 at each place.
use Rattle.std.proofs.Common.{◌≡◌, ℕ, zero, suc, ◌+◌, ◌<◌, ◌≤◌, ◌≢◌, ◌⊎◌, ◌↔◌, List, [], ◌∷◌, length, get_or, set, replicate, true, IsTrue, ◌||◌, eqb, refl, ap, sym, ◌∙◌, inl, inr, ⊎_elim, subst, arith, add-zero}
use Rattle.std.proofs.Math.Path.{ap₂}
use Rattle.std.proofs.lemmas.Bool.{cases_lt, cases_eq, and_parts, and_from, or_cases, or_left, or_right, eqb-true, eq-eqb}
use Rattle.std.proofs.lemmas.List.{ext_get_or, get_or_past, get_or-replicate, get_or-set_same, get_or-set_other, length-set, length-replicate}
use Rattle.local_order.specs.Mono.{degree, mono_one, mono_times, mono_quotient, mono_lcm, Divides, IsCoprime, divides, coprime}
use Rattle.local_order.specs.Order.{IsAbove}
use Rattle.local_order.specs.Stored.{zero_at}
use Rattle.local_order.proofs.Order.{degree-mono_times, length-mono_times, length-mono_quotient, mono_times-mono_quotient, divides-mono_times, mono_times_comm}
use Rattle.local_order.proofs.Places.{get_or-mono_times, get_or-mono_quotient, get_or-mono_lcm, length-mono_lcm, get_or-le-degree, degree_zero}

-- ---- divisors
-- where each exponent of a is at most that of b, the quotient times a is b
pub mono_times-mono_quotient_by_places : (a b : List ℕ) → length a ≡ length b → ((k : ℕ) → k < length b → get_or a k 0 ≤ get_or b k 0) → b ≡ mono_times a (mono_quotient b a)
mono_times-mono_quotient_by_places a b e each =
    let long : length (mono_times a (mono_quotient b a)) ≡ length b = length-mono_times a (mono_quotient b a) (e ∙ sym (length-mono_quotient b a)) ∙ length-mono_quotient b a in
    ext_get_or 0 b (mono_times a (mono_quotient b a)) (sym long)
    (λ k l. omega (arith, each k l, get_or-mono_times a (mono_quotient b a) k, get_or-mono_quotient b a k))

-- then a divides b
pub Divides-from_places : (a b : List ℕ) → length a ≡ length b → ((k : ℕ) → k < length b → get_or a k 0 ≤ get_or b k 0) → Divides a b
Divides-from_places a b e each = (mono_quotient b a, length-mono_quotient b a, mono_times-mono_quotient_by_places a b e each)

-- each exponent of a divisor is at most that of the multiple
pub places_from_Divides : (a b : List ℕ) → Divides a b → (k : ℕ) → get_or a k 0 ≤ get_or b k 0
places_from_Divides a b d k = omega (arith, ap (λ m. get_or m k 0) d.2, get_or-mono_times a d.0 k)

-- ---- coprime monomials
-- where each place has a 0 in one of the two, only 1 divides both
pub IsCoprime-from_places : (a b : List ℕ) → ((k : ℕ) → k < length a → (get_or a k 0 ≡ 0) ⊎ (get_or b k 0 ≡ 0)) → IsCoprime a b
IsCoprime-from_places a b each c e f g = degree_zero c (λ k. at k (cases_lt k (length a)))
  where
    both : (k : ℕ) → (get_or a k 0 ≡ 0) ⊎ (get_or b k 0 ≡ 0) → get_or c k 0 ≡ 0
    both k (inl z) = omega (arith, places_from_Divides c a f k)
    both k (inr z) = omega (arith, places_from_Divides c b g k)

    at : (k : ℕ) → (k < length a) ⊎ (length a ≤ k) → get_or c k 0 ≡ 0
    at k (inl l) = both k (each k l)
    at k (inr l) = get_or_past c k 0 (omega arith)

-- the variable at place k of n
variable : (n k : ℕ) → List ℕ
variable n k = let z : ℕ = 0 in set (replicate n z) k 1

-- it has n exponents
length-variable : (n k : ℕ) → length (variable n k) ≡ n
unfolding variable
length-variable n k = let z : ℕ = 0 in length-set (replicate n z) k 1 ∙ length-replicate n z

-- of which that at place k is 1
variable_at : (n k : ℕ) → k < n → get_or (variable n k) k 0 ≡ 1
unfolding variable
variable_at n k l = let z : ℕ = 0 in get_or-set_same (replicate n z) k 1 0 (omega (arith, length-replicate n z))

-- a variable divides each monomial that it occurs in
variable_divides : (a : List ℕ) (k : ℕ) → k < length a → 0 < get_or a k 0 → Divides (variable (length a) k) a
unfolding variable
variable_divides a k l some = Divides-from_places (variable (length a) k) a (length-variable (length a) k) each
  where
    zeros : List ℕ
    zeros = let z : ℕ = 0 in replicate (length a) z

    other : (j : ℕ) → j < length a → (j ≡ k → ⊥) → get_or (set zeros k 1) j 0 ≤ get_or a j 0
    other j i n = let z : ℕ = 0 in omega (arith, get_or-set_other zeros k j 1 0 n, get_or-replicate (length a) j z z i)

    each : (j : ℕ) → j < length a → get_or (set zeros k 1) j 0 ≤ get_or a j 0
    each j i =
        ⊎_elim
        (λ (e : j ≡ k). subst (λ x. get_or (set zeros k 1) x 0 ≤ get_or a x 0) (sym e) (omega (arith, variable_at (length a) k l)))
        (λ (n : j ≡ k → ⊥). other j i n)
        (cases_eq j k)

-- coprime monomials have a 0 at each place in one of the two
pub places_from_IsCoprime : (a b : List ℕ) → length a ≡ length b → IsCoprime a b → (k : ℕ) → k < length a → (get_or a k 0 ≡ 0) ⊎ (get_or b k 0 ≡ 0)
places_from_IsCoprime a b e h k l = go (cases_lt 0 (get_or a k 0)) (cases_lt 0 (get_or b k 0))
  where
    both : 0 < get_or a k 0 → 0 < get_or b k 0 → ⊥
    both p q =
        let u : List ℕ = variable (length a) k in
        let v : Divides u b = subst (λ n. Divides (variable n k) b) (sym e) (variable_divides b k (omega arith) q) in
        omega (arith, h u (length-variable (length a) k) (variable_divides a k l p) v, get_or-le-degree u k, variable_at (length a) k l)

    go : (0 < get_or a k 0) ⊎ (get_or a k 0 ≤ 0) → (0 < get_or b k 0) ⊎ (get_or b k 0 ≤ 0) → (get_or a k 0 ≡ 0) ⊎ (get_or b k 0 ≡ 0)
    go (inr z) y = inl (omega arith)
    go (inl p) (inr z) = inr (omega arith)
    go (inl p) (inl q) = absurd (both p q)

-- ---- the least common multiple
-- it is a multiple of the first
pub Divides_lcm-left : (a b : List ℕ) → length a ≡ length b → Divides a (mono_lcm a b)
Divides_lcm-left a b e =
    Divides-from_places a (mono_lcm a b) (e ∙ sym (length-mono_lcm a b e)) (λ k l. omega (arith, get_or-mono_lcm a b k))

-- it is a multiple of the second
pub Divides_lcm-right : (a b : List ℕ) → length a ≡ length b → Divides b (mono_lcm a b)
Divides_lcm-right a b e =
    Divides-from_places b (mono_lcm a b) (sym (length-mono_lcm a b e)) (λ k l. omega (arith, get_or-mono_lcm a b k))

-- it divides each common multiple
pub lcm_divides : (a b m : List ℕ) → length a ≡ length b → length m ≡ length b → Divides a m → Divides b m → Divides (mono_lcm a b) m
lcm_divides a b m e f g h =
    Divides-from_places (mono_lcm a b) m (length-mono_lcm a b e ∙ sym f)
    (λ k l. omega (arith, get_or-mono_lcm a b k, places_from_Divides a m g k, places_from_Divides b m h k))

-- ---- 1
-- 1 has degree 0
pub degree-one : (n : ℕ) → degree (mono_one n) ≡ 0
degree-one n = degree_zero (mono_one n) (zero_at n)

-- only 1 has degree 0
pub one_of_degree : (a : List ℕ) → degree a ≡ 0 → a ≡ mono_one (length a)
one_of_degree a e =
    let z : ℕ = 0 in
    ext_get_or z a (replicate (length a) z) (sym (length-replicate (length a) z)) (λ k l. omega (arith, get_or-le-degree a k, zero_at (length a) k))

-- a product with 1 is the other factor
pub mono_times-one : (a : List ℕ) → mono_times a (mono_one (length a)) ≡ a
mono_times-one [] = refl
mono_times-one (x ∷ a) = ap₂ ◌∷◌ (add-zero x) (mono_times-one a)

-- on either side
pub one_times : (n : ℕ) (a : List ℕ) → length a ≡ n → mono_times (mono_one n) a ≡ a
one_times n a e = mono_times_comm (mono_one n) a ∙ ap (λ k. mono_times a (mono_one k)) (sym e) ∙ mono_times-one a

-- ---- division and the order
-- 1 is above each other monomial
pub one_above : (n : ℕ) (a : List ℕ) → length a ≡ n → a ≢ mono_one n → IsAbove (mono_one n) a
one_above n a e other = inl (omega (arith, degree-one n, some (cases_lt 0 (degree a))))
  where
    some : (0 < degree a) ⊎ (degree a ≤ 0) → 0 < degree a
    some (inl l) = l
    some (inr l) = absurd (other (one_of_degree a (omega arith) ∙ ap mono_one e))

-- a divisor is the monomial itself or above it
pub divisor_above : (a b : List ℕ) → length a ≡ length b → Divides a b → (a ≡ b) ⊎ IsAbove a b
divisor_above a b e d = go (cases_lt 0 (degree d.0))
  where
    whole : degree b ≡ degree a + degree d.0
    whole = ap degree d.2 ∙ degree-mono_times a d.0

    trivial : degree d.0 ≤ 0 → a ≡ b
    trivial l =
        let one : d.0 ≡ mono_one (length a) = one_of_degree d.0 (omega arith) ∙ ap mono_one (d.1 ∙ sym e) in
        sym (mono_times-one a) ∙ ap (mono_times a) (sym one) ∙ sym d.2

    go : (0 < degree d.0) ⊎ (degree d.0 ≤ 0) → (a ≡ b) ⊎ IsAbove a b
    go (inl l) = inr (inl (omega (arith, whole)))
    go (inr l) = inl (trivial l)

-- ---- the tests
-- the test of divisibility decides it
pub divides_iff : (a b : List ℕ) → length a ≡ length b → IsTrue (divides a b) ↔ Divides a b
divides_iff a b e = (
  λ t. (mono_quotient b a, length-mono_quotient b a, mono_times-mono_quotient a b e t),
  λ d. subst (λ m. divides a m ≡ true) (sym d.2) (divides-mono_times a d.0 (d.1 ∙ sym e)),
)

-- the test of coprimality finds a 0 at each place
coprime_places : (a b : List ℕ) → coprime a b ≡ true → (k : ℕ) → k < length a → (get_or a k 0 ≡ 0) ⊎ (get_or b k 0 ≡ 0)
coprime_places [] b t k l = absurd (omega arith)
coprime_places (x ∷ a) [] t k l = inr refl
coprime_places (x ∷ a) (y ∷ b) t zero l = go (or_cases (eqb x 0) (eqb y 0) (and_parts (eqb x 0 || eqb y 0) (coprime a b) t).0)
  where
    go : (eqb x 0 ≡ true) ⊎ (eqb y 0 ≡ true) → (x ≡ 0) ⊎ (y ≡ 0)
    go (inl h) = inl (eqb-true x 0 h)
    go (inr h) = inr (eqb-true y 0 h)
coprime_places (x ∷ a) (y ∷ b) t (suc k) l = coprime_places a b (and_parts (eqb x 0 || eqb y 0) (coprime a b) t).1 k (omega arith)

-- a 0 at each place passes the test of coprimality
coprime_test : (a b : List ℕ) → ((k : ℕ) → k < length a → (get_or a k 0 ≡ 0) ⊎ (get_or b k 0 ≡ 0)) → coprime a b ≡ true
coprime_test [] b each = refl
coprime_test (x ∷ a) [] each = refl
coprime_test (x ∷ a) (y ∷ b) each =
    and_from (eqb x 0 || eqb y 0) (coprime a b) (go (each 0 (omega arith))) (coprime_test a b (λ k l. each (suc k) (omega arith)))
  where
    go : (x ≡ 0) ⊎ (y ≡ 0) → (eqb x 0 || eqb y 0) ≡ true
    go (inl h) = or_left (eqb x 0) (eqb y 0) (eq-eqb x 0 h)
    go (inr h) = or_right (eqb x 0) (eqb y 0) (eq-eqb y 0 h)

-- the test of coprimality decides it
pub coprime_iff : (a b : List ℕ) → length a ≡ length b → IsTrue (coprime a b) ↔ IsCoprime a b
coprime_iff a b e =
    (λ t. IsCoprime-from_places a b (coprime_places a b t), λ c. coprime_test a b (places_from_IsCoprime a b e c))
