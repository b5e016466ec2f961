-- What is known of stored monomials, and when new exponents are stored again.
-- Sums, differences and greater exponents of two stored monomials are stored, and are seen as product, quotient and multiple.
use Rattle.std.proofs.Common.{◌≡◌, ℕ, ◌+◌, ◌-◌, ◌<◌, ◌≤◌, max, List, ◌++◌, length, take, drop, replicate, get_or, sum, All, refl, ap, sym, ◌∙◌, ⊎_elim, subst, arith}
use Rattle.std.proofs.Math.Path.{ap₂}
use Rattle.std.proofs.lemmas.Bool.{cases_lt}
use Rattle.std.proofs.lemmas.List.{length-append, length-drop, take_at, get_or-take, get_or-append_right, get_or-drop, get_or_past}
use Rattle.std.proofs.lemmas.List.Elements.{All-from_get_or, All-append, All-drop, All-replicate}
use Rattle.local_order.specs.Mono.{degree, mono_times, mono_quotient, mono_lcm, Divides, IsWithinLimits}
use Rattle.local_order.specs.Stored.{IsStored, length_front, zero_at}
use Rattle.local_order.proofs.Order.{degree-mono_times}
use Rattle.local_order.proofs.Division.{Divides-from_places}
use Rattle.local_order.proofs.Places.{front_times, front_quotient, front_lcm, sum-degree, degree-le, degree_front}

-- a list of exponents of at most 1,000 has no more at any place
pub All-small_at : (v : List ℕ) → All (λ e. e ≤ 1000) v → (k : ℕ) → get_or v k 0 ≤ 1000
All-small_at v h k =
    ⊎_elim
    (λ (l : k < length v). h k 0 l)
    (λ (l : length v ≤ k). let past : get_or v k 0 ≡ 0 = get_or_past v k 0 l in omega arith)
    (cases_lt k (length v))

-- up to eight exponents of at most 1,000 add up to at most 8,000
pub sum_small : (v : List ℕ) → length v ≤ 8 → All (λ e. e ≤ 1000) v → sum v ≤ 8000
sum_small v few small = omega (arith, sum-degree v, degree-le v (All-small_at v small))

-- ---- one stored monomial
-- the degree is at most 8,000
pub total_small : {a : List ℕ} {n c : ℕ} → IsStored a n c → c ≤ 8000
total_small {a} {n} {c} s =
    omega (arith, degree-le a (All-small_at a s.small), degree_front n a s.rest, s.total_is, s.full)

-- what a contract sees has the degree that is stored
pub degree_is : {a v : List ℕ} {n c : ℕ} → IsStored a n c → take n a ≡ v → degree v ≡ c
degree_is s e = ap degree (sym e) ∙ s.total_is

-- what a contract sees has at each place what is stored there
pub view_at : {a v : List ℕ} {n c : ℕ} → IsStored a n c → take n a ≡ v → (k : ℕ) → get_or v k 0 ≡ get_or a k 0
view_at {a} {v} {n} {c} s e k =
    ap (λ w. get_or w k 0) (sym e)
    ∙ ⊎_elim
    (λ (l : k < n). get_or-take n a k 0 l)
    (λ (l : n ≤ k). get_or_past (take n a) k 0 (omega (arith, length_front a n c s)) ∙ sym (s.rest k l))
    (cases_lt k n)

-- ---- two stored monomials
-- two monomials of n variables, seen as v and w
pub record AreStored (a b v w : List ℕ) (n c d : ℕ) : Type 0 where
  pub first : IsStored a n c
  pub second : IsStored b n d
  pub first_is : take n a ≡ v
  pub second_is : take n b ≡ w

-- two stored monomials that are seen with as many exponents have one number of variables
pub both_stored : {a b v w : List ℕ} {n m c d : ℕ} → IsStored a n c → take n a ≡ v → IsStored b m d → take m b ≡ w → length v ≡ length w → AreStored a b v w n c d
both_stored {a} {b} {v} {w} {n} {m} {c} {d} s av t bw e = record {
  first = s;
  second = subst (λ k. IsStored b k d) one t;
  first_is = av;
  second_is = ap (λ k. take k b) (sym one) ∙ bw;
}
  where
    one : m ≡ n
    one = omega (arith, length_front a n c s, ap length av, length_front b m d t, ap length bw, e)

-- zeros stand behind the front where they do up to the last place
zeros_behind : (e : List ℕ) (n : ℕ) → length e ≡ 8 → ((k : ℕ) → k < 8 → n ≤ k → get_or e k 0 ≡ 0) → (k : ℕ) → n ≤ k → get_or e k 0 ≡ 0
zeros_behind e n full each k l =
    ⊎_elim (λ (i : k < 8). each k i l) (λ (i : 8 ≤ k). get_or_past e k 0 (omega (arith, full))) (cases_lt k 8)

-- sums are seen as the product
pub product_is : {a b v w : List ℕ} {n c d : ℕ} (e : List ℕ) → AreStored a b v w n c d → length e ≡ 8 →
    ((k : ℕ) → k < 8 → get_or e k 0 ≡ get_or a k 0 + get_or b k 0) → take n e ≡ mono_times v w
product_is {a} {b} {v} {w} {n} e s full each =
    let few : n ≤ 8 = s.first.few in
    front_times n e a b (omega arith) (omega (arith, s.first.full)) (omega (arith, s.second.full)) (λ k i. each k (omega arith))
    ∙ ap₂ mono_times s.first_is s.second_is

-- sums of at most 1,000 are stored with the sum of the degrees
pub product_stored : {a b v w : List ℕ} {n c d : ℕ} (e : List ℕ) → AreStored a b v w n c d → length e ≡ 8 →
    ((k : ℕ) → k < 8 → get_or e k 0 ≡ get_or a k 0 + get_or b k 0) → ((k : ℕ) → k < 8 → get_or e k 0 ≤ 1000) → IsStored e n (c + d)
product_stored {a} {b} {v} {w} {n} e s full each small = record {
  full = full;
  some = s.first.some;
  few = s.first.few;
  rest = zeros_behind e n full (λ k i l. omega (arith, each k i, s.first.rest k l, s.second.rest k l));
  small = All-from_get_or (λ x. x ≤ 1000) e 0 (λ k i. small k (omega arith));
  total_is = omega (arith, ap degree (product_is e s full each), degree-mono_times v w, ap degree s.first_is, ap degree s.second_is, s.first.total_is, s.second.total_is);
}

-- differences are seen as the quotient
pub quotient_is : {a b v w : List ℕ} {n c d : ℕ} (e : List ℕ) → AreStored a b v w n c d → length e ≡ 8 →
    ((k : ℕ) → k < 8 → get_or e k 0 ≡ get_or a k 0 - get_or b k 0) → take n e ≡ mono_quotient v w
quotient_is {a} {b} {v} {w} {n} e s full each =
    let few : n ≤ 8 = s.first.few in
    front_quotient n e a b (omega arith) (omega (arith, s.first.full)) (omega (arith, s.second.full)) (λ k i. each k (omega arith))
    ∙ ap₂ mono_quotient s.first_is s.second_is

-- a monomial with at most the exponent of another at each place divides it
pub quotient_divides : {a b v w : List ℕ} {n c d : ℕ} → AreStored a b v w n c d → ((k : ℕ) → k < 8 → get_or b k 0 ≤ get_or a k 0) → Divides w v
quotient_divides {a} {b} {v} {w} {n} {c} {d} s divides =
    let front : length v ≡ n = ap length (sym s.first_is) ∙ length_front a n c s.first in
    let its : length w ≡ n = ap length (sym s.second_is) ∙ length_front b n d s.second in
    let few : n ≤ 8 = s.first.few in
    Divides-from_places w v (its ∙ sym front) (λ k l. omega (arith, divides k (omega arith), view_at s.first s.first_is k, view_at s.second s.second_is k))

-- a monomial that has the greater exponent at each place has the degree of the other and of the quotient
pub quotient_total : {a b v w : List ℕ} {n c d : ℕ} (e : List ℕ) → AreStored a b v w n c d → length e ≡ 8 →
    ((k : ℕ) → k < 8 → get_or e k 0 ≡ get_or a k 0 - get_or b k 0) → ((k : ℕ) → k < 8 → get_or b k 0 ≤ get_or a k 0) → degree (take n e) + d ≡ c
quotient_total {a} {b} {v} {w} {n} e s full each divides =
    let few : n ≤ 8 = s.first.few in
    let back : take n a ≡ mono_times (take n e) (take n b) = front_times n a e b (omega (arith, s.first.full)) (omega arith) (omega (arith, s.second.full)) (λ k i. omega (arith, each k (omega arith), divides k (omega arith))) in
    omega (arith, ap degree back, degree-mono_times (take n e) (take n b), s.first.total_is, s.second.total_is)

-- differences are stored with the difference of the degrees
pub quotient_stored : {a b v w : List ℕ} {n c d : ℕ} (e : List ℕ) → AreStored a b v w n c d → length e ≡ 8 →
    ((k : ℕ) → k < 8 → get_or e k 0 ≡ get_or a k 0 - get_or b k 0) → ((k : ℕ) → k < 8 → get_or b k 0 ≤ get_or a k 0) → IsStored e n (c - d)
quotient_stored {a} {b} {v} {w} {n} e s full each divides = record {
  full = full;
  some = s.first.some;
  few = s.first.few;
  rest = zeros_behind e n full (λ k i l. omega (arith, each k i, s.first.rest k l));
  small = All-from_get_or (λ x. x ≤ 1000) e 0 (λ k i. omega (arith, each k (omega arith), All-small_at a s.first.small k));
  total_is = omega (arith, quotient_total e s full each divides);
}

-- the greater exponents are seen as the least common multiple
pub lcm_is : {a b v w : List ℕ} {n c d : ℕ} (e : List ℕ) → AreStored a b v w n c d → length e ≡ 8 →
    ((k : ℕ) → k < 8 → get_or e k 0 ≡ max (get_or a k 0) (get_or b k 0)) → take n e ≡ mono_lcm v w
lcm_is {a} {b} {v} {w} {n} e s full each =
    let few : n ≤ 8 = s.first.few in
    front_lcm n e a b (omega arith) (omega (arith, s.first.full)) (omega (arith, s.second.full)) (λ k i. each k (omega arith))
    ∙ ap₂ mono_lcm s.first_is s.second_is

-- the greater exponents are stored with their sum
pub lcm_stored : {a b v w : List ℕ} {n c d : ℕ} (e : List ℕ) → AreStored a b v w n c d → length e ≡ 8 →
    ((k : ℕ) → k < 8 → get_or e k 0 ≡ max (get_or a k 0) (get_or b k 0)) → IsStored e n (sum e)
lcm_stored {a} {b} {v} {w} {n} e s full each = record {
  full = full;
  some = s.first.some;
  few = s.first.few;
  rest = rest;
  small = All-from_get_or (λ x. x ≤ 1000) e 0 (λ k i. omega (arith, each k (omega arith), All-small_at a s.first.small k, All-small_at b s.second.small k));
  total_is = degree_front n e rest ∙ sym (sum-degree e);
}
  where
    rest : (k : ℕ) → n ≤ k → get_or e k 0 ≡ 0
    rest = zeros_behind e n full (λ k i l. omega (arith, each k i, s.first.rest k l, s.second.rest k l))

-- ---- new monomials
-- exponents before the rest of eight zeros are stored with their sum
pub new_stored : (v : List ℕ) → IsWithinLimits v → let z : ℕ = 0 in IsStored (v ++ drop (length v) (replicate 8 z)) (length v) (sum v)
new_stored v m = record {
  full = let z : ℕ = 0 in omega (arith, length-append v (drop (length v) (replicate 8 z)), length-drop (length v) (replicate 8 z));
  some = m.0;
  few = m.1;
  rest = rest;
  small = All-append (λ e. e ≤ 1000) v _ m.2 (All-drop (λ e. e ≤ 1000) (length v) _ (All-replicate (λ e. e ≤ 1000) 8 0 (omega arith)));
  total_is = ap degree (take_at v _ (length v) refl) ∙ sym (sum-degree v);
}
  where
    rest : (k : ℕ) → length v ≤ k → let z : ℕ = 0 in get_or (v ++ drop (length v) (replicate 8 z)) k z ≡ z
    rest k l =
        let z : ℕ = 0 in
        get_or-append_right v (drop (length v) (replicate 8 z)) (length v) k z refl l
        ∙ get_or-drop (length v) (replicate 8 z) (k - length v) z
        ∙ zero_at 8 (length v + (k - length v))
