-- Products, quotients and common multiples, read place by place.
-- A list is fixed by what it has at each place, so a front with the right exponents is the monomial.
use Rattle.std.proofs.Common.{◌≡◌, ℕ, zero, suc, ◌+◌, ◌-◌, ◌*◌, ◌<◌, ◌≤◌, max, List, [], ◌∷◌, length, take, get_or, sum, All, refl, ap, sym, ◌∙◌, arith}
use Rattle.std.proofs.lemmas.List.{length-take-le, get_or-take, ext_get_or}
use Rattle.std.proofs.lemmas.List.Elements.{All-from_get_or}
use Rattle.std.proofs.lemmas.List.Sums.{sum_by-cons}
use Rattle.local_order.specs.Mono.{degree, mono_times, mono_quotient, mono_lcm}
use Rattle.local_order.proofs.Order.{length-mono_times, length-mono_quotient}

-- ---- what stands at a place
-- a product has the sum of the exponents
pub get_or-mono_times : (a b : List ℕ) (k : ℕ) → get_or (mono_times a b) k 0 ≡ get_or a k 0 + get_or b k 0
get_or-mono_times [] b k = omega arith
get_or-mono_times (x ∷ a) [] k = omega arith
get_or-mono_times (x ∷ a) (y ∷ b) zero = refl
get_or-mono_times (x ∷ a) (y ∷ b) (suc k) = get_or-mono_times a b k

-- a quotient has the difference of the exponents
pub get_or-mono_quotient : (b a : List ℕ) (k : ℕ) → get_or (mono_quotient b a) k 0 ≡ get_or b k 0 - get_or a k 0
get_or-mono_quotient [] a k = omega arith
get_or-mono_quotient (y ∷ b) [] k = omega arith
get_or-mono_quotient (y ∷ b) (x ∷ a) zero = refl
get_or-mono_quotient (y ∷ b) (x ∷ a) (suc k) = get_or-mono_quotient b a k

-- a least common multiple has the greater of the exponents
pub get_or-mono_lcm : (a b : List ℕ) (k : ℕ) → get_or (mono_lcm a b) k 0 ≡ max (get_or a k 0) (get_or b k 0)
get_or-mono_lcm [] b k = omega arith
get_or-mono_lcm (x ∷ a) [] k = omega arith
get_or-mono_lcm (x ∷ a) (y ∷ b) zero = refl
get_or-mono_lcm (x ∷ a) (y ∷ b) (suc k) = get_or-mono_lcm a b k

-- a least common multiple has as many exponents as the two
pub length-mono_lcm : (a b : List ℕ) → length a ≡ length b → length (mono_lcm a b) ≡ length b
length-mono_lcm [] b e = refl
length-mono_lcm (x ∷ a) [] e = omega arith
length-mono_lcm (x ∷ a) (y ∷ b) e = omega (arith, length-mono_lcm a b (omega arith))

-- ---- fronts
-- a front with the exponents of m is m
front_is : (n : ℕ) (e m : List ℕ) → n ≤ length e → length m ≡ n → ((k : ℕ) → k < n → get_or e k 0 ≡ get_or m k 0) → take n e ≡ m
front_is n e m l long each =
    let short : length (take n e) ≡ n = length-take-le n e l in
    ext_get_or 0 (take n e) m (short ∙ sym long) (λ k i. get_or-take n e k 0 (omega arith) ∙ each k (omega arith))

-- sums at the places of the front make the product of the fronts
pub front_times : (n : ℕ) (e a b : List ℕ) → n ≤ length e → n ≤ length a → n ≤ length b →
    ((k : ℕ) → k < n → get_or e k 0 ≡ get_or a k 0 + get_or b k 0) → take n e ≡ mono_times (take n a) (take n b)
front_times n e a b l la lb each =
    front_is n e (mono_times (take n a) (take n b)) l
    (length-mono_times (take n a) (take n b) (length-take-le n a la ∙ sym (length-take-le n b lb)) ∙ length-take-le n b lb)
    (λ k i. omega (arith, each k i, get_or-mono_times (take n a) (take n b) k, get_or-take n a k 0 i, get_or-take n b k 0 i))

-- differences at the places of the front make the quotient of the fronts
pub front_quotient : (n : ℕ) (e b a : List ℕ) → n ≤ length e → n ≤ length b → n ≤ length a →
    ((k : ℕ) → k < n → get_or e k 0 ≡ get_or b k 0 - get_or a k 0) → take n e ≡ mono_quotient (take n b) (take n a)
front_quotient n e b a l lb la each =
    front_is n e (mono_quotient (take n b) (take n a)) l
    (length-mono_quotient (take n b) (take n a) ∙ length-take-le n b lb)
    (λ k i. omega (arith, each k i, get_or-mono_quotient (take n b) (take n a) k, get_or-take n b k 0 i, get_or-take n a k 0 i))

-- the greater exponents at the places of the front make the least common multiple of the fronts
pub front_lcm : (n : ℕ) (e a b : List ℕ) → n ≤ length e → n ≤ length a → n ≤ length b →
    ((k : ℕ) → k < n → get_or e k 0 ≡ max (get_or a k 0) (get_or b k 0)) → take n e ≡ mono_lcm (take n a) (take n b)
front_lcm n e a b l la lb each =
    front_is n e (mono_lcm (take n a) (take n b)) l
    (length-mono_lcm (take n a) (take n b) (length-take-le n a la ∙ sym (length-take-le n b lb)) ∙ length-take-le n b lb)
    (λ k i. omega (arith, each k i, get_or-mono_lcm (take n a) (take n b) k, get_or-take n a k 0 i, get_or-take n b k 0 i))

-- ---- degrees
-- the degree is the sum
pub sum-degree : (a : List ℕ) → sum a ≡ degree a
sum-degree [] = refl
sum-degree (x ∷ a) = sum_by-cons (λ y. y) x a ∙ ap (λ n. x + n) (sum-degree a)

-- an exponent is at most the degree
pub get_or-le-degree : (a : List ℕ) (k : ℕ) → get_or a k 0 ≤ degree a
get_or-le-degree [] k = omega arith
get_or-le-degree (x ∷ a) zero = omega arith
get_or-le-degree (x ∷ a) (suc k) = omega (arith, get_or-le-degree a k)

-- a degree of at most 1,000 gives exponents of at most 1,000
pub small_from_degree : (a : List ℕ) → degree a ≤ 1000 → All (λ e. e ≤ 1000) a
small_from_degree a l = All-from_get_or (λ e. e ≤ 1000) a 0 (λ k i. omega (arith, get_or-le-degree a k))

-- exponents of at most 1,000 give a degree of at most 1,000 for each variable
pub degree-le : (a : List ℕ) → ((k : ℕ) → get_or a k 0 ≤ 1000) → degree a ≤ 1000 * length a
degree-le [] small = omega arith
degree-le (x ∷ a) small = let head : x ≤ 1000 = small 0 in omega (arith, degree-le a (λ k. small (suc k)))

-- nothing but zeros has degree 0
pub degree_zero : (a : List ℕ) → ((k : ℕ) → get_or a k 0 ≡ 0) → degree a ≡ 0
degree_zero [] zeros = refl
degree_zero (x ∷ a) zeros = let head : x ≡ 0 = zeros 0 in omega (arith, degree_zero a (λ k. zeros (suc k)))

-- zeros past the front add nothing
pub degree_front : (n : ℕ) (e : List ℕ) → ((k : ℕ) → n ≤ k → get_or e k 0 ≡ 0) → degree (take n e) ≡ degree e
degree_front zero e rest = sym (degree_zero e (λ k. rest k (omega arith)))
degree_front (suc n) [] rest = refl
degree_front (suc n) (x ∷ e) rest = ap (λ d. x + d) (degree_front n e (λ k l. rest (suc k) (omega arith)))
