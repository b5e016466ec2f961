-- The laws of products of monomials, of the order ds and of division, by induction on the lists of exponents.
-- First products, then the order and its tests, then divisors and quotients.
use Rattle.std.proofs.Common.{◌≡◌, ℕ, suc, ◌+◌, ◌-◌, ◌<◌, ◌≤◌, ◌≢◌, ◌⊎◌, List, [], ◌∷◌, length, Bool, true, false, ◌&&◌, eqb, ltb, leb, refl, ap, sym, ◌∙◌, inl, inr, ⊎_elim, subst, arith}
use Rattle.std.proofs.lemmas.Bool.{cases_lt, and_parts, and_from, or_cases, or_left, or_right, ltb-true, lt-ltb, leb-true, le-leb, eqb-true, eq-eqb}
use Rattle.local_order.specs.Mono.{degree, mono_times, Divides, same, divides, mono_quotient}
use Rattle.local_order.specs.Order.{IsLastLess, IsAbove, last_less, above}

-- ---- products
-- the degree of a product is the sum of the degrees
pub degree-mono_times : (a b : List ℕ) → degree (mono_times a b) ≡ degree a + degree b
degree-mono_times [] b = omega arith
degree-mono_times (x ∷ a) [] = omega arith
degree-mono_times (x ∷ a) (y ∷ b) = omega (arith, degree-mono_times a b)

-- a product has as many exponents as its factors
pub length-mono_times : (a b : List ℕ) → length a ≡ length b → length (mono_times a b) ≡ length b
length-mono_times [] b e = refl
length-mono_times (x ∷ a) [] e = omega arith
length-mono_times (x ∷ a) (y ∷ b) e = omega (arith, length-mono_times a b (omega arith))

-- lists with the same head and the same tail are the same
pub cons_same : (x y : ℕ) (a b : List ℕ) → x ≡ y → a ≡ b → (x ∷ a) ≡ (y ∷ b)
cons_same x y a b e f = cc

-- the factors may change places
pub mono_times_comm : (a b : List ℕ) → mono_times a b ≡ mono_times b a
mono_times_comm [] [] = refl
mono_times_comm [] (y ∷ b) = refl
mono_times_comm (x ∷ a) [] = refl
mono_times_comm (x ∷ a) (y ∷ b) = cons_same _ _ _ _ (omega arith) (mono_times_comm a b)

-- products may be taken in any order
pub mono_times_assoc : (a b c : List ℕ) → mono_times (mono_times a b) c ≡ mono_times a (mono_times b c)
mono_times_assoc [] b c = refl
mono_times_assoc (x ∷ a) [] c = refl
mono_times_assoc (x ∷ a) (y ∷ b) [] = refl
mono_times_assoc (x ∷ a) (y ∷ b) (z ∷ c) = cons_same _ _ _ _ (omega arith) (mono_times_assoc a b c)

-- a common factor may be left out
pub mono_times_cancel : (c a b : List ℕ) → length c ≡ length a → length c ≡ length b → mono_times c a ≡ mono_times c b → a ≡ b
mono_times_cancel [] a b h k e = e
mono_times_cancel (z ∷ c) [] b h k e = absurd (omega arith)
mono_times_cancel (z ∷ c) (x ∷ a) [] h k e = absurd (omega arith)
mono_times_cancel (z ∷ c) (x ∷ a) (y ∷ b) h k e =
    let heads : z + x ≡ z + y = cc in
    let tails : mono_times c a ≡ mono_times c b = cc in
    cons_same x y a b (omega arith) (mono_times_cancel c a b (omega arith) (omega arith) tails)

-- ---- the test
-- what passes the test is the same
pub same-true : (a b : List ℕ) → same a b ≡ true → a ≡ b
same-true [] [] e = refl
same-true [] (y ∷ b) e = absurd (cc)
same-true (x ∷ a) [] e = absurd (cc)
same-true (x ∷ a) (y ∷ b) e = cons_same x y a b (left (eqb x y) (same a b) x y refl e) (same-true a b (right (eqb x y) (same a b) e))
  where
    left : (s t : Bool) (x y : ℕ) → eqb x y ≡ s → (s && t) ≡ true → x ≡ y
    left s t x y f e = grind arith

    right : (s t : Bool) → (s && t) ≡ true → t ≡ true
    right s t e = grind arith

-- a monomial passes the test against itself
pub same_self : (a : List ℕ) → same a a ≡ true
same_self [] = refl
same_self (x ∷ a) = both x (same a a) (same_self a)
  where
    both : (x : ℕ) (t : Bool) → t ≡ true → (eqb x x && t) ≡ true
    both x t e = grind arith

-- different monomials fail the test
pub same-false : (a b : List ℕ) → a ≢ b → same a b ≡ false
same-false a b n = go (same a b) refl
  where
    go : (t : Bool) → same a b ≡ t → t ≡ false
    go true e = absurd (n (same-true a b e))
    go false e = refl

-- ---- the order
-- less at the last place that differs, twice, is less once
pub last_trans : (a b c : List ℕ) → IsLastLess a b → IsLastLess b c → IsLastLess a c
last_trans [] b c h k = h
last_trans (x ∷ a) [] c h k = absurd h
last_trans (x ∷ a) (y ∷ b) [] h k = absurd k
last_trans (x ∷ a) (y ∷ b) (z ∷ c) (inl h) (inl k) = inl (last_trans a b c h k)
last_trans (x ∷ a) (y ∷ b) (z ∷ c) (inl h) (inr k) = inl (subst (λ l. IsLastLess a l) k.0 h)
last_trans (x ∷ a) (y ∷ b) (z ∷ c) (inr h) (inl k) = inl (subst (λ l. IsLastLess l c) (sym h.0) k)
last_trans (x ∷ a) (y ∷ b) (z ∷ c) (inr h) (inr k) = inr (h.0 ∙ k.0, omega arith)

-- no monomial is less than itself at the last place that differs
pub last_irrefl : (a : List ℕ) → IsLastLess a a → ⊥
last_irrefl [] h = h
last_irrefl (x ∷ a) (inl h) = last_irrefl a h
last_irrefl (x ∷ a) (inr h) = omega arith

-- two monomials are the same, or one is less at the last place that differs
pub last_cases : (a b : List ℕ) → length a ≡ length b → (a ≡ b) ⊎ (IsLastLess a b ⊎ IsLastLess b a)
last_cases [] [] e = inl refl
last_cases [] (y ∷ b) e = absurd (omega arith)
last_cases (x ∷ a) [] e = absurd (omega arith)
last_cases (x ∷ a) (y ∷ b) e = go (last_cases a b (omega arith))
  where
    heads : a ≡ b → (x ∷ a ≡ y ∷ b) ⊎ (IsLastLess (x ∷ a) (y ∷ b) ⊎ IsLastLess (y ∷ b) (x ∷ a))
    heads s =
        ⊎_elim
        (λ (l : x < y). inr (inl (inr (s, l))))
        (λ (l : y ≤ x).
        ⊎_elim
        (λ (m : y < x). inr (inr (inr (sym s, m))))
        (λ (m : x ≤ y). inl (cons_same x y a b (omega arith) s))
        (cases_lt y x))
        (cases_lt x y)

    go : (a ≡ b) ⊎ (IsLastLess a b ⊎ IsLastLess b a) → (x ∷ a ≡ y ∷ b) ⊎ (IsLastLess (x ∷ a) (y ∷ b) ⊎ IsLastLess (y ∷ b) (x ∷ a))
    go (inl s) = heads s
    go (inr (inl l)) = inr (inl (inl l))
    go (inr (inr l)) = inr (inr (inl l))

-- a common factor keeps which is less at the last place that differs
pub last-mono_times : (c a b : List ℕ) → length c ≡ length a → length c ≡ length b → IsLastLess a b → IsLastLess (mono_times c a) (mono_times c b)
last-mono_times [] a b h k l = l
last-mono_times (z ∷ c) [] b h k l = absurd l
last-mono_times (z ∷ c) (x ∷ a) [] h k l = absurd l
last-mono_times (z ∷ c) (x ∷ a) (y ∷ b) h k (inl l) = inl (last-mono_times c a b (omega arith) (omega arith) l)
last-mono_times (z ∷ c) (x ∷ a) (y ∷ b) h k (inr l) = inr (ap (mono_times c) l.0, omega arith)

-- above and above again is above
pub above_trans : (a b c : List ℕ) → IsAbove a b → IsAbove b c → IsAbove a c
above_trans a b c (inl h) (inl k) = inl (omega arith)
above_trans a b c (inl h) (inr k) = inl (omega arith)
above_trans a b c (inr h) (inl k) = inl (omega arith)
above_trans a b c (inr h) (inr k) = inr (omega arith, last_trans a b c h.1 k.1)

-- no monomial is above itself
pub above_irrefl : (a : List ℕ) → IsAbove a a → ⊥
above_irrefl a (inl h) = omega arith
above_irrefl a (inr h) = last_irrefl a h.1

-- two monomials are the same, or one is above
pub above_cases : (a b : List ℕ) → length a ≡ length b → (a ≡ b) ⊎ (IsAbove a b ⊎ IsAbove b a)
above_cases a b e =
    ⊎_elim
    (λ (l : degree a < degree b). inr (inl (inl l)))
    (λ (l : degree b ≤ degree a).
    ⊎_elim
    (λ (m : degree b < degree a). inr (inr (inl m)))
    (λ (m : degree a ≤ degree b). level (omega arith) (last_cases a b e))
    (cases_lt (degree b) (degree a)))
    (cases_lt (degree a) (degree b))
  where
    level : degree a ≡ degree b → (a ≡ b) ⊎ (IsLastLess a b ⊎ IsLastLess b a) → (a ≡ b) ⊎ (IsAbove a b ⊎ IsAbove b a)
    level d (inl s) = inl s
    level d (inr (inl l)) = inr (inl (inr (d, l)))
    level d (inr (inr l)) = inr (inr (inr (sym d, l)))

-- a common factor keeps which is above
pub above-mono_times : (c a b : List ℕ) → length c ≡ length a → length c ≡ length b → IsAbove a b → IsAbove (mono_times c a) (mono_times c b)
above-mono_times c a b h k (inl l) = inl (omega (arith, degree-mono_times c a, degree-mono_times c b))
above-mono_times c a b h k (inr l) = inr (omega (arith, degree-mono_times c a, degree-mono_times c b), last-mono_times c a b h k l.1)

-- a monomial above has at most the degree
pub degree_of_above : (a b : List ℕ) → IsAbove a b → degree a ≤ degree b
degree_of_above a b (inl h) = omega arith
degree_of_above a b (inr h) = omega arith

-- ---- division
-- a monomial divides another, or no product with it is the other
pub divides_cases : (a m : List ℕ) → length a ≡ length m → Divides a m ⊎ ((k : List ℕ) → length k ≡ length m → m ≢ mono_times a k)
divides_cases [] m e = inl (m, refl, refl)
divides_cases (x ∷ a) [] e = absurd (omega arith)
divides_cases (x ∷ a) (z ∷ m) e = go (divides_cases a m (omega arith)) (cases_lt z x)
  where
    Goal : Type 0
    Goal = Divides (x ∷ a) (z ∷ m) ⊎ ((k : List ℕ) → length k ≡ suc (length m) → (z ∷ m) ≢ mono_times (x ∷ a) k)

    none : ((k : List ℕ) → length k ≡ length m → m ≢ mono_times a k) → (k : List ℕ) → length k ≡ suc (length m) → (z ∷ m) ≢ mono_times (x ∷ a) k
    none f [] l h = omega arith
    none f (y ∷ k) l h = f k (omega arith) cc

    less : z < x → (k : List ℕ) → length k ≡ suc (length m) → (z ∷ m) ≢ mono_times (x ∷ a) k
    less l [] e h = omega arith
    less l (y ∷ k) e h = let same : z ≡ x + y = cc in omega arith

    go : Divides a m ⊎ ((k : List ℕ) → length k ≡ length m → m ≢ mono_times a k) → (z < x) ⊎ (x ≤ z) → Divides (x ∷ a) (z ∷ m) ⊎ ((k : List ℕ) → length k ≡ suc (length m) → (z ∷ m) ≢ mono_times (x ∷ a) k)
    go (inr f) c = inr (none f)
    go (inl d) (inl l) = inr (less l)
    go (inl d) (inr l) = inl ((z - x) ∷ d.0, omega (arith, d.1), cons_same z (x + (z - x)) m (mono_times a d.0) (omega arith) d.2)

-- ---- the test of the order
-- what passes the test is less at the last place that differs
last_less-true : (a b : List ℕ) → last_less a b ≡ true → IsLastLess a b
last_less-true [] b h = absurd (cc)
last_less-true (x ∷ a) [] h = absurd (cc)
last_less-true (x ∷ a) (y ∷ b) h = go (last_less-true a b) (or_cases (last_less a b) (same a b && ltb x y) h)
  where
    go : (last_less a b ≡ true → IsLastLess a b) → (last_less a b ≡ true) ⊎ ((same a b && ltb x y) ≡ true) → IsLastLess (x ∷ a) (y ∷ b)
    go next (inl l) = inl (next l)
    go next (inr r) = let parts = and_parts (same a b) (ltb x y) r in inr (same-true a b parts.0, ltb-true x y parts.1)

-- what is less at the last place that differs passes the test
last_less-intro : (a b : List ℕ) → IsLastLess a b → last_less a b ≡ true
last_less-intro [] b h = absurd h
last_less-intro (x ∷ a) [] h = absurd h
last_less-intro (x ∷ a) (y ∷ b) (inl h) = or_left (last_less a b) (same a b && ltb x y) (last_less-intro a b h)
last_less-intro (x ∷ a) (y ∷ b) (inr h) =
    or_right (last_less a b) (same a b && ltb x y)
    (and_from (same a b) (ltb x y) (ap (λ k. same k b) h.0 ∙ same_self b) (lt-ltb x y h.1))

-- what passes the test is above
pub above-true : (a b : List ℕ) → above a b ≡ true → IsAbove a b
above-true a b h = go (or_cases (ltb (degree a) (degree b)) (eqb (degree a) (degree b) && last_less a b) h)
  where
    go : (ltb (degree a) (degree b) ≡ true) ⊎ ((eqb (degree a) (degree b) && last_less a b) ≡ true) → IsAbove a b
    go (inl l) = inl (ltb-true (degree a) (degree b) l)
    go (inr r) = let parts = and_parts (eqb (degree a) (degree b)) (last_less a b) r in inr (eqb-true (degree a) (degree b) parts.0, last_less-true a b parts.1)

-- what is above passes the test
pub above-intro : (a b : List ℕ) → IsAbove a b → above a b ≡ true
above-intro a b (inl h) = or_left (ltb (degree a) (degree b)) (eqb (degree a) (degree b) && last_less a b) (lt-ltb (degree a) (degree b) h)
above-intro a b (inr h) =
    or_right (ltb (degree a) (degree b)) (eqb (degree a) (degree b) && last_less a b)
    (and_from (eqb (degree a) (degree b)) (last_less a b) (eq-eqb (degree a) (degree b) h.0) (last_less-intro a b h.1))

-- what fails both tests is below
pub above-false : (a b : List ℕ) → length a ≡ length b → above a b ≡ false → same a b ≡ false → IsAbove b a
above-false a b e h k = go (above_cases a b e)
  where
    go : (a ≡ b) ⊎ (IsAbove a b ⊎ IsAbove b a) → IsAbove b a
    go (inl s) = absurd (let t : same a b ≡ true = ap (λ x. same x b) s ∙ same_self b in cc)
    go (inr (inl l)) = absurd (let t : above a b ≡ true = above-intro a b l in cc)
    go (inr (inr l)) = l

-- ---- the quotient
-- a quotient has as many exponents as what is divided
pub length-mono_quotient : (b a : List ℕ) → length (mono_quotient b a) ≡ length b
length-mono_quotient [] a = refl
length-mono_quotient (x ∷ b) [] = refl
length-mono_quotient (x ∷ b) (y ∷ a) = ap suc (length-mono_quotient b a)

-- a divisor times the quotient gives back what is divided
pub mono_times-mono_quotient : (a b : List ℕ) → length a ≡ length b → divides a b ≡ true → b ≡ mono_times a (mono_quotient b a)
mono_times-mono_quotient [] [] e h = refl
mono_times-mono_quotient [] (y ∷ b) e h = absurd (omega arith)
mono_times-mono_quotient (x ∷ a) [] e h = absurd (omega arith)
mono_times-mono_quotient (x ∷ a) (y ∷ b) e h =
    let parts = and_parts (leb x y) (divides a b) h in
    let low : x ≤ y = leb-true x y parts.0 in
    cons_same y (x + (y - x)) b (mono_times a (mono_quotient b a)) (omega arith) (mono_times-mono_quotient a b (omega arith) parts.1)

-- a factor passes the test against the product
pub divides-mono_times : (a k : List ℕ) → length k ≡ length a → divides a (mono_times a k) ≡ true
divides-mono_times [] k e = refl
divides-mono_times (x ∷ a) [] e = absurd (omega arith)
divides-mono_times (x ∷ a) (y ∷ k) e = and_from (leb x (x + y)) (divides a (mono_times a k)) (le-leb x (x + y) (omega arith)) (divides-mono_times a k (omega arith))
