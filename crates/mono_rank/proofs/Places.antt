-- The place of a monomial, computed from numbers of monomials: all of at most its degree but itself and the lesser ones of its degree.
-- Places turn the order round, since what the last differing exponent adds is more than all exponents before it can.
use Rattle.std.proofs.Common.{◌≡◌, ℕ, suc, ◌+◌, ◌-◌, ◌<◌, ◌≤◌, ◌⊎◌, List, [], ◌∷◌, length, refl, ap, sym, ◌∙◌, inl, inr, ⊎_elim, arith}
use Rattle.std.proofs.lemmas.Bool.{cases_lt}
use Rattle.local_order.specs.Mono.{degree}
use Rattle.local_order.specs.Order.{IsLastLess, IsAbove}
use Rattle.local_order.specs.Count.{monomial_count}
use Rattle.local_order.proofs.Order.{above_cases}
use Rattle.mono_rank.specs.Rank.{fewer}
use Rattle.mono_rank.proofs.Pascal.{pascal, count_in_degree, count_in_variables, fewer_in_degree}

-- how many lesser monomials of the same degree the exponents from variable i on tell, where those before have degree p
abbrev pub below_from : ℕ → ℕ → List ℕ → ℕ
below_from i p [] = 0
below_from i p (x ∷ a) = fewer i p + below_from (suc i) (p + x) a

-- how many monomials of the same degree are less
abbrev pub below : List ℕ → ℕ
below [] = 0
below (x ∷ a) = below_from 1 x a

-- the place of a monomial
abbrev pub place : List ℕ → ℕ
place m = monomial_count (length m) (degree m) - suc (below m)

-- equal variables and degrees have equally many monomials
pub count_same : (n m d e : ℕ) → n ≡ m → d ≡ e → monomial_count n d ≡ monomial_count m e
count_same n m d e h k = cc

-- ---- bounds
-- what some variables tell is below the number of monomials in them and the ones before
below_bound : (a : List ℕ) (i p u n d : ℕ) → n ≡ i + length a → d ≡ p + degree a → u < monomial_count i p → u + below_from (suc i) p a < monomial_count n d
below_bound [] i p u n d e f l = omega (arith, count_same n i d p (omega arith) (omega arith))
below_bound (x ∷ a) i p u n d e f l =
    let more : monomial_count (suc i) p ≤ monomial_count (suc i) (p + x) = count_in_degree (suc i) p (p + x) (omega arith) in
    omega (arith, below_bound a (suc i) (p + x) (u + fewer (suc i) p) n d (omega arith) (omega arith) (omega (arith, pascal i p, more)))

-- fewer are less than there are with one variable left out
below_few : (x : ℕ) (a : List ℕ) → below (x ∷ a) < monomial_count (length a) (x + degree a)
below_few x a = omega (arith, below_bound a 0 x 0 (length a) (x + degree a) (omega arith) refl (omega arith))

-- the place and what follows up to the end of the degree make all
pub place_sum : (m : List ℕ) → 1 ≤ length m → place m + suc (below m) ≡ monomial_count (length m) (degree m)
place_sum [] l = absurd (omega arith)
place_sum (x ∷ a) l = omega (arith, below_few x a, count_in_variables (length a) (suc (length a)) (x + degree a) (omega arith))

-- the place is below the number of monomials of at most the degree
pub place_low : (m : List ℕ) → 1 ≤ length m → place m < monomial_count (length m) (degree m)
place_low m l = omega (arith, place_sum m l)

-- the monomials of lesser degree come first
pub place_high : (m : List ℕ) → 1 ≤ length m → fewer (length m) (degree m) ≤ place m
place_high [] l = absurd (omega arith)
place_high (x ∷ a) l = omega (arith, below_few x a, pascal (length a) (x + degree a), place_sum (x ∷ a) l)

-- a place below the number of monomials tells that the degree is low
pub degree_of_place : (m : List ℕ) (d : ℕ) → 1 ≤ length m → place m < monomial_count (length m) d → degree m ≤ d
degree_of_place m d l h =
    ⊎_elim
    (λ (g : d < degree m). absurd (omega (arith, place_high m l, fewer_in_degree (length m) (suc d) (degree m) g)))
    (λ (g : degree m ≤ d). g)
    (cases_lt d (degree m))

-- ---- the order
-- one more at a place tells more than all exponents before it
below_step : (i p q u : ℕ) → q < p → u < monomial_count i q → u + fewer (suc i) q < fewer (suc i) p
below_step i p q u l h = omega (arith, pascal i q, fewer_in_degree (suc i) (suc q) p l)

-- where the degrees agree and the first has the lesser exponent at the last place that differs, it tells more
below_falls : (a b : List ℕ) (i p q u : ℕ) → length a ≡ length b → p + degree a ≡ q + degree b → IsLastLess a b → u < monomial_count i q →
    u + below_from (suc i) q b < below_from (suc i) p a
below_falls [] b i p q u e d h l = absurd h
below_falls (x ∷ a) [] i p q u e d h l = absurd h
below_falls (x ∷ a) (y ∷ b) i p q u e d (inl h) l =
    let more : monomial_count (suc i) q ≤ monomial_count (suc i) (q + y) = count_in_degree (suc i) q (q + y) (omega arith) in
    omega (arith, below_falls a b (suc i) (p + x) (q + y) (u + fewer (suc i) q) (omega arith) (omega arith) h (omega (arith, pascal i q, more)))
below_falls (x ∷ a) (y ∷ b) i p q u e d (inr h) l =
    let tails : degree a ≡ degree b = ap degree h.0 in
    let same : below_from (suc (suc i)) (q + y) b ≡ below_from (suc (suc i)) (p + x) a =
    ap (λ s. below_from (suc (suc i)) s b) (let k : q + y ≡ p + x = omega arith in k) ∙ ap (below_from (suc (suc i)) (p + x)) (sym h.0) in
    omega (arith, same, below_step i p q u (omega (arith, h.1)) l)

-- in one degree
below_less : (a b : List ℕ) → length a ≡ length b → degree a ≡ degree b → IsLastLess a b → below b < below a
below_less [] b e d h = absurd h
below_less (x ∷ a) [] e d h = absurd h
below_less (x ∷ a) (y ∷ b) e d (inl h) = omega (arith, below_falls a b 0 x y 0 (omega arith) d h (omega arith))
below_less (x ∷ a) (y ∷ b) e d (inr h) = absurd (omega (arith, h.1, ap degree h.0))

-- a monomial above has the lesser place
pub place_above : (a b : List ℕ) → length a ≡ length b → 1 ≤ length a → IsAbove a b → place a < place b
place_above a b e l (inl h) =
    omega (arith, place_low a l, place_high b (omega arith), fewer_in_degree (length a) (suc (degree a)) (degree b) h, ap (λ n. fewer n (degree b)) e)
place_above a b e l (inr h) =
    omega (arith, place_sum a l, place_sum b (omega arith), below_less a b e h.0 h.1, count_same (length a) (length b) (degree a) (degree b) e h.0)

-- a lesser place tells which is above
pub above_of_place : (a b : List ℕ) → length a ≡ length b → 1 ≤ length a → place a < place b → IsAbove a b
above_of_place a b e l h = go (above_cases a b e)
  where
    go : (a ≡ b) ⊎ (IsAbove a b ⊎ IsAbove b a) → IsAbove a b
    go (inl s) = absurd (omega (arith, ap place s))
    go (inr (inl k)) = k
    go (inr (inr k)) = absurd (omega (arith, place_above b a (sym e) (omega arith) k))

-- no two monomials have one place
pub same_of_place : (a b : List ℕ) → length a ≡ length b → 1 ≤ length a → place a ≡ place b → a ≡ b
same_of_place a b e l h = go (above_cases a b e)
  where
    go : (a ≡ b) ⊎ (IsAbove a b ⊎ IsAbove b a) → a ≡ b
    go (inl s) = s
    go (inr (inl k)) = absurd (omega (arith, place_above a b e l k))
    go (inr (inr k)) = absurd (omega (arith, place_above b a (sym e) (omega arith) k))
