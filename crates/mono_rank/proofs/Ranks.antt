-- The rank of a monomial is its place: along the walk ranks rise and stay below the number of monomials, so they are the numbers of steps.
-- The same holds of any list of all monomials in falling order.
use Rattle.std.proofs.Common.{◌≡◌, ℕ, zero, suc, ◌+◌, ◌-◌, ◌<◌, ◌≤◌, ◌⊎◌, List, [], ◌∷◌, length, get_or, Bool, true, false, cond, refl, ap, sym, ◌∙◌, inl, inr, subst, arith}
use Rattle.std.specs.List.{count_by, Contains}
use Rattle.std.proofs.lemmas.Bool.{cases_lt}
use Rattle.std.proofs.lemmas.List.{get_or_default}
use Rattle.std.proofs.lemmas.List.Elements.{Contains-get_or}
use Rattle.std.proofs.lemmas.List.Sums.{sum_by-cons}
use Rattle.local_order.specs.Mono.{degree}
use Rattle.local_order.specs.Order.{IsAbove, above}
use Rattle.local_order.specs.Count.{monomial_count, monomials}
use Rattle.local_order.specs.Shape.{Shape, count}
use Rattle.local_order.proofs.Order.{above_trans, above_irrefl, above_cases, above-true, above-intro}
use Rattle.local_order.proofs.Listing.{length-monomials, in_monomials}
use Rattle.mono_rank.specs.Rank.{rank_of, HasRank, fewer, mono_at, ListsMonomials}
use Rattle.mono_rank.proofs.Pascal.{count_in_degree}
use Rattle.mono_rank.proofs.Places.{place, place_low, place_high, above_of_place}
use Rattle.mono_rank.proofs.Walk.{walk, length-walk, place-walk, degree-walk, walk_to}

-- ---- counts
-- a weaker test counts as many at least
count_grows : (p q : List ℕ → Bool) (s : List (List ℕ)) → ((m : List ℕ) → p m ≡ true → q m ≡ true) → count_by p s ≤ count_by q s
count_grows p q [] h = omega arith
count_grows p q (x ∷ s) h =
    omega (arith, sum_by-cons (λ m. cond (p m) 1 0) x s, sum_by-cons (λ m. cond (q m) 1 0) x s, count_grows p q s h, one (p x) (q x) (h x))
  where
    one : (a b : Bool) → (a ≡ true → b ≡ true) → cond a 1 0 ≤ cond b 1 0
    one true true f = omega arith
    one true false f = absurd (let g : false ≡ true = f refl in cc)
    one false b f = omega arith

-- and more where it accepts one more
count_rises : (p q : List ℕ → Bool) (s : List (List ℕ)) (k : ℕ) (d : List ℕ) → ((m : List ℕ) → p m ≡ true → q m ≡ true) →
    k < length s → p (get_or s k d) ≡ false → q (get_or s k d) ≡ true → count_by p s < count_by q s
count_rises p q [] k d h l e f = absurd (omega arith)
count_rises p q (x ∷ s) zero d h l e f =
    omega (arith, sum_by-cons (λ m. cond (p m) 1 0) x s, sum_by-cons (λ m. cond (q m) 1 0) x s, count_grows p q s h, ap {B = ℕ} (λ b. cond b 1 0) e, ap {B = ℕ} (λ b. cond b 1 0) f)
count_rises p q (x ∷ s) (suc k) d h l e f =
    omega (arith, sum_by-cons (λ m. cond (p m) 1 0) x s, sum_by-cons (λ m. cond (q m) 1 0) x s, count_rises p q s k d h (omega arith) e f, one (p x) (q x) (h x))
  where
    one : (a b : Bool) → (a ≡ true → b ≡ true) → cond a 1 0 ≤ cond b 1 0
    one true true f = omega arith
    one true false f = absurd (let g : false ≡ true = f refl in cc)
    one false b f = omega arith

-- all are counted by a test that accepts each
count_all : (s : List (List ℕ)) → count_by (λ m. true) s ≡ length s
count_all [] = refl
count_all (x ∷ s) = omega (arith, sum_by-cons (λ m. cond true 1 0) x s, count_all s)

-- ---- ranks
-- a monomial isn't above itself
not_above : (m : List ℕ) → above m m ≡ false
not_above m = go (above m m) refl
  where
    go : (b : Bool) → above m m ≡ b → b ≡ false
    go true e = absurd (above_irrefl m (above-true m m e))
    go false e = refl

-- a monomial above has the lesser rank
pub rank_above : (T : Shape) (a b : List ℕ) → length a ≡ T.variables → degree a ≤ T.degree → IsAbove a b → rank_of T a < rank_of T b
unfolding rank_of
rank_above T a b e l h =
    let there = in_monomials T.variables T.degree a e l in
    count_rises (λ k. above k a) (λ k. above k b) (monomials T.variables T.degree) there.0 a (λ m t. above-intro m b (above_trans m a b (above-true m a t) h)) there.1
    (ap (λ k. above k a) there.2 ∙ not_above a) (ap (λ k. above k b) there.2 ∙ above-intro a b h)

-- each rank is below the number of monomials
pub rank_low : (T : Shape) (m : List ℕ) → length m ≡ T.variables → degree m ≤ T.degree → rank_of T m < count T
unfolding rank_of
rank_low T m e l =
    let there = in_monomials T.variables T.degree m e l in
    omega (
      arith,
      count_rises (λ k. above k m) (λ k. true) (monomials T.variables T.degree) there.0 m (λ k t. refl) there.1 (ap (λ k. above k m) there.2 ∙ not_above m) refl,
      count_all (monomials T.variables T.degree),
      length-monomials T.variables T.degree,
    )

-- a rank is less than the number of the monomials
pub rank_small : (T : Shape) (m : List ℕ) (r : ℕ) → HasRank T m r → r < count T
rank_small T m r h = omega (arith, rank_low T m h.in_ring h.low, h.rank)

-- a monomial has one rank
pub one_rank : (T : Shape) (a b : List ℕ) (r s : ℕ) → HasRank T a r → HasRank T b s → a ≡ b → r ≡ s
one_rank T a b r s h k e = sym h.rank ∙ ap (rank_of T) e ∙ k.rank

-- numbers below N that rise N times are all numbers below N
squeezed : (g : ℕ → ℕ) (N : ℕ) → ((r : ℕ) → suc r < N → g r < g (suc r)) → ((r : ℕ) → r < N → g r < N) → (r : ℕ) → r < N → g r ≡ r
squeezed g N rise low r l = omega (arith, least r l, most (N - suc r) r (omega arith))
  where
    least : (r : ℕ) → r < N → r ≤ g r
    least zero l = omega arith
    least (suc r) l = omega (arith, least r (omega arith), rise r l)

    most : (k r : ℕ) → suc r + k ≡ N → g r + k < N
    most zero r e = omega (arith, low r (omega arith))
    most (suc k) r e = omega (arith, most k (suc r) (omega arith), rise r (omega arith))

-- ---- ranks are places
rank-walk : (T : Shape) (r : ℕ) → 1 ≤ T.variables → r < count T → rank_of T (walk T.variables r) ≡ r
rank-walk T r some l = squeezed (λ k. rank_of T (walk T.variables k)) (count T) rise low r l
  where
    rise : (k : ℕ) → suc k < count T → rank_of T (walk T.variables k) < rank_of T (walk T.variables (suc k))
    rise k h =
        rank_above T (walk T.variables k) (walk T.variables (suc k)) (length-walk T.variables k some) (degree-walk T.variables T.degree k some (omega arith))
        (above_of_place (walk T.variables k) (walk T.variables (suc k)) (length-walk T.variables k some ∙ sym (length-walk T.variables (suc k) some)) (omega (arith, length-walk T.variables k some))
        (omega (arith, place-walk T.variables k some, place-walk T.variables (suc k) some)))

    low : (k : ℕ) → k < count T → rank_of T (walk T.variables k) < count T
    low k h = rank_low T (walk T.variables k) (length-walk T.variables k some) (degree-walk T.variables T.degree k some h)

-- so each place below the number of monomials is a rank
pub rank_is_place : (T : Shape) (m : List ℕ) → 1 ≤ T.variables → length m ≡ T.variables → place m < count T → rank_of T m ≡ place m
rank_is_place T m some e l =
    let reached : walk T.variables (place m) ≡ m = subst (λ k. walk k (place m) ≡ m) e (walk_to m (omega arith)) in
    subst (λ x. rank_of T x ≡ place m) reached (rank-walk T (place m) some l)

-- the rank of a monomial of low degree is its place
pub rank_is : (T : Shape) (m : List ℕ) → 1 ≤ T.variables → length m ≡ T.variables → degree m ≤ T.degree → rank_of T m ≡ place m
rank_is T m some e l =
    rank_is_place T m some e (omega (arith, place_low m (omega arith), ap (λ k. monomial_count k (degree m)) e, count_in_degree T.variables (degree m) T.degree l))

-- no two monomials have one rank
pub one_of_rank : (T : Shape) (a b : List ℕ) (r : ℕ) → HasRank T a r → HasRank T b r → a ≡ b
one_of_rank T a b r h k = go (above_cases a b (h.in_ring ∙ sym k.in_ring))
  where
    go : (a ≡ b) ⊎ (IsAbove a b ⊎ IsAbove b a) → a ≡ b
    go (inl s) = s
    go (inr (inl g)) = absurd (omega (arith, h.rank, k.rank, rank_above T a b h.in_ring h.low g))
    go (inr (inr g)) = absurd (omega (arith, h.rank, k.rank, rank_above T b a k.in_ring k.low g))

-- a lesser rank tells which is above
pub above_of_rank : (T : Shape) (a b : List ℕ) → length a ≡ T.variables → length b ≡ T.variables → degree b ≤ T.degree → rank_of T a < rank_of T b → IsAbove a b
above_of_rank T a b e f l h = go (above_cases a b (e ∙ sym f))
  where
    go : (a ≡ b) ⊎ (IsAbove a b ⊎ IsAbove b a) → IsAbove a b
    go (inl s) = absurd (omega (arith, ap (rank_of T) s))
    go (inr (inl g)) = g
    go (inr (inr g)) = absurd (omega (arith, rank_above T b a f l g))

-- each number below the number of monomials is the rank of one that is reached
pub rank_reached : (T : Shape) (r : ℕ) → 1 ≤ T.variables → r < count T → HasRank T (walk T.variables r) r
rank_reached T r some l = record { in_ring = length-walk T.variables r some; low = degree-walk T.variables T.degree r some l; rank = rank-walk T r some l }

-- the ranks of a degree begin at the number of monomials of lesser degree
pub rank_from : (T : Shape) (m : List ℕ) (r : ℕ) → 1 ≤ T.variables → HasRank T m r → fewer T.variables (degree m) ≤ r
rank_from T m r some h =
    omega (arith, h.rank, rank_is T m some h.in_ring h.low, place_high m (omega (arith, h.in_ring)), ap (λ k. fewer k (degree m)) h.in_ring)

-- and end before the number of those of at most the degree
pub rank_below : (T : Shape) (m : List ℕ) (r : ℕ) → 1 ≤ T.variables → HasRank T m r → r < monomial_count T.variables (degree m)
rank_below T m r some h =
    omega (arith, h.rank, rank_is T m some h.in_ring h.low, place_low m (omega (arith, h.in_ring)), ap (λ k. monomial_count k (degree m)) h.in_ring)

-- another bound of the degrees gives the same rank
pub rank_within : (T : Shape) (e : ℕ) (m : List ℕ) (r : ℕ) → 1 ≤ T.variables → HasRank T m r → degree m ≤ e → HasRank (record T { degree = e }) m r
rank_within T e m r some h l = record {
  in_ring = h.in_ring;
  low = l;
  rank = rank_is (record T { degree = e }) m some h.in_ring l ∙ sym (rank_is T m some h.in_ring h.low) ∙ h.rank;
}

-- ---- lists in falling order
-- the places of a falling list rise, so each is the index at least
listed_least : (T : Shape) (s : List (List ℕ)) → ListsMonomials T s → (r : ℕ) → r < length s → r ≤ rank_of T (mono_at s r)
listed_least T s h zero l = omega arith
listed_least T s h (suc r) l =
    let there = (h.exactly (mono_at s r)).0 (Contains-get_or s r [] (omega arith)) in
    omega (arith, listed_least T s h r (omega arith), rank_above T (mono_at s r) (mono_at s (suc r)) there.0 there.1 (h.falling r (suc r) (omega arith) l))

-- and at most, since the monomial of each lesser rank is listed before
listed_most : (T : Shape) (s : List (List ℕ)) → 1 ≤ T.variables → ListsMonomials T s → (r j : ℕ) → j < length s → rank_of T (mono_at s j) ≡ r → r ≤ j
listed_most T s some h zero j l e = omega arith
listed_most T s some h (suc r) j l e = go (cases_lt k j) (listed_most T s some h r k listed.1 late)
  where
    there : (length (mono_at s j) ≡ T.variables) × (degree (mono_at s j) ≤ T.degree)
    there = (h.exactly (mono_at s j)).0 (Contains-get_or s j [] l)

    before : HasRank T (walk T.variables r) r
    before = rank_reached T r some (omega (arith, rank_low T (mono_at s j) there.0 there.1))

    listed : Contains s (walk T.variables r)
    listed = (h.exactly (walk T.variables r)).1 (before.in_ring, before.low)

    k : ℕ
    k = listed.0

    read : mono_at s k ≡ walk T.variables r
    read = get_or_default s k [] (walk T.variables r) listed.1 ∙ listed.2

    late : rank_of T (mono_at s k) ≡ r
    late = ap (rank_of T) read ∙ before.rank

    not_after : (j < k) ⊎ (k ≤ j) → (j ≤ k) → ⊥
    not_after (inl f) g = omega (arith, rank_above T (mono_at s j) (mono_at s k) there.0 there.1 (h.falling j k f listed.1), late)
    not_after (inr f) g = let same : j ≡ k = omega arith in omega (arith, ap (λ i. rank_of T (mono_at s i)) same, late)

    go : (k < j) ⊎ (j ≤ k) → r ≤ k → suc r ≤ j
    go (inl g) up = omega arith
    go (inr g) up = absurd (not_after (cases_lt j k) g)

-- the index is the rank
pub listed_rank : (T : Shape) (s : List (List ℕ)) → 1 ≤ T.variables → ListsMonomials T s → (r : ℕ) → r < length s → rank_of T (mono_at s r) ≡ r
listed_rank T s some h r l = omega (arith, listed_least T s h r l, listed_most T s some h (rank_of T (mono_at s r)) r l refl)
