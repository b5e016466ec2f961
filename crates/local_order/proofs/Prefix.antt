-- Comparing two monomials by their fronts, from the last place on.
-- First one more place of a front, then what a comparison tells and what it answers.
use Rattle.std.proofs.Common.{◌≡◌, ℕ, ◌+◌, ◌<◌, ◌≤◌, ◌≢◌, List, [], ◌∷◌, ◌++◌, length, take, get_or, Bool, true, false, cond, ◌&&◌, ◌||◌, eqb, ltb, refl, ap, sym, ◌∙◌, ⊎_elim, subst, arith}
use Rattle.std.specs.declared.cmp.Ordering.{Ordering}
use Rattle.std.specs.declared.cmp.Ordering.TheVariants.{Less, Equal, Greater}
use Rattle.std.proofs.lemmas.List.{take_more, length-take-le}
use Rattle.std.proofs.lemmas.Bool.{cases_lt, lt-ltb, le-ltb, eq-eqb, ne_eqb, false_from_ne_true}
use Rattle.std.specs.Ordering.{nat_cmp}
use Rattle.std.specs.Cmp.{nat_cmp_is}
use Rattle.local_order.proofs.Order.{same-false, same-true, same_self, above-true, above-false, above_irrefl, above_trans, above-intro}
use Rattle.local_order.specs.Mono.{degree, same}
use Rattle.local_order.specs.Order.{IsAbove, last_less, above, compare_last, compare_ds}

-- one more exponent adds to the degree
degree-append : (a : List ℕ) (x : ℕ) → degree (a ++ x ∷ []) ≡ degree a + x
degree-append [] x = omega arith
degree-append (y ∷ a) x = omega (arith, degree-append a x)

-- one more exponent of the front adds to its degree
pub degree-take_more : (a : List ℕ) (i : ℕ) → i < length a → degree (take (i + 1) a) ≡ degree (take i a) + get_or a i 0
degree-take_more a i l = ap degree (take_more a i 0 l) ∙ degree-append (take i a) (get_or a i 0)

-- the test of lists that are one longer
same-append : (a b : List ℕ) (x y : ℕ) → length a ≡ length b → same (a ++ x ∷ []) (b ++ y ∷ []) ≡ (same a b && eqb x y)
same-append [] [] x y e = step (eqb x y)
  where
    step : (s : Bool) → (s && true) ≡ s
    step true = refl
    step false = refl
same-append [] (v ∷ b) x y e = absurd (omega arith)
same-append (u ∷ a) [] x y e = absurd (omega arith)
same-append (u ∷ a) (v ∷ b) x y e = ap (λ s. eqb u v && s) (same-append a b x y (omega arith)) ∙ assoc (eqb u v) (same a b) (eqb x y)
  where
    assoc : (r s t : Bool) → (r && (s && t)) ≡ ((r && s) && t)
    assoc true s t = refl
    assoc false s t = refl

-- the last place decides first
last_less-append : (a b : List ℕ) (x y : ℕ) → length a ≡ length b → last_less (a ++ x ∷ []) (b ++ y ∷ []) ≡ (ltb x y || (eqb x y && last_less a b))
last_less-append [] [] x y e = step (ltb x y) (eqb x y)
  where
    step : (l q : Bool) → (false || (true && l)) ≡ (l || (q && false))
    step true q = refl
    step false true = refl
    step false false = refl
last_less-append [] (v ∷ b) x y e = absurd (omega arith)
last_less-append (u ∷ a) [] x y e = absurd (omega arith)
last_less-append (u ∷ a) (v ∷ b) x y e =
    ap (λ l. l || (same (a ++ x ∷ []) (b ++ y ∷ []) && ltb u v)) (last_less-append a b x y (omega arith))
    ∙ ap (λ s. (ltb x y || (eqb x y && last_less a b)) || (s && ltb u v)) (same-append a b x y (omega arith))
    ∙ step (ltb x y) (eqb x y) (last_less a b) (same a b) (ltb u v)
  where
    step : (l q r s t : Bool) → ((l || (q && r)) || ((s && q) && t)) ≡ (l || (q && (r || (s && t))))
    step true q r s t = refl
    step false true r true t = refl
    step false true r false t = refl
    step false false r true t = refl
    step false false r false t = refl

-- one more place of the fronts decides first
pub compare_last-more : (a b : List ℕ) (i : ℕ) → i < length a → i < length b →
    compare_last (take (i + 1) a) (take (i + 1) b) ≡ cond (ltb (get_or a i 0) (get_or b i 0)) Greater (cond (ltb (get_or b i 0) (get_or a i 0)) Less (compare_last (take i a) (take i b)))
compare_last-more a b i k l =
    ap (λ z. compare_last z (take (i + 1) b)) (take_more a i 0 k)
    ∙ ap (λ z. compare_last (take i a ++ get_or a i 0 ∷ []) z) (take_more b i 0 l)
    ∙ ap (λ z. cond z Greater (cond (same (take i a ++ get_or a i 0 ∷ []) (take i b ++ get_or b i 0 ∷ [])) Equal Less)) (last_less-append (take i a) (take i b) (get_or a i 0) (get_or b i 0) fronts)
    ∙ ap (λ z. cond (ltb (get_or a i 0) (get_or b i 0) || (eqb (get_or a i 0) (get_or b i 0) && last_less (take i a) (take i b))) Greater (cond z Equal Less)) (same-append (take i a) (take i b) (get_or a i 0) (get_or b i 0) fronts)
    ∙ step (get_or a i 0) (get_or b i 0) (last_less (take i a) (take i b)) (same (take i a) (take i b))
  where
    fronts : length (take i a) ≡ length (take i b)
    fronts = omega (arith, length-take-le i a (omega arith), length-take-le i b (omega arith))

    level : (m s : Bool) → cond m Greater (cond (s && true) Equal Less) ≡ cond m Greater (cond s Equal Less)
    level true s = refl
    level false true = refl
    level false false = refl

    later : (s : Bool) → cond (s && false) Equal Less ≡ Less
    later true = refl
    later false = refl

    step : (x y : ℕ) (m s : Bool) → cond (ltb x y || (eqb x y && m)) Greater (cond (s && eqb x y) Equal Less) ≡ cond (ltb x y) Greater (cond (ltb y x) Less (cond m Greater (cond s Equal Less)))
    step x y m s =
        ⊎_elim
        (λ (l : x < y). rw (lt-ltb x y l) refl)
        (λ (l : y ≤ x).
        ⊎_elim
        (λ (g : y < x). rw (le-ltb x y l, ne_eqb x y (λ e. absurd (omega arith)), lt-ltb y x g) (later s))
        (λ (g : x ≤ y). let e : x ≡ y = omega arith in rw (le-ltb x y l, eq-eqb x y e, le-ltb y x g) (level m s))
        (cases_lt y x))
        (cases_lt x y)

-- in one degree the last place that differs decides
pub compare_ds-level : (a b : List ℕ) → degree a ≡ degree b → compare_ds a b ≡ compare_last a b
compare_ds-level a b e = rw (le-ltb (degree a) (degree b) (omega arith), eq-eqb (degree a) (degree b) e) refl

-- the lesser degree is greater
pub compare_ds-less : (a b : List ℕ) → degree a < degree b → compare_ds a b ≡ Greater
compare_ds-less a b l = rw (lt-ltb (degree a) (degree b) l) refl

-- the greater degree is less
pub compare_ds-greater : (a b : List ℕ) → degree b < degree a → compare_ds a b ≡ Less
compare_ds-greater a b l =
    rw (le-ltb (degree a) (degree b) (omega arith), ne_eqb (degree a) (degree b) (λ e. absurd (omega arith)), same-false a b (λ s. omega (arith, ap degree s))) refl

-- two numbers that differ compare one way or the other
compare_differ : (x y : ℕ) (m : Ordering) → x ≢ y → cond (ltb x y) Greater (cond (ltb y x) Less m) ≡ nat_cmp y x
compare_differ x y m n =
    ⊎_elim
    (λ (l : x < y). nat_cmp_is y x _ (rw (lt-ltb x y l) l))
    (λ (l : y ≤ x). let g : y < x = omega arith in nat_cmp_is y x _ (rw (le-ltb x y l, lt-ltb y x g) g))
    (cases_lt x y)

-- where the last exponents differ, they decide
pub compare_last-differ : (a b : List ℕ) (i : ℕ) → i < length a → i < length b → get_or a i 0 ≢ get_or b i 0 → compare_last (take (i + 1) a) (take (i + 1) b) ≡ nat_cmp (get_or b i 0) (get_or a i 0)
compare_last-differ a b i k l n = compare_last-more a b i k l ∙ compare_differ (get_or a i 0) (get_or b i 0) _ n

-- where the last exponents are the same, those before decide
pub compare_last-same : (a b : List ℕ) (i : ℕ) → i < length a → i < length b → get_or a i 0 ≡ get_or b i 0 → compare_last (take (i + 1) a) (take (i + 1) b) ≡ compare_last (take i a) (take i b)
compare_last-same a b i k l e =
    compare_last-more a b i k l ∙ rw (le-ltb (get_or a i 0) (get_or b i 0) (omega arith), le-ltb (get_or b i 0) (get_or a i 0) (omega arith)) refl

-- degrees that differ decide
pub compare_ds-differ : (a b : List ℕ) → degree a ≢ degree b → compare_ds a b ≡ nat_cmp (degree b) (degree a)
compare_ds-differ a b n =
    ⊎_elim
    (λ (l : degree a < degree b). compare_ds-less a b l ∙ nat_cmp_is (degree b) (degree a) Greater l)
    (λ (l : degree b ≤ degree a). let g : degree b < degree a = omega arith in compare_ds-greater a b g ∙ nat_cmp_is (degree b) (degree a) Less g)
    (cases_lt (degree a) (degree b))

-- ---- what a comparison tells
-- what compares as greater is above
pub above_of_compare : (a b : List ℕ) → Greater ≡ compare_ds a b → IsAbove a b
above_of_compare a b h = go (above a b) refl
  where
    go : (t : Bool) → above a b ≡ t → IsAbove a b
    go true e = above-true a b e
    go false e = absurd (rest (same a b) (rw e at h))
      where
        rest : (s : Bool) → Greater ≡ cond s Equal Less → ⊥
        rest true h = cc
        rest false h = cc

-- what compares as equal is the same
pub same_of_compare : (a b : List ℕ) → Equal ≡ compare_ds a b → a ≡ b
same_of_compare a b h = go (above a b) (same a b) refl refl
  where
    go : (t s : Bool) → above a b ≡ t → same a b ≡ s → a ≡ b
    go true s e f = absurd (let k : Equal ≡ cond true Greater (cond (same a b) Equal Less) = rw e at h in cc)
    go false true e f = same-true a b f
    go false false e f = absurd (let k : Equal ≡ cond false Greater (cond false Equal Less) = rw (e, f) at h in cc)

-- what compares as less is below
pub below_of_compare : (a b : List ℕ) → length a ≡ length b → Less ≡ compare_ds a b → IsAbove b a
below_of_compare a b l h = go (above a b) (same a b) refl refl
  where
    go : (t s : Bool) → above a b ≡ t → same a b ≡ s → IsAbove b a
    go true s e f = absurd (let k : Less ≡ cond true Greater (cond (same a b) Equal Less) = rw e at h in cc)
    go false true e f = absurd (let k : Less ≡ cond false Greater (cond true Equal Less) = rw (e, f) at h in cc)
    go false false e f = above-false a b l e f

-- a monomial compares with itself as equal
pub compare_self : (a : List ℕ) → compare_ds a a ≡ Equal
compare_self a = go (above a a) refl
  where
    go : (t : Bool) → above a a ≡ t → cond (above a a) Greater (cond (same a a) Equal Less) ≡ Equal
    go true e = absurd (above_irrefl a (above-true a a e))
    go false e = rw (e, same_self a) refl

-- ---- what a comparison answers
-- a monomial above is greater
pub compare_above : (a b : List ℕ) → IsAbove a b → compare_ds a b ≡ Greater
compare_above a b h = rw (above-intro a b h) refl

-- the same monomial is equal
pub compare_same : (a b : List ℕ) → a ≡ b → compare_ds a b ≡ Equal
compare_same a b e = subst (λ m. compare_ds a m ≡ Equal) e (compare_self a)

-- a monomial below is less
pub compare_below : (a b : List ℕ) → IsAbove b a → compare_ds a b ≡ Less
compare_below a b h = rw (not_above, not_same) refl
  where
    not_above : above a b ≡ false
    not_above = false_from_ne_true (above a b) (λ t. above_irrefl a (above_trans a b a (above-true a b t) h))

    not_same : same a b ≡ false
    not_same = same-false a b (λ e. above_irrefl a (subst (λ m. IsAbove m a) (sym e) h))
