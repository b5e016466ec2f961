-- A polynomial that is written in the one way is determined by its coefficients.
-- The greatest monomial has the first coefficient, so the first terms are the same, and then the rests.
use Rattle.std.proofs.Common.{◌≡◌, ◌%◌, ℕ, ◌+◌, ◌<◌, ◌≢◌, ◌⊎◌, List, [], ◌∷◌, length, get_or, Bool, true, false, cond, refl, ap, sym, ◌∙◌, inl, inr, subst, arith}
use Rattle.std.proofs.Math.Nat.{zero-mod, mod-eq_of_lt}
use Rattle.local_order.specs.Mono.{same}
use Rattle.local_order.specs.Order.{IsAbove}
use Rattle.local_order.proofs.Order.{above_cases, above_irrefl, above_trans, same_self, same-false}
use Rattle.sparse_poly.specs.Poly.{Term, Poly, total, coef, IsIn, IsSame, IsCanonical, IsAboveFirst}
use Rattle.sparse_poly.specs.Ideal.{Problem, IsLead}

-- a canonical polynomial is in n variables
pub in_of_canonical : (p n : ℕ) (f : Poly) → IsCanonical p n f → IsIn n f
in_of_canonical p n [] h = tt
in_of_canonical p n (t ∷ f) h = (h.0, in_of_canonical p n f h.4)

-- a monomial above the first term is above the rest
pub below-down : (p n : ℕ) (m : List ℕ) (t : Term) (f : Poly) → IsAbove m t.mono → IsAboveFirst t.mono f → IsAboveFirst m f
below-down p n m t [] h k = tt
below-down p n m t (s ∷ f) h k = above_trans m t.mono s.mono h k

-- at and above a monomial that is above all, there is nothing
pub total-above : (p n : ℕ) (f : Poly) (m : List ℕ) → IsCanonical p n f → IsAboveFirst m f → total f m ≡ 0
total-above p n [] m w b = refl
total-above p n (t ∷ f) m w b =
    let off : same t.mono m ≡ false = same-false t.mono m (λ s. above_irrefl m (subst (λ x. IsAbove m x) s b)) in
    rw off (omega (arith, total-above p n f m w.4 (below-down p n m t f b w.3)))

-- at the first monomial there is the first coefficient
pub total-head : (p n : ℕ) (t : Term) (f : Poly) → IsCanonical p n (t ∷ f) → total (t ∷ f) t.mono ≡ t.coef
total-head p n t f w = rw (same_self t.mono, total-above p n f t.mono w.4 w.3) (omega arith)

-- each coefficient is a residue already
pub total-small : (p n : ℕ) (f : Poly) (m : List ℕ) → 0 < p → length m ≡ n → IsCanonical p n f → total f m < p
total-small p n [] m pos l w = pos
total-small p n (t ∷ f) m pos l w = go (above_cases t.mono m (omega (arith, w.0))) (total-small p n f m pos l w.4)
  where
    apart : t.mono ≢ m → total f m < p → total (t ∷ f) m < p
    apart d i = rw (same-false t.mono m d) (omega arith)

    go : (t.mono ≡ m) ⊎ (IsAbove t.mono m ⊎ IsAbove m t.mono) → total f m < p → total (t ∷ f) m < p
    go (inl s) i = subst (λ k. total (t ∷ f) k < p) s (rw (total-head p n t f w) w.2)
    go (inr (inl a)) i = apart (λ s. above_irrefl m (subst (λ x. IsAbove x m) s a)) i
    go (inr (inr a)) i = apart (λ s. above_irrefl m (subst (λ x. IsAbove m x) s a)) i

-- one polynomial in two canonical forms adds up alike
pub same_total : (p n : ℕ) (f g : Poly) → 0 < p → IsCanonical p n f → IsCanonical p n g → IsSame p n f g → (m : List ℕ) → length m ≡ n → total f m ≡ total g m
same_total p n f g pos v w s m l =
    sym (mod-eq_of_lt (total-small p n f m pos l v)) ∙ s m l ∙ mod-eq_of_lt (total-small p n g m pos l w)

-- f and g add up alike at each monomial
abbrev pub SameTotal : ℕ → Poly → Poly → Type 0
SameTotal n f g = (m : List ℕ) → length m ≡ n → total f m ≡ total g m

-- of two heads neither can be above the other
above_head : (p n : ℕ) (t : Term) (f : Poly) (u : Term) (g : Poly) → IsCanonical p n (t ∷ f) → IsCanonical p n (u ∷ g) →
    SameTotal n (t ∷ f) (u ∷ g) → IsAbove t.mono u.mono → ⊥
above_head p n t f u g v w s a =
    omega (arith, s t.mono v.0, total-head p n t f v, total-above p n (u ∷ g) t.mono w a, v.1)

-- so they are the same
same_heads : (p n : ℕ) (t : Term) (f : Poly) (u : Term) (g : Poly) → IsCanonical p n (t ∷ f) → IsCanonical p n (u ∷ g) →
    SameTotal n (t ∷ f) (u ∷ g) → t.mono ≡ u.mono
same_heads p n t f u g v w s = go (above_cases t.mono u.mono (omega (arith, v.0, w.0)))
  where
    go : (t.mono ≡ u.mono) ⊎ (IsAbove t.mono u.mono ⊎ IsAbove u.mono t.mono) → t.mono ≡ u.mono
    go (inl e) = e
    go (inr (inl a)) = absurd (above_head p n t f u g v w s a)
    go (inr (inr a)) = absurd (above_head p n u g t f w v (λ m l. sym (s m l)) a)

-- lists with the same first term and the same rest are the same
term_same : (t u : Term) (f g : Poly) → t.mono ≡ u.mono → t.coef ≡ u.coef → f ≡ g → (t ∷ f) ≡ (u ∷ g)
term_same t u f g a b c = λ i. record { mono = a i; coef = b i } ∷ c i

-- canonical polynomials that add up alike are the same list
pub canonical_unique : (p n : ℕ) (f g : Poly) → IsCanonical p n f → IsCanonical p n g → SameTotal n f g → f ≡ g
canonical_unique p n [] [] v w s = refl
canonical_unique p n [] (u ∷ g) v w s = absurd (omega (arith, s u.mono w.0, total-head p n u g w, w.1))
canonical_unique p n (t ∷ f) [] v w s = absurd (omega (arith, s t.mono v.0, total-head p n t f v, v.1))
canonical_unique p n (t ∷ f) (u ∷ g) v w s =
    let heads : t.mono ≡ u.mono = same_heads p n t f u g v w s in
    let coefs : t.coef ≡ u.coef =
    sym (total-head p n t f v) ∙ s t.mono v.0 ∙ ap (total (u ∷ g)) heads ∙ total-head p n u g w in
    term_same t u f g heads coefs
    (canonical_unique p n f g v.4 w.4 (λ m l. tails (same t.mono m) t.coef u.coef (total f m) (total g m) coefs
    (s m l ∙ ap (λ k. cond (same k m) u.coef 0 + total g m) (sym heads))))
  where
    tails : (b : Bool) (x y z w : ℕ) → x ≡ y → cond b x 0 + z ≡ cond b y 0 + w → z ≡ w
    tails true x y z w e h = omega arith
    tails false x y z w e h = omega arith

-- ---- leads
-- a canonical list has the coefficient of its first term at that term's monomial
pub coef-first : (p n : ℕ) (t : Term) (f : Poly) → IsCanonical p n (t ∷ f) → coef p (t ∷ f) t.mono ≡ t.coef
coef-first p n t f w = ap (λ x. x % p) (total-head p n t f w) ∙ mod-eq_of_lt w.2

-- the lead of a canonical list is the monomial of its first term
pub IsLead-canonical : (P : Problem) (t : Term) (f : Poly) → IsCanonical P.p P.n (t ∷ f) → IsLead P (t ∷ f) t.mono
IsLead-canonical P t f w = record {
  in_ring = w.0;
  there = λ e. omega (arith, coef-first P.p P.n t f w, e, w.1);
  greatest = λ k l a. ap (λ x. x % P.p) (total-above P.p P.n (t ∷ f) k w a) ∙ zero-mod P.p;
}

-- a polynomial has one lead at most
pub one_lead : (P : Problem) (f : Poly) (a b : List ℕ) → IsLead P f a → IsLead P f b → a ≡ b
one_lead P f a b x y = go (above_cases a b (x.in_ring ∙ sym y.in_ring))
  where
    go : (a ≡ b) ⊎ (IsAbove a b ⊎ IsAbove b a) → a ≡ b
    go (inl e) = e
    go (inr (inl h)) = absurd (x.there (y.greatest a x.in_ring h))
    go (inr (inr h)) = absurd (y.there (x.greatest b y.in_ring h))

-- so a canonical list has at its lead the coefficient of its first term
pub coef-lead : (P : Problem) (t : Term) (f : Poly) (m : List ℕ) → IsCanonical P.p P.n f → t ≡ get_or f 0 t → IsLead P f m → coef P.p f m ≡ t.coef
coef-lead P t [] m w e x = absurd (x.there (zero-mod P.p))
coef-lead P t (s ∷ f) m w e x =
    ap (coef P.p (s ∷ f)) (one_lead P (s ∷ f) m s.mono x (IsLead-canonical P s f w)) ∙ coef-first P.p P.n s f w ∙ ap (λ u. u.coef) (sym e)
