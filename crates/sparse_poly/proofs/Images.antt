-- A list of terms that is made of a canonical one term by term, and keeps its order.
-- Each term gives one term, or none where its new coefficient is 0.
use Rattle.std.proofs.Common.{◌≡◌, ℕ, zero, suc, ◌+◌, ◌%◌, ◌<◌, ◌≤◌, ◌≢◌, List, [], ◌∷◌, ◌++◌, length, take, drop, get_or, Bool, true, false, cond, eqb, refl, ap, sym, ◌∙◌, subst, arith, append_assoc}
use Rattle.std.proofs.lemmas.List.{take_more, take_all, append-nil}
use Rattle.std.proofs.Math.Nat.{mod-mod}
use Rattle.prime_field.proofs.Residue.{add_same}
use Rattle.local_order.specs.Mono.{same}
use Rattle.local_order.specs.Order.{IsAbove}
use Rattle.sparse_poly.specs.Poly.{Term, Poly, coef, IsIn, IsCanonical, IsAboveFirst}
use Rattle.sparse_poly.specs.Canonical.{canonical, in_front}
use Rattle.sparse_poly.proofs.Canonical.{pos_of, total-in_front, canonical_self, canonical_same}
use Rattle.sparse_poly.proofs.Coef.{total-append}
use Rattle.sparse_poly.proofs.Unique.{in_of_canonical, below-down}

-- the terms c t * m t over the terms t of f
abbrev pub images : (Term → ℕ) → (Term → List ℕ) → Poly → Poly
images c m [] = []
images c m (t ∷ f) = in_front (c t) (m t) [] ++ images c m f

-- the same with coefficients as they are
abbrev pub each : (Term → ℕ) → (Term → List ℕ) → Poly → Poly
each c m [] = []
each c m (t ∷ f) = record { mono = m t; coef = c t } ∷ each c m f

-- the new terms are in n variables and modulo p, and stand in the order of the old ones
pub record KeepsOrder (p n : ℕ) (c : Term → ℕ) (m : Term → List ℕ) : Type 0 where
  pub small : (t : Term) → length t.mono ≡ n → 0 < t.coef → t.coef < p → c t < p
  pub inside : (t : Term) → length t.mono ≡ n → length (m t) ≡ n
  pub order : (t s : Term) → length t.mono ≡ n → length s.mono ≡ n → c t ≢ 0 → c s ≢ 0 → IsAbove t.mono s.mono → IsAbove (m t) (m s)

-- k is above each term of f
abbrev AllBelow : List ℕ → Poly → Type 0
AllBelow k [] = Unit {0}
AllBelow k (t ∷ f) = IsAbove k t.mono × AllBelow k f

-- a monomial above a canonical polynomial is above each term
all-below : (p n : ℕ) (k : List ℕ) (f : Poly) → IsAboveFirst k f → IsCanonical p n f → AllBelow k f
all-below p n k [] b w = tt
all-below p n k (t ∷ f) b w = (b, all-below p n k f (below-down p n k t f b w.3) w.4)

-- a number that fails the test for 0 is not 0
not_zero : (a : ℕ) → eqb a 0 ≡ false → a ≢ 0
not_zero a h e = let pos : 0 < a = pos_of a h in omega arith

-- the image of a term is above the images of the terms below it
below-images : (p n : ℕ) (c : Term → ℕ) (m : Term → List ℕ) (t : Term) (f : Poly) → KeepsOrder p n c m → length t.mono ≡ n → c t ≢ 0 →
    AllBelow t.mono f → IsCanonical p n f → IsAboveFirst (m t) (images c m f)
below-images p n c m t [] h l z b w = tt
below-images p n c m t (s ∷ f) h l z b w = go (eqb (c s) 0) refl (below-images p n c m t f h l z b.1 w.4)
  where
    go : (e : Bool) → eqb (c s) 0 ≡ e → IsAboveFirst (m t) (images c m f) → IsAboveFirst (m t) (cond e [] (record { mono = m s; coef = c s } ∷ []) ++ images c m f)
    go true e i = i
    go false e i = h.order t s l w.0 z (not_zero (c s) e) b.0

-- the images of a canonical polynomial are canonical
pub IsCanonical-images : (p n : ℕ) (c : Term → ℕ) (m : Term → List ℕ) (f : Poly) → KeepsOrder p n c m → IsCanonical p n f → IsCanonical p n (images c m f)
IsCanonical-images p n c m [] h w = tt
IsCanonical-images p n c m (t ∷ f) h w = go (eqb (c t) 0) refl (IsCanonical-images p n c m f h w.4)
  where
    go : (e : Bool) → eqb (c t) 0 ≡ e → IsCanonical p n (images c m f) → IsCanonical p n (cond e [] (record { mono = m t; coef = c t } ∷ []) ++ images c m f)
    go true e i = i
    go false e i =
        (h.inside t w.0, pos_of (c t) e, h.small t w.0 w.1 w.2, below-images p n c m t f h w.0 (not_zero (c t) e) (all-below p n t.mono f w.3 w.4) w.4, i)

-- a sum has the images of both
pub images-append : (c : Term → ℕ) (m : Term → List ℕ) (f g : Poly) → images c m (f ++ g) ≡ images c m f ++ images c m g
images-append c m [] g = refl
images-append c m (t ∷ f) g =
    ap (λ x. in_front (c t) (m t) [] ++ x) (images-append c m f g) ∙ sym (append_assoc (in_front (c t) (m t) []) (images c m f) (images c m g))

-- one term more
pub images-more : (c : Term → ℕ) (m : Term → List ℕ) (f done next : Poly) (i : ℕ) (t : Term) (v : ℕ) → i < length f → t ≡ get_or f i t → v ≡ c t →
    done ≡ images c m (take i f) → next ≡ done ++ in_front v (m t) [] → next ≡ images c m (take (i + 1) f)
images-more c m f done next i t v l e value before after =
    after
    ∙ ap (λ x. x ++ in_front v (m t) []) before
    ∙ ap (λ x. images c m (take i f) ++ in_front x (m t) []) value
    ∙ ap (λ x. images c m (take i f) ++ x) (sym (append-nil (in_front (c t) (m t) [])))
    ∙ sym (images-append c m (take i f) (t ∷ []))
    ∙ ap (images c m) (ap (λ s. take i f ++ s ∷ []) e ∙ sym (take_more f i t l))

-- all terms
pub images-all : (c : Term → ℕ) (m : Term → List ℕ) (f done : Poly) (i : ℕ) → length f ≤ i → done ≡ images c m (take i f) → done ≡ images c m f
images-all c m f done i l e = e ∙ ap (images c m) (take_all i f l)

-- the new terms are in n variables
in-each : (p n : ℕ) (c d : Term → ℕ) (m : Term → List ℕ) (f : Poly) → KeepsOrder p n d m → IsIn n f → IsIn n (each c m f)
in-each p n c d m [] h i = tt
in-each p n c d m (t ∷ f) h i = (h.inside t i.0, in-each p n c d m f h i.1)

-- modulo p the coefficients may be reduced
coef-images : (p : ℕ) (c : Term → ℕ) (m : Term → List ℕ) (f : Poly) (k : List ℕ) → coef p (images (λ t. c t % p) m f) k ≡ coef p (each c m f) k
coef-images p c m [] k = refl
coef-images p c m (t ∷ f) k =
    ap (λ x. x % p) (total-append (in_front (c t % p) (m t) []) (images (λ s. c s % p) m f) k)
    ∙ add_same p _ _ _ _ (ap (λ x. x % p) (total-in_front (c t % p) (m t) [] k) ∙ head (same (m t) k)) (coef-images p c m f k)
  where
    head : (s : Bool) → (cond s (c t % p) 0 + 0) % p ≡ cond s (c t) 0 % p
    head true = ap (λ x. x % p) (let q : c t % p + 0 ≡ c t % p = omega arith in q) ∙ mod-mod (c t) p
    head false = refl

-- what is made term by term is what the new terms add up to
pub images_are : (p n : ℕ) (c : Term → ℕ) (m : Term → List ℕ) (f : Poly) → 0 < p → KeepsOrder p n (λ t. c t % p) m → IsCanonical p n f →
    images (λ t. c t % p) m f ≡ canonical p (each c m f)
images_are p n c m f pos h w =
    let v : IsCanonical p n (images (λ t. c t % p) m f) = IsCanonical-images p n (λ t. c t % p) m f h w in
    sym (canonical_self p n _ pos v)
    ∙ canonical_same p n (images (λ t. c t % p) m f) (each c m f) pos (in_of_canonical p n _ v) (in-each p n c (λ t. c t % p) m f h (in_of_canonical p n f w)) (λ k l. coef-images p c m f k)

-- what is known of a term of a canonical polynomial
pub term_at : (p n : ℕ) (f : Poly) (i : ℕ) (t : Term) → IsCanonical p n f → i < length f → t ≡ get_or f i t → (length t.mono ≡ n) × (0 < t.coef) × (t.coef < p)
term_at p n [] i t w l e = absurd (omega arith)
term_at p n (s ∷ f) zero t w l e = subst (λ u. (length u.mono ≡ n) × (0 < u.coef) × (u.coef < p)) (sym e) (w.0, w.1, w.2)
term_at p n (s ∷ f) (suc i) t w l e = term_at p n f i t w.4 (omega arith) e

-- parts of a canonical polynomial
pub IsCanonical-take : (p n i : ℕ) (f : Poly) → IsCanonical p n f → IsCanonical p n (take i f)
IsCanonical-take p n zero f w = tt
IsCanonical-take p n (suc i) [] w = tt
IsCanonical-take p n (suc i) (t ∷ f) w = (w.0, w.1, w.2, below-take i f w.3, IsCanonical-take p n i f w.4)
  where
    below-take : (i : ℕ) (f : Poly) → IsAboveFirst t.mono f → IsAboveFirst t.mono (take i f)
    below-take zero f b = tt
    below-take (suc i) [] b = tt
    below-take (suc i) (s ∷ f) b = b

-- and the terms from a place on
pub IsCanonical-drop : (p n i : ℕ) (f : Poly) → IsCanonical p n f → IsCanonical p n (drop i f)
IsCanonical-drop p n zero f w = w
IsCanonical-drop p n (suc i) [] w = tt
IsCanonical-drop p n (suc i) (t ∷ f) w = IsCanonical-drop p n i f w.4

-- where there is a term, the modulus is positive
pub modulus_positive : (p n : ℕ) (f : Poly) → IsCanonical p n f → 0 < length f → 0 < p
modulus_positive p n [] w l = absurd (omega arith)
modulus_positive p n (t ∷ f) w l = omega (arith, w.2)
