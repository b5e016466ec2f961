-- The multiple of a canonical polynomial by one term, and by a constant.
-- The terms that are made one by one are those of the canonical multiple, up to a degree where there is one.
use Rattle.std.proofs.Common.{◌≡◌, ℕ, ◌+◌, ◌*◌, ◌%◌, ◌<◌, ◌≤◌, ◌⊎◌, List, [], ◌∷◌, ◌++◌, length, take, drop, get_or, All, refl, ap, sym, ◌∙◌, inl, inr, subst, arith, mul_comm}
use Rattle.std.proofs.Math.Nat.{mod-lt, mod-mod}
use Rattle.std.proofs.lemmas.List.{take-append-drop, append-nil, drop_all, take_more, get_or_default}
use Rattle.prime_field.proofs.Residue.{mul_same}
use Rattle.local_order.proofs.Places.{get_or-le-degree}
use Rattle.local_order.specs.Mono.{degree, mono_times}
use Rattle.local_order.proofs.Order.{above-mono_times, length-mono_times, degree-mono_times, degree_of_above}
use Rattle.sparse_poly.specs.Poly.{Term, Poly, total, coef, cut, term_times, IsIn, IsCanonical}
use Rattle.sparse_poly.specs.Canonical.{canonical, in_front}
use Rattle.sparse_poly.proofs.Canonical.{canonical-right, coef-canonical, IsCanonical-canonical}
use Rattle.sparse_poly.proofs.Coef.{term_times-append}
use Rattle.sparse_poly.proofs.Unique.{in_of_canonical}
use Rattle.sparse_poly.proofs.Span.{total-scale}
use Rattle.sparse_poly.proofs.Cuts.{cut-append, cut-high, cut-low}
use Rattle.sparse_poly.proofs.Images.{images, each, images_are, images-more, KeepsOrder, IsCanonical-take, IsCanonical-drop}
use Rattle.sparse_poly.proofs.Merging.{open_drop}

-- the multiple by a term, each coefficient reduced
abbrev pub multiple_of : ℕ → ℕ → List ℕ → Poly → Poly
multiple_of p c a f = images (λ t. (c * t.coef) % p) (λ t. mono_times a t.mono) f

-- a multiple is made term by term
term_times-each : (c : ℕ) (a : List ℕ) (f : Poly) → each (λ t. c * t.coef) (λ t. mono_times a t.mono) f ≡ term_times c a f
term_times-each c a [] = refl
term_times-each c a (t ∷ f) = ap (λ x. record { mono = mono_times a t.mono; coef = c * t.coef } ∷ x) (term_times-each c a f)

-- the multiple by a term
pub multiple_is : (p n c : ℕ) (a : List ℕ) (f : Poly) → 0 < p → length a ≡ n → IsCanonical p n f → multiple_of p c a f ≡ canonical p (term_times c a f)
multiple_is p n c a f pos l w = images_are p n (λ t. c * t.coef) (λ t. mono_times a t.mono) f pos keeps w ∙ ap (canonical p) (term_times-each c a f)
  where
    keeps : KeepsOrder p n (λ t. (c * t.coef) % p) (λ t. mono_times a t.mono)
    keeps = record {
      small = λ t i s u. mod-lt (c * t.coef) pos;
      inside = λ t i. length-mono_times a t.mono (l ∙ sym i) ∙ i;
      order = λ t s i j y z h. above-mono_times a t.mono s.mono (l ∙ sym i) (l ∙ sym j) h;
    }

-- ---- by a constant
-- the multiple by a constant
pub scaled_is : (p n c : ℕ) (f : Poly) → 0 < p → IsCanonical p n f → multiple_of p c [] f ≡ canonical p (term_times c [] f)
scaled_is p n c f pos w = images_are p n (λ t. c * t.coef) (λ t. t.mono) f pos keeps w ∙ ap (canonical p) (term_times-each c [] f)
  where
    keeps : KeepsOrder p n (λ t. (c * t.coef) % p) (λ t. t.mono)
    keeps = record { small = λ t i s u. mod-lt (c * t.coef) pos; inside = λ t i. i; order = λ t s i j y z h. h }

-- a multiple by a constant is in the same variables
pub in-scale : (n c : ℕ) (f : Poly) → IsIn n f → IsIn n (term_times c [] f)
in-scale n c [] i = tt
in-scale n c (t ∷ f) i = (i.0, in-scale n c f i.1)

-- and canonical, where it is written
pub IsCanonical-scaled : (p n c : ℕ) (f : Poly) → 0 < p → IsCanonical p n f → IsCanonical p n (canonical p (term_times c [] f))
IsCanonical-scaled p n c f pos w = IsCanonical-canonical p n (term_times c [] f) pos (in-scale n c f (in_of_canonical p n f w))

-- the coefficients of the multiple by a constant are the multiples of the coefficients
pub coef-scaled : (p c : ℕ) (f : Poly) (m : List ℕ) → coef p (canonical p (term_times c [] f)) m ≡ (coef p f m * c) % p
coef-scaled p c f m =
    coef-canonical p (term_times c [] f) m
    ∙ ap (λ x. x % p) (total-scale c f m ∙ mul_comm c (total f m))
    ∙ mul_same p (total f m) (coef p f m) c c (sym (mod-mod (total f m) p)) refl

-- the sum with a multiple
pub difference_is : (p n c : ℕ) (f g u v : Poly) → 0 < p → IsCanonical p n f → IsCanonical p n g → u ≡ f → v ≡ canonical p (term_times c [] g) →
    canonical p (u ++ v) ≡ canonical p (f ++ term_times c [] g)
difference_is p n c f g u v pos w x d e =
    ap (λ y. canonical p (y ++ v)) d
    ∙ ap (λ y. canonical p (f ++ y)) e
    ∙ canonical-right p n f (term_times c [] g) pos (in_of_canonical p n f w) (in-scale n c g (in_of_canonical p n g x))

-- ---- up to a degree
-- where the first term is beyond the degree, all are
beyond : (p n d c : ℕ) (a : List ℕ) (t : Term) (f : Poly) → IsCanonical p n (t ∷ f) → d < degree a + degree t.mono → cut d (term_times c a (t ∷ f)) ≡ []
beyond p n d c a t [] w h = cut-high d _ [] (omega (arith, degree-mono_times a t.mono))
beyond p n d c a t (s ∷ f) w h =
    cut-high d _ (term_times c a (s ∷ f)) (omega (arith, degree-mono_times a t.mono))
    ∙ beyond p n d c a s f w.4 (omega (arith, degree_of_above t.mono s.mono w.3))

-- f has no term at place i, or one whose product is beyond the degree
abbrev pub Ends : ℕ → List ℕ → Poly → ℕ → Type 0
Ends d a f i = (length f ≤ i) ⊎ ((t : Term) × (i < length f) × (t ≡ get_or f i t) × (d < degree a + degree t.mono))

-- the terms in front are all that are up to the degree
cut-multiple : (p n d c : ℕ) (a : List ℕ) (f : Poly) (i : ℕ) → IsCanonical p n (drop i f) → cut d (term_times c a (take i f)) ≡ term_times c a (take i f) →
    Ends d a f i → cut d (term_times c a f) ≡ term_times c a (take i f)
cut-multiple p n d c a f i w front ends =
    ap (λ x. cut d (term_times c a x)) (sym (take-append-drop i f))
    ∙ ap (cut d) (term_times-append c a (take i f) (drop i f))
    ∙ cut-append d (term_times c a (take i f)) (term_times c a (drop i f))
    ∙ ap (λ x. x ++ cut d (term_times c a (drop i f))) front
    ∙ ap (λ x. term_times c a (take i f) ++ x) (rest ends)
    ∙ append-nil (term_times c a (take i f))
  where
    rest : Ends d a f i → cut d (term_times c a (drop i f)) ≡ []
    rest (inl l) = ap (λ x. cut d (term_times c a x)) (drop_all i f l)
    rest (inr (t, l, e, h)) =
        let open_f : drop i f ≡ t ∷ drop (i + 1) f = open_drop f i t l e in
        ap (λ x. cut d (term_times c a x)) open_f ∙ beyond p n d c a t (drop (i + 1) f) (subst (IsCanonical p n) open_f w) h

-- after i terms of f: those that are made, and that all are up to the degree
pub record Multiplying (p d c : ℕ) (a : List ℕ) (f : Poly) (i : ℕ) (done : Poly) : Type 0 where
  pub made : done ≡ multiple_of p c a (take i f)
  pub within : cut d (term_times c a (take i f)) ≡ term_times c a (take i f)

-- one term more
pub multiply_more : (p d c : ℕ) (a : List ℕ) (f : Poly) (i : ℕ) (done next : Poly) (t : Term) (m : List ℕ) (v : ℕ) → Multiplying p d c a f i done → i < length f → t ≡ get_or f i t →
    degree a + degree t.mono ≤ d → m ≡ mono_times a t.mono → v ≡ (c * t.coef) % p → next ≡ done ++ in_front v m [] → Multiplying p d c a f (i + 1) next
multiply_more p d c a f i done next t m v x l e low product value after = record {
  made = images-more (λ s. (c * s.coef) % p) (λ s. mono_times a s.mono) f done next i t v l e value x.made (after ∙ ap (λ k. done ++ in_front v k []) product);
  within =
      ap (cut d) more
      ∙ cut-append d (term_times c a (take i f)) (term_times c a (t ∷ []))
      ∙ ap (λ x. x ++ cut d (term_times c a (t ∷ []))) x.within
      ∙ ap (λ x. term_times c a (take i f) ++ x) (cut-low d _ [] (omega (arith, degree-mono_times a t.mono)))
      ∙ sym more;
}
  where
    more : term_times c a (take (i + 1) f) ≡ term_times c a (take i f) ++ term_times c a (t ∷ [])
    more = ap (term_times c a) (take_more f i t l ∙ ap (λ s. take i f ++ s ∷ []) (sym e)) ∙ term_times-append c a (take i f) (t ∷ [])

-- at the end, or where the next term is beyond the degree
pub multiplied : (p d c : ℕ) (a : List ℕ) (f : Poly) (i : ℕ) (done : Poly) → 0 < p → IsCanonical p (length a) f → Multiplying p d c a f i done → Ends d a f i → done ≡ canonical p (cut d (term_times c a f))
multiplied p d c a f i done pos w x ends =
    x.made
    ∙ multiple_is p (length a) c a (take i f) pos refl (IsCanonical-take p (length a) i f w)
    ∙ ap (canonical p) (sym (cut-multiple p (length a) d c a f i (IsCanonical-drop p (length a) i f w) x.within ends))

-- the product's exponents are within the degree
pub exponents_small : (a b : List ℕ) (d : ℕ) → degree a + degree b ≤ d → d ≤ 1000 → All (λ e. e ≤ 1000) (mono_times a b)
exponents_small a b d h l k x i =
    subst (λ e. e ≤ 1000) (get_or_default (mono_times a b) k 0 x i)
    (omega (arith, get_or-le-degree (mono_times a b) k, degree-mono_times a b))
