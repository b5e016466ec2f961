-- The part of a polynomial up to a degree.
-- It keeps the order of the terms, and is all of a polynomial of no higher degree.
use Rattle.std.proofs.Common.{◌≡◌, ℕ, ◌+◌, ◌<◌, ◌≤◌, List, [], ◌∷◌, ◌++◌, length, take, get_or, Bool, true, false, cond, leb, eqb, refl, ap, sym, ◌∙◌, arith, ◌%◌, ⊎_elim}
use Rattle.std.proofs.lemmas.Bool.{cases_lt}
use Rattle.std.proofs.lemmas.List.{take_more, append-nil}
use Rattle.std.proofs.lemmas.List.Elements.{All-nil, All-cons, All-head, All-tail}
use Rattle.local_order.specs.Mono.{degree, same}
use Rattle.local_order.specs.Order.{above}
use Rattle.sparse_poly.specs.Poly.{Term, Poly, coef, cut, IsIn, IsCanonical, IsAboveFirst, HasDegreeAtMost}
use Rattle.sparse_poly.specs.Canonical.{in_front, add_term, canonical}
use Rattle.sparse_poly.proofs.Canonical.{coef-canonical, canonical_self, canonical_same, IsCanonical-canonical}
use Rattle.sparse_poly.proofs.Coef.{total-cut_in, total-cut_out}
use Rattle.sparse_poly.proofs.Unique.{in_of_canonical, below-down}

-- what is at most d passes the test
low_test : (a d : ℕ) → a ≤ d → leb a d ≡ true
low_test a d l = grind arith

-- what is above d does not
high_test : (a d : ℕ) → d < a → leb a d ≡ false
high_test a d l = grind arith

-- what passes the test is at most d
low_of : (a d : ℕ) → leb a d ≡ true → a ≤ d
low_of a d e = grind arith

-- a term up to the degree stays
pub cut-low : (d : ℕ) (t : Term) (f : Poly) → degree t.mono ≤ d → cut d (t ∷ f) ≡ t ∷ cut d f
cut-low d t f l = ap (λ b. cond b (t ∷ cut d f) (cut d f)) (low_test (degree t.mono) d l)

-- a term above it goes
pub cut-high : (d : ℕ) (t : Term) (f : Poly) → d < degree t.mono → cut d (t ∷ f) ≡ cut d f
cut-high d t f l = ap (λ b. cond b (t ∷ cut d f) (cut d f)) (high_test (degree t.mono) d l)

-- a sum is cut term by term
pub cut-append : (d : ℕ) (f g : Poly) → cut d (f ++ g) ≡ cut d f ++ cut d g
cut-append d [] g = refl
cut-append d (t ∷ f) g = go (leb (degree t.mono) d) (cut-append d f g)
  where
    go : (b : Bool) → cut d (f ++ g) ≡ cut d f ++ cut d g → cond b (t ∷ cut d (f ++ g)) (cut d (f ++ g)) ≡ cond b (t ∷ cut d f) (cut d f) ++ cut d g
    go true e = ap (λ x. t ∷ x) e
    go false e = e

-- a part is in the same variables
pub in-cut : (n d : ℕ) (f : Poly) → IsIn n f → IsIn n (cut d f)
in-cut n d [] h = tt
in-cut n d (t ∷ f) h = go (leb (degree t.mono) d) (in-cut n d f h.1)
  where
    go : (b : Bool) → IsIn n (cut d f) → IsIn n (cond b (t ∷ cut d f) (cut d f))
    go true i = (h.0, i)
    go false i = i

-- a monomial above a canonical polynomial is above each part
below-cut : (p n d : ℕ) (k : List ℕ) (f : Poly) → IsAboveFirst k f → IsCanonical p n f → IsAboveFirst k (cut d f)
below-cut p n d k [] b w = tt
below-cut p n d k (t ∷ f) b w = go (leb (degree t.mono) d) (below-cut p n d k f (below-down p n k t f b w.3) w.4)
  where
    go : (e : Bool) → IsAboveFirst k (cut d f) → IsAboveFirst k (cond e (t ∷ cut d f) (cut d f))
    go true i = b
    go false i = i

-- a part of a canonical polynomial is canonical
pub IsCanonical-cut : (p n d : ℕ) (f : Poly) → IsCanonical p n f → IsCanonical p n (cut d f)
IsCanonical-cut p n d [] w = tt
IsCanonical-cut p n d (t ∷ f) w = go (leb (degree t.mono) d) (IsCanonical-cut p n d f w.4)
  where
    go : (e : Bool) → IsCanonical p n (cut d f) → IsCanonical p n (cond e (t ∷ cut d f) (cut d f))
    go true i = (w.0, w.1, w.2, below-cut p n d t.mono f w.3 w.4, i)
    go false i = i

-- one term more
pub cut-more : (d : ℕ) (f : Poly) (i : ℕ) (t : Term) → i < length f → t ≡ get_or f i t → cut d (take (i + 1) f) ≡ cut d (take i f) ++ cut d (t ∷ [])
cut-more d f i t l e = ap (cut d) (take_more f i t l ∙ ap (λ s. take i f ++ s ∷ []) (sym e)) ∙ cut-append d (take i f) (t ∷ [])

-- all of a polynomial of degree at most d
pub cut-whole : (d : ℕ) (f : Poly) → HasDegreeAtMost d f → cut d f ≡ f
cut-whole d [] h = refl
cut-whole d (t ∷ f) h =
    cut-low d t f (All-head (λ s. degree s.mono ≤ d) t f h) ∙ ap (λ x. t ∷ x) (cut-whole d f (All-tail (λ s. degree s.mono ≤ d) t f h))

-- a part is all of itself
pub cut-cut : (d : ℕ) (f : Poly) → cut d (cut d f) ≡ cut d f
cut-cut d [] = refl
cut-cut d (t ∷ f) = go (leb (degree t.mono) d) refl (cut-cut d f)
  where
    go : (b : Bool) → leb (degree t.mono) d ≡ b → cut d (cut d f) ≡ cut d f → cut d (cond b (t ∷ cut d f) (cut d f)) ≡ cond b (t ∷ cut d f) (cut d f)
    go true e i = cut-low d t (cut d f) (low_of (degree t.mono) d e) ∙ ap (λ x. t ∷ x) i
    go false e i = i

-- a term that is taken
pub cut_taken : (d : ℕ) (f done next : Poly) (i : ℕ) (t : Term) → i < length f → t ≡ get_or f i t → done ≡ cut d (take i f) → degree t.mono ≤ d → next ≡ done ++ t ∷ [] → next ≡ cut d (take (i + 1) f)
cut_taken d f done next i t l e before low after =
    after ∙ ap (λ x. x ++ t ∷ []) before ∙ ap (λ x. cut d (take i f) ++ x) (sym (cut-low d t [] low)) ∙ sym (cut-more d f i t l e)

-- a term that is left out
pub cut_left_out : (d : ℕ) (f done : Poly) (i : ℕ) (t : Term) → i < length f → t ≡ get_or f i t → done ≡ cut d (take i f) → d < degree t.mono → done ≡ cut d (take (i + 1) f)
cut_left_out d f done i t l e before high =
    before ∙ sym (append-nil (cut d (take i f))) ∙ ap (λ x. cut d (take i f) ++ x) (sym (cut-high d t [] high)) ∙ sym (cut-more d f i t l e)

-- what is written of a part up to a degree is up to the degree
pub cut-written : (p n d : ℕ) (f : Poly) → 0 < p → IsIn n f → cut d (canonical p (cut d f)) ≡ canonical p (cut d f)
cut-written p n d f pos i =
    sym (canonical_self p n (cut d written) pos (IsCanonical-cut p n d written w))
    ∙ canonical_same p n (cut d written) written pos (in-cut n d written (in_of_canonical p n written w)) (in_of_canonical p n written w) same
    ∙ canonical_self p n written pos w
  where
    written : Poly
    written = canonical p (cut d f)

    w : IsCanonical p n written
    w = IsCanonical-canonical p n (cut d f) pos (in-cut n d f i)

    same : (m : List ℕ) → length m ≡ n → coef p (cut d written) m ≡ coef p written m
    same m l =
        ⊎_elim
        (λ (high : d < degree m).
        ap (λ x. x % p) (total-cut_out d written m high)
        ∙ sym (coef-canonical p (cut d f) m ∙ ap (λ x. x % p) (total-cut_out d f m high)))
        (λ (low : degree m ≤ d). ap (λ x. x % p) (total-cut_in d written m low))
        (cases_lt d (degree m))

-- ---- degrees
-- a part has at most the degree of the cut
pub HasDegreeAtMost-cut : (d : ℕ) (f : Poly) → HasDegreeAtMost d (cut d f)
HasDegreeAtMost-cut d [] = All-nil (λ s. degree s.mono ≤ d)
HasDegreeAtMost-cut d (t ∷ f) = go (leb (degree t.mono) d) refl (HasDegreeAtMost-cut d f)
  where
    go : (b : Bool) → leb (degree t.mono) d ≡ b → HasDegreeAtMost d (cut d f) → HasDegreeAtMost d (cond b (t ∷ cut d f) (cut d f))
    go true e i = All-cons (λ s. degree s.mono ≤ d) t (cut d f) (low_of (degree t.mono) d e) i
    go false e i = i

-- a term in front keeps the bound
in_front-low : (d c : ℕ) (m : List ℕ) (f : Poly) → degree m ≤ d → HasDegreeAtMost d f → HasDegreeAtMost d (in_front c m f)
in_front-low d c m f l h = go (eqb c 0)
  where
    go : (b : Bool) → HasDegreeAtMost d (cond b f (record { mono = m; coef = c } ∷ f))
    go true = h
    go false = All-cons (λ s. degree s.mono ≤ d) (record { mono = m; coef = c }) f l h

-- so does one more term
add_term-low : (p d : ℕ) (t : Term) (f : Poly) → degree t.mono ≤ d → HasDegreeAtMost d f → HasDegreeAtMost d (add_term p t f)
add_term-low p d t [] l h = in_front-low d (t.coef % p) t.mono [] l h
add_term-low p d t (s ∷ f) l h = go (above t.mono s.mono) (same t.mono s.mono) (add_term-low p d t f l tail)
  where
    head : degree s.mono ≤ d
    head = All-head (λ u. degree u.mono ≤ d) s f h

    tail : HasDegreeAtMost d f
    tail = All-tail (λ u. degree u.mono ≤ d) s f h

    go : (a e : Bool) → HasDegreeAtMost d (add_term p t f) →
        HasDegreeAtMost d (cond a (in_front (t.coef % p) t.mono (s ∷ f)) (cond e (in_front ((t.coef + s.coef) % p) s.mono f) (s ∷ add_term p t f)))
    go true e i = in_front-low d (t.coef % p) t.mono (s ∷ f) l h
    go false true i = in_front-low d ((t.coef + s.coef) % p) s.mono f head tail
    go false false i = All-cons (λ u. degree u.mono ≤ d) s (add_term p t f) head i

-- writing keeps the bound on the degree
pub HasDegreeAtMost-canonical : (p d : ℕ) (f : Poly) → HasDegreeAtMost d f → HasDegreeAtMost d (canonical p f)
HasDegreeAtMost-canonical p d [] h = h
HasDegreeAtMost-canonical p d (t ∷ f) h =
    add_term-low p d t (canonical p f) (All-head (λ s. degree s.mono ≤ d) t f h) (HasDegreeAtMost-canonical p d f (All-tail (λ s. degree s.mono ≤ d) t f h))
