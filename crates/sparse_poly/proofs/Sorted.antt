-- A list is canonical exactly where it is sorted and its coefficients are residues.
-- Both go term by term. So what a polynomial keeps of its terms, and what a call asks of their coefficients, make them canonical.
use Rattle.std.proofs.Common.{◌≡◌, ℕ, zero, suc, ◌<◌, List, [], ◌∷◌, length, get_or, Bool, true, false, cond, leb, subst, sym, arith}
use Rattle.std.proofs.lemmas.List.Elements.{All-nil, All-cons, All-head, All-tail}
use Rattle.local_order.specs.Mono.{degree}
use Rattle.local_order.proofs.Order.{above_trans}
use Rattle.local_order.specs.Order.{IsAbove}
use Rattle.sparse_poly.specs.Poly.{Term, Poly, Polynomial, cut, IsAboveFirst, IsSorted, HasResidues, IsCanonical}

-- a canonical list is sorted
pub sorted_of : (p n : ℕ) (f : Poly) → IsCanonical p n f → IsSorted n f
sorted_of p n [] w = tt
sorted_of p n (t ∷ f) w = (w.0, w.1, w.3, sorted_of p n f w.4)

-- and has residues
pub residues_of : (p n : ℕ) (f : Poly) → IsCanonical p n f → HasResidues p f
residues_of p n [] w = All-nil (λ t. t.coef < p)
residues_of p n (t ∷ f) w = All-cons (λ t. t.coef < p) t f w.2 (residues_of p n f w.4)

-- a sorted list of terms with residues is canonical
pub canonical_of : (p n : ℕ) (f : Poly) → IsSorted n f → HasResidues p f → IsCanonical p n f
canonical_of p n [] s r = tt
canonical_of p n (t ∷ f) s r = (s.0, s.1, All-head (λ t. t.coef < p) t f r, s.2, canonical_of p n f s.3 (All-tail (λ t. t.coef < p) t f r))

-- so the terms of a polynomial that is kept sorted are canonical, where they have residues
pub canonical_terms : (p : ℕ) (f g : Polynomial) → f ≡ g → IsSorted f.n f.terms → HasResidues p g.terms → IsCanonical p g.n g.terms
canonical_terms p f g e s r = canonical_of p g.n g.terms (subst (λ h. IsSorted h.n h.terms) e s) r

-- each term of a sorted list has n exponents
pub length_at : (n : ℕ) (f : Poly) (i : ℕ) (t : Term) → IsSorted n f → i < length f → t ≡ get_or f i t → length t.mono ≡ n
length_at n [] i t s l e = absurd (omega arith)
length_at n (u ∷ f) zero t s l e = subst (λ x. length x.mono ≡ n) (sym e) s.0
length_at n (u ∷ f) (suc i) t s l e = length_at n f i t s.3 (omega arith) e

-- a monomial above the first of a sorted list is above the first of the rest
pub above_rest : (n : ℕ) (m : List ℕ) (t : Term) (f : Poly) → IsAbove m t.mono → IsAboveFirst t.mono f → IsAboveFirst m f
above_rest n m t [] h k = tt
above_rest n m t (s ∷ f) h k = above_trans m t.mono s.mono h k

-- and above the first of its part up to a degree
above-cut : (n d : ℕ) (m : List ℕ) (f : Poly) → IsAboveFirst m f → IsSorted n f → IsAboveFirst m (cut d f)
above-cut n d m [] b s = tt
above-cut n d m (t ∷ f) b s = go (leb (degree t.mono) d) (above-cut n d m f (above_rest n m t f b s.2) s.3)
  where
    go : (e : Bool) → IsAboveFirst m (cut d f) → IsAboveFirst m (cond e (t ∷ cut d f) (cut d f))
    go true h = b
    go false h = h

-- the part of a sorted list up to a degree is sorted
pub IsSorted-cut : (n d : ℕ) (f : Poly) → IsSorted n f → IsSorted n (cut d f)
IsSorted-cut n d [] s = tt
IsSorted-cut n d (t ∷ f) s = go (leb (degree t.mono) d) (IsSorted-cut n d f s.3)
  where
    go : (e : Bool) → IsSorted n (cut d f) → IsSorted n (cond e (t ∷ cut d f) (cut d f))
    go true h = (s.0, s.1, above-cut n d t.mono f s.2 s.3, h)
    go false h = h

-- and has residues where the list has
pub HasResidues-cut : (p d : ℕ) (f : Poly) → HasResidues p f → HasResidues p (cut d f)
HasResidues-cut p d [] r = r
HasResidues-cut p d (t ∷ f) r = go (leb (degree t.mono) d) (HasResidues-cut p d f (All-tail (λ t. t.coef < p) t f r))
  where
    go : (e : Bool) → HasResidues p (cut d f) → HasResidues p (cond e (t ∷ cut d f) (cut d f))
    go true h = All-cons (λ t. t.coef < p) t (cut d f) (All-head (λ t. t.coef < p) t f r) h
    go false h = h
