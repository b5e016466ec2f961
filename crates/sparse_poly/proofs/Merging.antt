-- Two written polynomials are merged.
-- What is done with what is left of either is canonical, and adds up to the sum with what is left of both.
use Rattle.std.proofs.Common.{◌≡◌, ℕ, zero, suc, ◌+◌, ◌%◌, ◌<◌, ◌≤◌, ◌⊎◌, List, [], ◌∷◌, ◌++◌, length, drop, get_or, Bool, true, false, cond, eqb, refl, ap, sym, ◌∙◌, inl, inr, subst, arith, append_assoc, drop-cons}
use Rattle.std.proofs.Math.Nat.{mod-lt, mod-mod}
use Rattle.std.proofs.lemmas.List.{drop_all, append-nil}
use Rattle.prime_field.proofs.Residue.{add_same}
use Rattle.local_order.specs.Mono.{same}
use Rattle.local_order.specs.Order.{IsAbove}
use Rattle.local_order.proofs.Order.{above_trans}
use Rattle.sparse_poly.specs.Poly.{Term, Poly, total, coef, IsCanonical, IsAboveFirst}
use Rattle.sparse_poly.specs.Canonical.{canonical, in_front}
use Rattle.sparse_poly.proofs.Coef.{total-append}
use Rattle.sparse_poly.proofs.Member.{in-append}
use Rattle.sparse_poly.proofs.Unique.{in_of_canonical}
use Rattle.sparse_poly.proofs.Canonical.{canonical_self, canonical_same, eq_zero, pos_of}

-- after i terms of f and j of g, with the terms `done`
pub record Merging (p : ℕ) (f g : Poly) (i j : ℕ) (done : Poly) : Type 0 where
  pub n : ℕ
  pub f_canonical : IsCanonical p n f
  pub g_canonical : IsCanonical p n g
  pub i_in : i ≤ length f
  pub j_in : j ≤ length g
  pub left : IsCanonical p n (done ++ drop i f)
  pub right : IsCanonical p n (done ++ drop j g)
  pub sums : (k : List ℕ) → (total done k + (total (drop i f) k + total (drop j g) k)) % p ≡ (total f k + total g k) % p

-- another term with the same monomial changes nothing above it
below_put : (m : List ℕ) (done : Poly) (a t : Term) (f h : Poly) → t.mono ≡ a.mono → IsAboveFirst m (done ++ a ∷ f) → IsAboveFirst m (done ++ t ∷ h)
below_put m [] a t f h e b = subst (λ x. IsAbove m x) (sym e) b
below_put m (x ∷ done) a t f h e b = b

-- another term and another rest in place of those at a place
pub put : (p n : ℕ) (done : Poly) (a t : Term) (f h : Poly) → IsCanonical p n (done ++ a ∷ f) → t.mono ≡ a.mono → 0 < t.coef → t.coef < p → IsAboveFirst t.mono h → IsCanonical p n h → IsCanonical p n (done ++ t ∷ h)
put p n [] a t f h w e pos small b v = (ap length e ∙ w.0, pos, small, b, v)
put p n (x ∷ done) a t f h w e pos small b v = (w.0, w.1, w.2, below_put x.mono done a t f h e w.3, put p n done a t f h w.4 e pos small b v)

-- nor does a term less
below_less : (p n : ℕ) (m : List ℕ) (done : Poly) (a : Term) (f : Poly) → IsCanonical p n (done ++ a ∷ f) → IsAboveFirst m (done ++ a ∷ f) → IsAboveFirst m (done ++ f)
below_less p n m [] a [] w b = tt
below_less p n m [] a (t ∷ f) w b = above_trans m a.mono t.mono b w.3
below_less p n m (x ∷ done) a f w b = b

-- without the term at a place
pub less : (p n : ℕ) (done : Poly) (a : Term) (f : Poly) → IsCanonical p n (done ++ a ∷ f) → IsCanonical p n (done ++ f)
less p n [] a f w = w.4
less p n (x ∷ done) a f w = (w.0, w.1, w.2, below_less p n x.mono done a f w.4 w.3, less p n done a f w.4)

-- the last terms of a canonical polynomial are canonical
pub rest_of : (p n : ℕ) (done f : Poly) → IsCanonical p n (done ++ f) → IsCanonical p n f
rest_of p n [] f w = w
rest_of p n (x ∷ done) f w = rest_of p n done f w.4

-- what is left begins with the next term
pub open_drop : (f : Poly) (i : ℕ) (a : Term) → i < length f → a ≡ get_or f i a → drop i f ≡ a ∷ drop (i + 1) f
open_drop f i a l e = drop-cons f i a l ∙ ap (λ x. x ∷ drop (suc i) f) (sym e) ∙ ap (λ k. a ∷ drop k f) (let q : suc i ≡ i + 1 = omega arith in q)

-- the two may change places
pub swapped : (p : ℕ) (f g : Poly) (i j : ℕ) (done : Poly) → Merging p f g i j done → Merging p g f j i done
swapped p f g i j done x = record {
  n = x.n;
  f_canonical = x.g_canonical;
  g_canonical = x.f_canonical;
  i_in = x.j_in;
  j_in = x.i_in;
  left = x.right;
  right = x.left;
  sums = λ k.
      ap (λ z. z % p) (let q : total done k + (total (drop j g) k + total (drop i f) k) ≡ total done k + (total (drop i f) k + total (drop j g) k) = omega arith in q)
      ∙ x.sums k
      ∙ ap (λ z. z % p) (let q : total f k + total g k ≡ total g k + total f k = omega arith in q);
}

-- the next term of f is taken
pub take_left : (p : ℕ) (f g : Poly) (i j : ℕ) (done : Poly) (a : Term) → Merging p f g i j done → i < length f → a ≡ get_or f i a → IsAboveFirst a.mono (drop j g) →
    Merging p f g (i + 1) j (done ++ a ∷ [])
take_left p f g i j done a x l e b = record {
  n = x.n;
  f_canonical = x.f_canonical;
  g_canonical = x.g_canonical;
  i_in = omega arith;
  j_in = x.j_in;
  left = rw append_assoc opened;
  right = rw append_assoc (put p x.n done a a (drop (i + 1) f) (drop j g) opened refl own.1 own.2 b (rest_of p x.n done (drop j g) x.right));
  sums = λ k.
      ap (λ z. z % p) (let q : total (done ++ a ∷ []) k + (total (drop (i + 1) f) k + total (drop j g) k) ≡ total done k + (total (drop i f) k + total (drop j g) k) =
      omega (arith, total-append done (a ∷ []) k, ap (λ h. total h k) (open_drop f i a l e)) in q)
      ∙ x.sums k;
}
  where
    opened : IsCanonical p x.n (done ++ a ∷ drop (i + 1) f)
    opened = subst (λ h. IsCanonical p x.n (done ++ h)) (open_drop f i a l e) x.left

    own : IsCanonical p x.n (a ∷ drop (i + 1) f)
    own = rest_of p x.n done (a ∷ drop (i + 1) f) opened

-- both next terms have one monomial
pub take_both : (p : ℕ) (f g : Poly) (i j : ℕ) (done : Poly) (a b : Term) (c : ℕ) (next : Poly) → Merging p f g i j done → i < length f → j < length g →
    a ≡ get_or f i a → b ≡ get_or g j b → a.mono ≡ b.mono → c ≡ (a.coef + b.coef) % p → next ≡ done ++ in_front c a.mono [] → Merging p f g (i + 1) (j + 1) next
take_both p f g i j done a b c next x li lj ea eb same_mono value made =
    subst (Merging p f g (i + 1) (j + 1)) (sym made) (go (eqb c 0) refl)
  where
    opened_f : IsCanonical p x.n (done ++ a ∷ drop (i + 1) f)
    opened_f = subst (λ h. IsCanonical p x.n (done ++ h)) (open_drop f i a li ea) x.left

    opened_g : IsCanonical p x.n (done ++ b ∷ drop (j + 1) g)
    opened_g = subst (λ h. IsCanonical p x.n (done ++ h)) (open_drop g j b lj eb) x.right

    own_f : IsCanonical p x.n (a ∷ drop (i + 1) f)
    own_f = rest_of p x.n done (a ∷ drop (i + 1) f) opened_f

    own_g : IsCanonical p x.n (b ∷ drop (j + 1) g)
    own_g = rest_of p x.n done (b ∷ drop (j + 1) g) opened_g

    t : Term
    t = record { mono = a.mono; coef = c }

    cond_sum : (s : Bool) (u v w d : ℕ) → d ≡ (u + v) % p → (w + cond s d 0) % p ≡ (w + (cond s u 0 + cond s v 0)) % p
    cond_sum true u v w d e = add_same p w w d (u + v) refl (ap (λ z. z % p) e ∙ mod-mod (u + v) p)
    cond_sum false u v w d e = refl

    b_at : (k : List ℕ) → cond (same b.mono k) b.coef 0 ≡ cond (same a.mono k) b.coef 0
    b_at k = ap (λ m. cond (same m k) b.coef 0) (sym same_mono)

    below_p : c < p
    below_p = rw value (mod-lt (a.coef + b.coef) (omega (arith, own_f.2)))

    whole : (k : List ℕ) → total done k + (total (drop i f) k + total (drop j g) k) ≡ (total done k + (total (drop (i + 1) f) k + total (drop (j + 1) g) k)) + (cond (same a.mono k) a.coef 0 + cond (same a.mono k) b.coef 0)
    whole k = omega (arith, ap (λ h. total h k) (open_drop f i a li ea), ap (λ h. total h k) (open_drop g j b lj eb), b_at k)

    -- the sum at k without the two terms
    others : List ℕ → ℕ
    others k = total done k + (total (drop (i + 1) f) k + total (drop (j + 1) g) k)

    go : (e : Bool) → eqb c 0 ≡ e → Merging p f g (i + 1) (j + 1) (done ++ cond e [] (t ∷ []))
    go false e =
        let small : 0 < c = pos_of c e in
        record {
          n = x.n;
          f_canonical = x.f_canonical;
          g_canonical = x.g_canonical;
          i_in = omega arith;
          j_in = omega arith;
          left = rw append_assoc (put p x.n done a t (drop (i + 1) f) (drop (i + 1) f) opened_f refl small below_p own_f.3 own_f.4);
          right = rw append_assoc (put p x.n done b t (drop (j + 1) g) (drop (j + 1) g) opened_g same_mono small below_p (subst (λ m. IsAboveFirst m (drop (j + 1) g)) (sym same_mono) own_g.3) own_g.4);
          sums = λ k.
              ap (λ z. z % p) (let q : total (done ++ t ∷ []) k + (total (drop (i + 1) f) k + total (drop (j + 1) g) k) ≡ others k + cond (same a.mono k) c 0 = omega (arith, total-append done (t ∷ []) k) in q)
              ∙ cond_sum (same a.mono k) a.coef b.coef (others k) c value
              ∙ ap (λ z. z % p) (sym (whole k))
              ∙ x.sums k;
        }
    go true e = subst (Merging p f g (i + 1) (j + 1)) (sym (append-nil done)) (record {
      n = x.n;
      f_canonical = x.f_canonical;
      g_canonical = x.g_canonical;
      i_in = omega arith;
      j_in = omega arith;
      left = less p x.n done a (drop (i + 1) f) opened_f;
      right = less p x.n done b (drop (j + 1) g) opened_g;
      sums = λ k.
          ap (λ z. z % p) (nothing (same a.mono k) (others k) (eq_zero c e))
          ∙ cond_sum (same a.mono k) a.coef b.coef (others k) c value
          ∙ ap (λ z. z % p) (sym (whole k))
          ∙ x.sums k;
    })
      where
        nothing : (s : Bool) (w : ℕ) → c ≡ 0 → w ≡ w + cond s c 0
        nothing true w z = omega arith
        nothing false w z = omega arith

-- modulo 0 there is no other canonical polynomial than 0
none_modulo_zero : (n : ℕ) (f : Poly) → IsCanonical 0 n f → f ≡ []
none_modulo_zero n [] w = refl
none_modulo_zero n (t ∷ f) w = absurd (omega (arith, w.2))

-- one of the two has ended
pub merged : (p : ℕ) (f g : Poly) (i j : ℕ) (done : Poly) → Merging p f g i j done → (length f ≤ i) ⊎ (length g ≤ j) → (done ++ drop i f) ++ drop j g ≡ canonical p (f ++ g)
merged p f g i j done x ends = go p refl
  where
    whole : Poly
    whole = (done ++ drop i f) ++ drop j g

    both : (length f ≤ i) ⊎ (length g ≤ j) → IsCanonical p x.n whole
    both (inl a) = subst (IsCanonical p x.n) (ap (λ h. h ++ drop j g) (sym (append-nil done) ∙ ap (λ h. done ++ h) (sym (drop_all i f a)))) x.right
    both (inr b) = subst (IsCanonical p x.n) (sym (append-nil (done ++ drop i f)) ∙ ap (λ h. (done ++ drop i f) ++ h) (sym (drop_all j g b))) x.left

    sums : (m : List ℕ) → length m ≡ x.n → coef p whole m ≡ coef p (f ++ g) m
    sums m l =
        ap (λ z. z % p) (let q : total whole m ≡ total done m + (total (drop i f) m + total (drop j g) m) = omega (arith, total-append (done ++ drop i f) (drop j g) m, total-append done (drop i f) m) in q)
        ∙ x.sums m
        ∙ ap (λ z. z % p) (sym (total-append f g m))

    go : (k : ℕ) → p ≡ k → whole ≡ canonical p (f ++ g)
    go zero e =
        let f_none : f ≡ [] = none_modulo_zero x.n f (subst (λ k. IsCanonical k x.n f) e x.f_canonical) in
        let g_none : g ≡ [] = none_modulo_zero x.n g (subst (λ k. IsCanonical k x.n g) e x.g_canonical) in
        none_modulo_zero x.n whole (subst (λ k. IsCanonical k x.n whole) e (both ends))
        ∙ sym (ap (λ h. canonical p (h ++ g)) f_none ∙ ap (canonical p) g_none)
    go (suc k) e =
        sym (canonical_self p x.n whole (omega arith) (both ends))
        ∙ canonical_same p x.n whole (f ++ g) (omega arith) (in_of_canonical p x.n whole (both ends))
        (in-append x.n f g (in_of_canonical p x.n f x.f_canonical) (in_of_canonical p x.n g x.g_canonical)) sums

-- what is known of the next term of f
pub next_left : (p : ℕ) (f g : Poly) (i j : ℕ) (done : Poly) (a : Term) (x : Merging p f g i j done) → i < length f → a ≡ get_or f i a → (length a.mono ≡ x.n) × (0 < a.coef) × (a.coef < p)
next_left p f g i j done a x l e =
    let own : IsCanonical p x.n (a ∷ drop (i + 1) f) = rest_of p x.n done (a ∷ drop (i + 1) f) (subst (λ h. IsCanonical p x.n (done ++ h)) (open_drop f i a l e) x.left) in
    (own.0, own.1, own.2)

-- the head of what is left of g, for `IsAboveFirst`
pub below_next : (m : List ℕ) (g : Poly) (j : ℕ) (b : Term) → j < length g → b ≡ get_or g j b → IsAbove m b.mono → IsAboveFirst m (drop j g)
below_next m g j b l e h = subst (IsAboveFirst m) (sym (open_drop g j b l e)) h

-- and of the next term of g
pub next_right : (p : ℕ) (f g : Poly) (i j : ℕ) (done : Poly) (b : Term) (x : Merging p f g i j done) → j < length g → b ≡ get_or g j b → (length b.mono ≡ x.n) × (0 < b.coef) × (b.coef < p)
next_right p f g i j done b x l e =
    let own : IsCanonical p x.n (b ∷ drop (j + 1) g) = rest_of p x.n done (b ∷ drop (j + 1) g) (subst (λ h. IsCanonical p x.n (done ++ h)) (open_drop g j b l e) x.right) in
    (own.0, own.1, own.2)

-- the next term of g is taken
pub take_right : (p : ℕ) (f g : Poly) (i j : ℕ) (done : Poly) (b : Term) → Merging p f g i j done → j < length g → b ≡ get_or g j b → IsAboveFirst b.mono (drop i f) →
    Merging p f g i (j + 1) (done ++ b ∷ [])
take_right p f g i j done b x l e h = swapped p g f (j + 1) i (done ++ b ∷ []) (take_left p g f j i done b (swapped p f g i j done x) l e h)
