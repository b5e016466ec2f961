-- What is written has the coefficients of what it was written from.
-- Terms are added one by one, each at its place; the canonical form is the one list that comes of it.
use Rattle.std.proofs.Common.{◌≡◌, ℕ, ◌+◌, ◌%◌, ◌<◌, List, [], ◌∷◌, ◌++◌, length, take, drop, Bool, true, false, cond, eqb, refl, ap, sym, ◌∙◌, subst, arith}
use Rattle.std.proofs.Math.Nat.{mod-mod, mod-lt}
use Rattle.std.proofs.lemmas.List.{take-append-drop}
use Rattle.prime_field.proofs.Residue.{add_same}
use Rattle.local_order.specs.Mono.{same}
use Rattle.local_order.specs.Order.{IsAbove, above}
use Rattle.local_order.proofs.Order.{above_trans, same-true, above-true, above-false}
use Rattle.sparse_poly.specs.Poly.{Term, Poly, total, coef, IsIn, IsSame, IsCanonical, IsAboveFirst}
use Rattle.sparse_poly.specs.Canonical.{in_front, add_term, canonical}
use Rattle.sparse_poly.proofs.Unique.{in_of_canonical, canonical_unique, same_total}
use Rattle.sparse_poly.proofs.Coef.{total-append}
use Rattle.sparse_poly.proofs.Member.{in-append, in-take, in-drop}

-- a number that passes the test for 0 is 0
pub eq_zero : (a : ℕ) → eqb a 0 ≡ true → a ≡ 0
eq_zero a h = grind arith

-- and one that does not is positive
pub pos_of : (a : ℕ) → eqb a 0 ≡ false → 0 < a
pos_of a h = grind arith

-- ---- coefficients
-- a term in front adds its coefficient at its monomial
pub total-in_front : (c : ℕ) (m : List ℕ) (f : Poly) (k : List ℕ) → total (in_front c m f) k ≡ cond (same m k) c 0 + total f k
total-in_front c m f k = go (eqb c 0) refl
  where
    zero_either : (b : Bool) (x : ℕ) → c ≡ 0 → x ≡ cond b c 0 + x
    zero_either true x z = omega arith
    zero_either false x z = omega arith

    go : (b : Bool) → eqb c 0 ≡ b → total (cond b f (record { mono = m; coef = c } ∷ f)) k ≡ cond (same m k) c 0 + total f k
    go true e = zero_either (same m k) (total f k) (eq_zero c e)
    go false e = refl

-- modulo p the coefficient of a term may be reduced
cond_mod : (p : ℕ) (b : Bool) (c x y : ℕ) → x % p ≡ y % p → (cond b (c % p) 0 + x) % p ≡ (cond b c 0 + y) % p
cond_mod p true c x y h = add_same p (c % p) c x y (mod-mod c p) h
cond_mod p false c x y h = add_same p 0 0 x y refl h

-- so may that of a term in front
coef-in_front : (p c : ℕ) (m : List ℕ) (f : Poly) (k : List ℕ) → coef p (in_front (c % p) m f) k ≡ (cond (same m k) c 0 + total f k) % p
coef-in_front p c m f k = ap (λ x. x % p) (total-in_front (c % p) m f k) ∙ cond_mod p (same m k) c (total f k) (total f k) refl

-- one more term adds its coefficient at its monomial
pub coef-add_term : (p : ℕ) (t : Term) (f : Poly) (k : List ℕ) → coef p (add_term p t f) k ≡ (cond (same t.mono k) t.coef 0 + total f k) % p
coef-add_term p t [] k = coef-in_front p t.coef t.mono [] k
coef-add_term p t (s ∷ f) k = go (coef-add_term p t f k) (above t.mono s.mono) (same t.mono s.mono) refl
  where
    swap : (b d : Bool) (x y z : ℕ) → (cond b x 0 + (cond d y 0 + z)) ≡ (cond d y 0 + (cond b x 0 + z))
    swap b d x y z = omega arith

    join : (b d : Bool) (x y z : ℕ) → b ≡ d → cond d (x + y) 0 + z ≡ cond b x 0 + (cond d y 0 + z)
    join true d x y z e = subst (λ d. cond d (x + y) 0 + z ≡ cond true x 0 + (cond d y 0 + z)) e (omega arith)
    join false d x y z e = subst (λ d. cond d (x + y) 0 + z ≡ cond false x 0 + (cond d y 0 + z)) e (omega arith)

    go : coef p (add_term p t f) k ≡ (cond (same t.mono k) t.coef 0 + total f k) % p → (a e : Bool) → same t.mono s.mono ≡ e →
        coef p (cond a (in_front (t.coef % p) t.mono (s ∷ f)) (cond e (in_front ((t.coef + s.coef) % p) s.mono f) (s ∷ add_term p t f))) k
        ≡ (cond (same t.mono k) t.coef 0 + total (s ∷ f) k) % p
    go i true e h = coef-in_front p t.coef t.mono (s ∷ f) k
    go i false true h =
        coef-in_front p (t.coef + s.coef) s.mono f k
        ∙ ap (λ x. x % p) (join (same t.mono k) (same s.mono k) t.coef s.coef (total f k) (ap (λ m. same m k) (same-true t.mono s.mono h)))
    go i false false h =
        add_same p (cond (same s.mono k) s.coef 0) (cond (same s.mono k) s.coef 0) (total (add_term p t f) k) (cond (same t.mono k) t.coef 0 + total f k) refl i
        ∙ ap (λ x. x % p) (swap (same s.mono k) (same t.mono k) s.coef t.coef (total f k))

-- what is written has the coefficients of what it was written from
pub coef-canonical : (p : ℕ) (f : Poly) (k : List ℕ) → coef p (canonical p f) k ≡ coef p f k
coef-canonical p [] k = refl
coef-canonical p (t ∷ f) k =
    coef-add_term p t (canonical p f) k
    ∙ add_same p (cond (same t.mono k) t.coef 0) (cond (same t.mono k) t.coef 0) (total (canonical p f) k) (total f k) refl (coef-canonical p f k)

-- ---- form
-- a monomial above a term and the rest is above both together
below-in_front : (c : ℕ) (m k : List ℕ) (f : Poly) → IsAbove k m → IsAboveFirst k f → IsAboveFirst k (in_front c m f)
below-in_front c m k f h b = go (eqb c 0)
  where
    go : (e : Bool) → IsAboveFirst k (cond e f (record { mono = m; coef = c } ∷ f))
    go true = b
    go false = h

-- a term above a canonical polynomial goes in front of it
IsCanonical-in_front : (p n c : ℕ) (m : List ℕ) (f : Poly) → 0 < p → length m ≡ n → IsAboveFirst m f → IsCanonical p n f → IsCanonical p n (in_front (c % p) m f)
IsCanonical-in_front p n c m f pos l b w = go (eqb (c % p) 0) refl
  where
    go : (e : Bool) → eqb (c % p) 0 ≡ e → IsCanonical p n (cond e f (record { mono = m; coef = c % p } ∷ f))
    go true e = w
    go false e = (l, pos_of (c % p) e, mod-lt c pos, b, w)

-- a monomial above a term and a canonical polynomial is above their sum
below-add_term : (p n : ℕ) (t : Term) (f : Poly) (k : List ℕ) → IsAbove k t.mono → IsAboveFirst k f → IsCanonical p n f → IsAboveFirst k (add_term p t f)
below-add_term p n t [] k h b w = below-in_front (t.coef % p) t.mono k [] h tt
below-add_term p n t (s ∷ f) k h b w = go (above t.mono s.mono) (same t.mono s.mono)
  where
    tail : (f : Poly) → IsAboveFirst s.mono f → IsAboveFirst k f
    tail [] d = tt
    tail (u ∷ f) d = above_trans k s.mono u.mono b d

    go : (a e : Bool) → IsAboveFirst k (cond a (in_front (t.coef % p) t.mono (s ∷ f)) (cond e (in_front ((t.coef + s.coef) % p) s.mono f) (s ∷ add_term p t f)))
    go true e = below-in_front (t.coef % p) t.mono k (s ∷ f) h b
    go false true = below-in_front ((t.coef + s.coef) % p) s.mono k f b (tail f w.3)
    go false false = b

-- one more term keeps the canonical form
pub IsCanonical-add_term : (p n : ℕ) (t : Term) (f : Poly) → 0 < p → length t.mono ≡ n → IsCanonical p n f → IsCanonical p n (add_term p t f)
IsCanonical-add_term p n t [] pos l w = IsCanonical-in_front p n t.coef t.mono [] pos l tt tt
IsCanonical-add_term p n t (s ∷ f) pos l w = go (IsCanonical-add_term p n t f pos l w.4) (above t.mono s.mono) (same t.mono s.mono) refl refl
  where
    go : IsCanonical p n (add_term p t f) → (a e : Bool) → above t.mono s.mono ≡ a → same t.mono s.mono ≡ e →
        IsCanonical p n (cond a (in_front (t.coef % p) t.mono (s ∷ f)) (cond e (in_front ((t.coef + s.coef) % p) s.mono f) (s ∷ add_term p t f)))
    go i true e x y = IsCanonical-in_front p n t.coef t.mono (s ∷ f) pos l (above-true t.mono s.mono x) w
    go i false true x y = IsCanonical-in_front p n (t.coef + s.coef) s.mono f pos w.0 w.3 w.4
    go i false false x y =
        (w.0, w.1, w.2, below-add_term p n t f s.mono (above-false t.mono s.mono (omega (arith, l, w.0)) x y) w.3 w.4, i)

-- what is written is canonical
pub IsCanonical-canonical : (p n : ℕ) (f : Poly) → 0 < p → IsIn n f → IsCanonical p n (canonical p f)
IsCanonical-canonical p n [] pos i = tt
IsCanonical-canonical p n (t ∷ f) pos i = IsCanonical-add_term p n t (canonical p f) pos i.0 (IsCanonical-canonical p n f pos i.1)

-- what has the same coefficients is written alike
pub canonical_same : (p n : ℕ) (f g : Poly) → 0 < p → IsIn n f → IsIn n g → IsSame p n f g → canonical p f ≡ canonical p g
canonical_same p n f g pos i j s =
    let v : IsCanonical p n (canonical p f) = IsCanonical-canonical p n f pos i in
    let w : IsCanonical p n (canonical p g) = IsCanonical-canonical p n g pos j in
    canonical_unique p n (canonical p f) (canonical p g) v w
    (same_total p n (canonical p f) (canonical p g) pos v w
    (λ m l. coef-canonical p f m ∙ s m l ∙ sym (coef-canonical p g m)))

-- a canonical polynomial is written already
pub canonical_self : (p n : ℕ) (f : Poly) → 0 < p → IsCanonical p n f → canonical p f ≡ f
canonical_self p n f pos w =
    let v : IsCanonical p n (canonical p f) = IsCanonical-canonical p n f pos (in_of_canonical p n f w) in
    canonical_unique p n (canonical p f) f v w (same_total p n (canonical p f) f pos v w (λ m l. coef-canonical p f m))

-- a sum of canonical polynomials, written
pub IsCanonical-sum : (p n : ℕ) (f g : Poly) → IsCanonical p n f → IsCanonical p n g → IsCanonical p n (canonical p (f ++ g))
IsCanonical-sum p n [] [] v w = tt
IsCanonical-sum p n [] (t ∷ g) v w = IsCanonical-canonical p n (t ∷ g) (omega (arith, w.1, w.2)) (in_of_canonical p n (t ∷ g) w)
IsCanonical-sum p n (t ∷ f) g v w =
    IsCanonical-canonical p n (t ∷ f ++ g) (omega (arith, v.1, v.2)) (in-append n (t ∷ f) g (in_of_canonical p n (t ∷ f) v) (in_of_canonical p n g w))

-- the sum of two written polynomials is that of the two
pub canonical-append : (p n : ℕ) (f g : Poly) → 0 < p → IsIn n f → IsIn n g → canonical p (canonical p f ++ canonical p g) ≡ canonical p (f ++ g)
canonical-append p n f g pos i j =
    canonical_same p n (canonical p f ++ canonical p g) (f ++ g) pos
    (in-append n (canonical p f) (canonical p g) (in_of_canonical p n _ (IsCanonical-canonical p n f pos i)) (in_of_canonical p n _ (IsCanonical-canonical p n g pos j)))
    (in-append n f g i j)
    (λ m l.
    ap (λ x. x % p) (total-append (canonical p f) (canonical p g) m)
    ∙ add_same p (total (canonical p f) m) (total f m) (total (canonical p g) m) (total g m) (coef-canonical p f m) (coef-canonical p g m)
    ∙ sym (ap (λ x. x % p) (total-append f g m)))

-- one of the two may be written before the sum is
pub canonical-right : (p n : ℕ) (f g : Poly) → 0 < p → IsIn n f → IsIn n g → canonical p (f ++ canonical p g) ≡ canonical p (f ++ g)
canonical-right p n f g pos i j =
    canonical_same p n (f ++ canonical p g) (f ++ g) pos
    (in-append n f (canonical p g) i (in_of_canonical p n _ (IsCanonical-canonical p n g pos j)))
    (in-append n f g i j)
    (λ m l.
    ap (λ x. x % p) (total-append f (canonical p g) m)
    ∙ add_same p (total f m) (total f m) (total (canonical p g) m) (total g m) refl (coef-canonical p g m)
    ∙ sym (ap (λ x. x % p) (total-append f g m)))

-- the sum of its two halves is the whole
pub canonical-halves : (p n k : ℕ) (f u v : Poly) → 0 < p → IsIn n f → u ≡ canonical p (take k f) → v ≡ canonical p (drop k f) → canonical p (u ++ v) ≡ canonical p f
canonical-halves p n k f u v pos i d e =
    ap (λ x. canonical p (x ++ v)) d
    ∙ ap (λ x. canonical p (canonical p (take k f) ++ x)) e
    ∙ canonical-append p n (take k f) (drop k f) pos (in-take n k f i) (in-drop n k f i)
    ∙ ap (canonical p) (take-append-drop k f)
