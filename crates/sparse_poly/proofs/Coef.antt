-- The coefficients of sums, products and cuts.
-- Sums and multiples are equations of lists; what terms add up to at a monomial follows from them.
use Rattle.std.proofs.Common.{◌≡◌, ℕ, ◌+◌, ◌*◌, ◌<◌, ◌≤◌, ◌≢◌, List, [], ◌∷◌, ◌++◌, length, Bool, true, false, cond, leb, eqb, ◌&&◌, refl, ap, sym, ◌∙◌, arith, append_assoc, mul-zero}
use Rattle.local_order.specs.Mono.{degree, mono_times, same}
use Rattle.local_order.proofs.Order.{mono_times_assoc, same-false}
use Rattle.sparse_poly.specs.Poly.{Poly, total, IsIn, cut, term_times, times}

-- what the terms of a sum add up to
pub total-append : (f g : Poly) (m : List ℕ) → total (f ++ g) m ≡ total f m + total g m
total-append [] g m = omega arith
total-append (t ∷ f) g m = omega (arith, total-append f g m)

-- products with one monomial are the same where the factors are
same-mono_times : (a b k : List ℕ) → length a ≡ length b → length a ≡ length k → same (mono_times a b) (mono_times a k) ≡ same b k
same-mono_times [] b k e l = refl
same-mono_times (x ∷ a) [] k e l = absurd (omega arith)
same-mono_times (x ∷ a) (y ∷ b) [] e l = absurd (omega arith)
same-mono_times (x ∷ a) (y ∷ b) (z ∷ k) e l = step x y z (same (mono_times a b) (mono_times a k)) (same b k) (same-mono_times a b k (omega arith) (omega arith))
  where
    step : (x y z : ℕ) (s t : Bool) → s ≡ t → (eqb (x + y) (x + z) && s) ≡ (eqb y z && t)
    step x y z s t e = grind arith

-- at a multiple of the shift's monomial
pub total-term_times : (c : ℕ) (a : List ℕ) (f : Poly) (k : List ℕ) (n : ℕ) → IsIn n f → length a ≡ n → length k ≡ n →
    total (term_times c a f) (mono_times a k) ≡ c * total f k
total-term_times c a [] k n h e l = sym (mul-zero c)
total-term_times c a (t ∷ f) k n h e l =
    rw (same-mono_times a t.mono k (omega arith) (omega arith)) (step (same t.mono k) (total-term_times c a f k n h.1 e l))
  where
    step : (b : Bool) → total (term_times c a f) (mono_times a k) ≡ c * total f k → cond b (c * t.coef) 0 + total (term_times c a f) (mono_times a k) ≡ c * (cond b t.coef 0 + total f k)
    step true i = omega (arith, i)
    step false i = omega (arith, i)

-- at a monomial that is no multiple there is nothing
pub total-shift_off : (c : ℕ) (a : List ℕ) (f : Poly) (m : List ℕ) (n : ℕ) → IsIn n f → length a ≡ n → length m ≡ n →
    ((k : List ℕ) → length k ≡ length m → m ≢ mono_times a k) → total (term_times c a f) m ≡ 0
total-shift_off c a [] m n h e l none = refl
total-shift_off c a (t ∷ f) m n h e l none =
    let off : same (mono_times a t.mono) m ≡ false = same-false (mono_times a t.mono) m (λ s. none t.mono (omega arith) (sym s)) in
    rw off (omega (arith, total-shift_off c a f m n h.1 e l none))

-- two monomials of which one is within a degree and the other beyond it differ
above : (d : ℕ) (a b : List ℕ) → a ≡ b → d < degree a → degree b ≤ d → ⊥
above d a b e h l = omega (arith, ap degree e)

-- up to the degree a cut has all
pub total-cut_in : (d : ℕ) (f : Poly) (m : List ℕ) → degree m ≤ d → total (cut d f) m ≡ total f m
total-cut_in d [] m l = refl
total-cut_in d (t ∷ f) m l = go (total-cut_in d f m l) (leb (degree t.mono) d) refl
  where
    go : total (cut d f) m ≡ total f m → (b : Bool) → leb (degree t.mono) d ≡ b → total (cond b (t ∷ cut d f) (cut d f)) m ≡ cond (same t.mono m) t.coef 0 + total f m
    go i true e = omega arith
    go i false e =
        let high : d < degree t.mono = grind arith in
        let off : same t.mono m ≡ false = same-false t.mono m (λ s. above d t.mono m s high l) in
        rw off (omega arith)

-- beyond the degree a cut has nothing
pub total-cut_out : (d : ℕ) (f : Poly) (m : List ℕ) → d < degree m → total (cut d f) m ≡ 0
total-cut_out d [] m l = refl
total-cut_out d (t ∷ f) m l = go (total-cut_out d f m l) (leb (degree t.mono) d) refl
  where
    go : total (cut d f) m ≡ 0 → (b : Bool) → leb (degree t.mono) d ≡ b → total (cond b (t ∷ cut d f) (cut d f)) m ≡ 0
    go i true e =
        let low : degree t.mono ≤ d = grind arith in
        let off : same t.mono m ≡ false = same-false t.mono m (λ s. above d m t.mono (sym s) l low) in
        rw off (omega arith)
    go i false e = i

-- a product with a sum is the sum of the products
pub times-append : (q r f : Poly) → times (q ++ r) f ≡ times q f ++ times r f
times-append [] r f = refl
times-append (t ∷ q) r f = ap (λ x. term_times t.coef t.mono f ++ x) (times-append q r f) ∙ sym (append_assoc (term_times t.coef t.mono f) (times q f) (times r f))

-- a multiple of a sum is the sum of the multiples
pub term_times-append : (c : ℕ) (a : List ℕ) (f g : Poly) → term_times c a (f ++ g) ≡ term_times c a f ++ term_times c a g
term_times-append c a [] g = refl
term_times-append c a (t ∷ f) g = ap (λ x. record { mono = mono_times a t.mono; coef = c * t.coef } ∷ x) (term_times-append c a f g)

-- lists with the same first term and the same rest are the same
pub term_cons : (a b : List ℕ) (c d : ℕ) (f g : Poly) → a ≡ b → c ≡ d → f ≡ g → (record { mono = a; coef = c } ∷ f) ≡ (record { mono = b; coef = d } ∷ g)
term_cons a b c d f g h k l = cc

-- a multiple of a multiple is one by the product
pub term_times-term_times : (c d : ℕ) (a b : List ℕ) (f : Poly) → term_times c a (term_times d b f) ≡ term_times (c * d) (mono_times a b) f
term_times-term_times c d a b [] = refl
term_times-term_times c d a b (t ∷ f) =
    term_cons _ _ _ _ _ _ (sym (mono_times_assoc a b t.mono)) (omega arith) (term_times-term_times c d a b f)

-- a product with a multiple is a multiple of the product
pub times-term_times : (c : ℕ) (a : List ℕ) (q f : Poly) → times (term_times c a q) f ≡ term_times c a (times q f)
times-term_times c a [] f = refl
times-term_times c a (t ∷ q) f =
    ap (λ x. x ++ times (term_times c a q) f) (sym (term_times-term_times c t.coef a t.mono f))
    ∙ ap (λ x. term_times c a (term_times t.coef t.mono f) ++ x) (times-term_times c a q f)
    ∙ sym (term_times-append c a (term_times t.coef t.mono f) (times q f))
