-- Derivatives: the quotient of a monomial by one variable keeps the order of the monomials that the variable divides.
-- So the terms that a derivative makes one by one are canonical, but for those with coefficient 0.
use Rattle.std.proofs.Common.{◌≡◌, ℕ, zero, suc, ◌+◌, ◌-◌, ◌*◌, ◌%◌, ◌<◌, ◌≤◌, ◌≢◌, ◌⊎◌, List, [], ◌∷◌, ◌++◌, length, take, get_or, slice_set, slice_index, Bool, true, false, cond, replicate, refl, ap, sym, ◌∙◌, inl, inr, ⊎_elim, subst, arith, mul-zero}
use Rattle.std.proofs.Math.Nat.{mod-lt, zero-mod, mod-mod}
use Rattle.std.proofs.Math.ListN.{length-set}
use Rattle.std.proofs.lemmas.Bool.{cases_lt}
use Rattle.std.proofs.Math.Seq.{take-set-lt}
use Rattle.std.proofs.lemmas.List.{take-replicate, length-replicate, append-nil}
use Rattle.prime_field.proofs.Residue.{mul_same}
use Rattle.local_order.specs.Mono.{mono_one, mono_times, mono_quotient, Divides, same}
use Rattle.local_order.specs.Order.{IsAbove}
use Rattle.local_order.proofs.Order.{cons_same, same-true, same_self, same-false, above_cases, above_irrefl, above_trans, above-mono_times}
use Rattle.local_order.proofs.Division.{one_times}
use Rattle.sparse_poly.specs.Poly.{Term, Poly, total, lowered, derivative, IsIn, IsCanonical}
use Rattle.sparse_poly.specs.Canonical.{canonical, in_front}
use Rattle.sparse_poly.proofs.Images.{images, each, images_are, images-more, term_at, KeepsOrder}

-- variable i of n
abbrev pub variable_of : ℕ → ℕ → List ℕ
variable_of n i = slice_set (mono_one n) i 1

-- the front of eight exponents that are 0 but at i
pub front_variable : (m : List ℕ) (n i k : ℕ) → m ≡ take k (slice_set (replicate 8 0) i 1) → k ≡ n → i < n → n ≤ 8 → m ≡ variable_of n i
front_variable m n i k e f l few =
    e
    ∙ ap (λ j. take j (slice_set (replicate 8 0) i 1)) f
    ∙ take-set-lt n (replicate 8 0) i 1 l
    ∙ ap (λ zeros. slice_set zeros i 1) (take-replicate n 8 0 few)

-- the quotient by 1 is the monomial
by_one : (m : List ℕ) → mono_quotient m (mono_one (length m)) ≡ m
by_one [] = refl
by_one (x ∷ m) = cons_same (x - 0) x (mono_quotient m (mono_one (length m))) m (omega arith) (by_one m)

-- the quotient by variable i has one less exponent there
pub quotient-lowered : (m : List ℕ) (i : ℕ) → i < length m → mono_quotient m (variable_of (length m) i) ≡ lowered i m
quotient-lowered [] i l = absurd (omega arith)
quotient-lowered (x ∷ m) zero l = ap (λ y. (x - 1) ∷ y) (by_one m)
quotient-lowered (x ∷ m) (suc i) l = cons_same (x - 0) x _ _ (omega arith) (quotient-lowered m i (omega arith))

-- and times the variable it is the monomial again
pub lowered-times : (m : List ℕ) (i : ℕ) → i < length m → 1 ≤ slice_index m i → mono_times (variable_of (length m) i) (lowered i m) ≡ m
lowered-times [] i l h = absurd (omega arith)
lowered-times (x ∷ m) zero l h = cons_same (1 + (x - 1)) x _ _ (omega arith) (one_times (length m) m refl)
lowered-times (x ∷ m) (suc i) l h = cons_same (0 + x) x _ _ (omega arith) (lowered-times m i (omega arith) h)

-- the quotient has as many exponents
pub length-lowered : (i : ℕ) (m : List ℕ) → length (lowered i m) ≡ length m
length-lowered i m = length-set m i (slice_index m i - 1)

-- a variable of n has n exponents
pub length-variable_of : (n i : ℕ) → length (variable_of n i) ≡ n
length-variable_of n i = length-set (mono_one n) i 1 ∙ (let z : ℕ = 0 in length-replicate n z)

-- a variable that doesn't divide has exponent 0
pub exponent_zero : (m : List ℕ) (i : ℕ) → i < length m → (Divides (variable_of (length m) i) m → ⊥) → slice_index m i ≡ 0
exponent_zero m i l none =
    ⊎_elim
    (λ (h : slice_index m i < 1). let e : slice_index m i ≡ 0 = omega arith in e)
    (λ (h : 1 ≤ slice_index m i). absurd (none (lowered i m, length-lowered i m, sym (lowered-times m i l h))))
    (cases_lt (slice_index m i) 1)

-- quotients by a variable stand in the order of the monomials
above-lowered : (a b : List ℕ) (i : ℕ) → length a ≡ length b → i < length a → 1 ≤ slice_index a i → 1 ≤ slice_index b i → IsAbove a b → IsAbove (lowered i a) (lowered i b)
above-lowered a b i e l h k above = go (above_cases (lowered i a) (lowered i b) (length-lowered i a ∙ e ∙ sym (length-lowered i b)))
  where
    whole_a : mono_times (variable_of (length a) i) (lowered i a) ≡ a
    whole_a = lowered-times a i l h

    whole_b : mono_times (variable_of (length a) i) (lowered i b) ≡ b
    whole_b = ap (λ n. mono_times (variable_of n i) (lowered i b)) e ∙ lowered-times b i (omega arith) k

    len : (m : List ℕ) → length m ≡ length a → length (variable_of (length a) i) ≡ length (lowered i m)
    len m f = length-variable_of (length a) i ∙ sym f ∙ sym (length-lowered i m)

    go : (lowered i a ≡ lowered i b) ⊎ (IsAbove (lowered i a) (lowered i b) ⊎ IsAbove (lowered i b) (lowered i a)) → IsAbove (lowered i a) (lowered i b)
    go (inl s) = absurd (above_irrefl a (subst (λ x. IsAbove a x) (sym whole_b ∙ ap (mono_times (variable_of (length a) i)) (sym s) ∙ whole_a) above))
    go (inr (inl s)) = s
    go (inr (inr s)) =
        let back : IsAbove b a =
        subst (λ x. IsAbove x a) whole_b
        (subst (λ x. IsAbove (mono_times (variable_of (length a) i) (lowered i b)) x) whole_a
        (above-mono_times (variable_of (length a) i) (lowered i b) (lowered i a) (len b (sym e)) (len a refl) s)) in
        absurd (above_irrefl a (above_trans a b a above back))

-- the derivative is made term by term
derivative-each : (i : ℕ) (f : Poly) → each (λ t. t.coef * slice_index t.mono i) (λ t. lowered i t.mono) f ≡ derivative i f
derivative-each i [] = refl
derivative-each i (t ∷ f) = ap (λ x. record { mono = lowered i t.mono; coef = t.coef * slice_index t.mono i } ∷ x) (derivative-each i f)

-- the derivative, each coefficient reduced
abbrev pub derivative_of : ℕ → ℕ → Poly → Poly
derivative_of p i f = images (λ t. (t.coef * slice_index t.mono i) % p) (λ t. lowered i t.mono) f

-- the terms that are made are those of the canonical derivative
pub derivative_is : (p n i : ℕ) (f : Poly) → 0 < p → i < n → IsCanonical p n f → derivative_of p i f ≡ canonical p (derivative i f)
derivative_is p n i f pos l w =
    images_are p n (λ t. t.coef * slice_index t.mono i) (λ t. lowered i t.mono) f pos keeps w ∙ ap (canonical p) (derivative-each i f)
  where
    some : (t : Term) → (t.coef * slice_index t.mono i) % p ≢ 0 → 1 ≤ slice_index t.mono i
    some t h =
        ⊎_elim
        (λ (k : slice_index t.mono i < 1).
        let none : slice_index t.mono i ≡ 0 = omega arith in
        let gone : (t.coef * slice_index t.mono i) % p ≡ 0 = ap (λ x. (t.coef * x) % p) none ∙ ap (λ x. x % p) (mul-zero t.coef) ∙ zero-mod p in
        absurd (h gone))
        (λ (k : 1 ≤ slice_index t.mono i). k)
        (cases_lt (slice_index t.mono i) 1)

    keeps : KeepsOrder p n (λ t. (t.coef * slice_index t.mono i) % p) (λ t. lowered i t.mono)
    keeps = record {
      small = λ t j s u. mod-lt (t.coef * slice_index t.mono i) pos;
      inside = λ t j. length-lowered i t.mono ∙ j;
      order = λ t s j k y z h. above-lowered t.mono s.mono i (j ∙ sym k) (omega (arith, j)) (some t y) (some s z) h;
    }

-- the derivative is in the same variables
pub in-derivative : (n i : ℕ) (f : Poly) → IsIn n f → IsIn n (derivative i f)
in-derivative n i [] h = tt
in-derivative n i (t ∷ f) h = (length-lowered i t.mono ∙ h.0, in-derivative n i f h.1)

-- ---- one term more
-- the variable divides it
pub derivative-some : (p n i : ℕ) (f done next : Poly) (j : ℕ) (t : Term) (u q : List ℕ) (e v : ℕ) → IsCanonical p n f → i < n → j < length f → t ≡ get_or f j t →
    done ≡ derivative_of p i (take j f) → u ≡ variable_of n i → q ≡ mono_quotient t.mono u → e ≡ slice_index t.mono i → v ≡ (t.coef * (e % p)) % p →
    next ≡ done ++ in_front v q [] → next ≡ derivative_of p i (take (j + 1) f)
derivative-some p n i f done next j t u q e v w l within is before u_is q_is e_is v_is after =
    images-more (λ s. (s.coef * slice_index s.mono i) % p) (λ s. lowered i s.mono) f done next j t v within is value before
    (after ∙ ap (λ m. done ++ in_front v m []) mono)
  where
    len : length t.mono ≡ n
    len = (term_at p n f j t w within is).0

    mono : q ≡ lowered i t.mono
    mono = q_is ∙ ap (mono_quotient t.mono) (u_is ∙ ap (λ k. variable_of k i) (sym len)) ∙ quotient-lowered t.mono i (omega (arith, len))

    value : v ≡ (t.coef * slice_index t.mono i) % p
    value = v_is ∙ mul_same p t.coef t.coef (e % p) (slice_index t.mono i) refl (mod-mod e p ∙ ap (λ x. x % p) e_is)

-- the variable doesn't divide it
pub derivative-none : (p n i : ℕ) (f done : Poly) (j : ℕ) (t : Term) (u : List ℕ) → IsCanonical p n f → i < n → j < length f → t ≡ get_or f j t →
    done ≡ derivative_of p i (take j f) → u ≡ variable_of n i → (Divides u t.mono → ⊥) → done ≡ derivative_of p i (take (j + 1) f)
derivative-none p n i f done j t u w l within is before u_is none =
    images-more (λ s. (s.coef * slice_index s.mono i) % p) (λ s. lowered i s.mono) f done done j t 0 within is value before (sym (append-nil done))
  where
    len : length t.mono ≡ n
    len = (term_at p n f j t w within is).0

    absent : slice_index t.mono i ≡ 0
    absent = exponent_zero t.mono i (omega (arith, len)) (λ d. none (subst (λ m. Divides m t.mono) (ap (λ k. variable_of k i) len ∙ sym u_is) d))

    value : 0 ≡ (t.coef * slice_index t.mono i) % p
    value = sym (ap (λ x. (t.coef * x) % p) absent ∙ ap (λ x. x % p) (mul-zero t.coef) ∙ zero-mod p)

-- ---- coefficients
-- the exponents with one more at i
abbrev pub raised : ℕ → List ℕ → List ℕ
raised i k = slice_set k i (slice_index k i + 1)

-- one more and one less exponent
lowered-raised : (i : ℕ) (k : List ℕ) → i < length k → lowered i (raised i k) ≡ k
lowered-raised i [] l = absurd (omega arith)
lowered-raised zero (x ∷ k) l = cons_same (x + 1 - 1) x k k (omega arith) refl
lowered-raised (suc i) (x ∷ k) l = cons_same x x _ _ refl (lowered-raised i k (omega arith))

-- and the other way round, where the exponent is not 0
raised-lowered : (i : ℕ) (m : List ℕ) → i < length m → 1 ≤ slice_index m i → raised i (lowered i m) ≡ m
raised-lowered i [] l h = absurd (omega arith)
raised-lowered zero (x ∷ m) l h = cons_same (x - 1 + 1) x m m (omega arith) refl
raised-lowered (suc i) (x ∷ m) l h = cons_same x x _ _ refl (raised-lowered i m (omega arith) h)

-- the exponent is one more
exponent-raised : (i : ℕ) (k : List ℕ) → i < length k → slice_index (raised i k) i ≡ slice_index k i + 1
exponent-raised i [] l = absurd (omega arith)
exponent-raised zero (x ∷ k) l = refl
exponent-raised (suc i) (x ∷ k) l = exponent-raised i k (omega arith)

-- the coefficients of a derivative
pub total-derivative : (n i : ℕ) (f : Poly) (k : List ℕ) → IsIn n f → length k ≡ n → i < n → total (derivative i f) k ≡ (slice_index k i + 1) * total f (raised i k)
total-derivative n i [] k h l within = sym (mul-zero (slice_index k i + 1))
total-derivative n i (t ∷ f) k h l within = term (total-derivative n i f k h.1 l within)
  where
    rest : ℕ
    rest = total (derivative i f) k

    others : ℕ
    others = total f (raised i k)

    -- the term is at the raised monomial
    here : raised i k ≡ t.mono → rest ≡ (slice_index k i + 1) * others →
        cond (same (lowered i t.mono) k) (t.coef * slice_index t.mono i) 0 + rest ≡ (slice_index k i + 1) * (cond (same t.mono (raised i k)) t.coef 0 + others)
    here e r =
        let low : same (lowered i t.mono) k ≡ true = ap (λ m. same (lowered i m) k) (sym e) ∙ ap (λ m. same m k) (lowered-raised i k (omega arith)) ∙ same_self k in
        let up : same t.mono (raised i k) ≡ true = ap (λ m. same m (raised i k)) (sym e) ∙ same_self (raised i k) in
        let exponent : slice_index t.mono i ≡ slice_index k i + 1 = ap (λ m. slice_index m i) (sym e) ∙ exponent-raised i k (omega arith) in
        rw (low, up) (omega (arith, ap (λ x. t.coef * x) exponent, r))

    -- it is elsewhere
    apart : t.mono ≢ raised i k → rest ≡ (slice_index k i + 1) * others →
        cond (same (lowered i t.mono) k) (t.coef * slice_index t.mono i) 0 + rest ≡ (slice_index k i + 1) * (cond (same t.mono (raised i k)) t.coef 0 + others)
    apart d r = rw (same-false t.mono (raised i k) d) (gone (same (lowered i t.mono) k) refl)
      where
        gone : (b : Bool) → same (lowered i t.mono) k ≡ b → cond b (t.coef * slice_index t.mono i) 0 + rest ≡ (slice_index k i + 1) * (0 + others)
        gone false e = omega (arith, r)
        gone true e =
            ⊎_elim
            (λ (z : slice_index t.mono i < 1). let none : slice_index t.mono i ≡ 0 = omega arith in omega (arith, r, ap (λ x. t.coef * x) none))
            (λ (z : 1 ≤ slice_index t.mono i). absurd (d (sym (raised-lowered i t.mono (omega (arith, h.0)) z) ∙ ap (raised i) (same-true (lowered i t.mono) k e))))
            (cases_lt (slice_index t.mono i) 1)

    term : rest ≡ (slice_index k i + 1) * others → total (derivative i (t ∷ f)) k ≡ (slice_index k i + 1) * total (t ∷ f) (raised i k)
    term r = go (same t.mono (raised i k)) refl
      where
        go : (b : Bool) → same t.mono (raised i k) ≡ b → total (derivative i (t ∷ f)) k ≡ (slice_index k i + 1) * total (t ∷ f) (raised i k)
        go true e = here (sym (same-true t.mono (raised i k) e)) r
        go false e = apart (λ s. let yes : same t.mono (raised i k) ≡ true = ap (λ m. same m (raised i k)) s ∙ same_self (raised i k) in cc) r
