-- Linear combinations of rows.
-- Spans are closed under sums and multiples, so the ideal is in the span of the monomial multiples of its generators.
use Rattle.std.proofs.Common.{◌≡◌, ℕ, zero, suc, ◌+◌, ◌*◌, ◌%◌, ◌<◌, ◌≤◌, ◌≢◌, ◌⊎◌, List, [], ◌∷◌, ◌++◌, length, Bool, true, false, cond, refl, ap, sym, ◌∙◌, inl, inr, ⊎_elim, subst, arith, mul-zero}
use Rattle.std.proofs.Math.Nat.{mul-one}
use Rattle.std.proofs.lemmas.Bool.{cases_lt}
use Rattle.local_order.specs.Mono.{degree, mono_times, same, Divides}
use Rattle.local_order.proofs.Order.{degree-mono_times, divides_cases}
use Rattle.prime_field.proofs.Residue.{mul_same}
use Rattle.sparse_poly.specs.Poly.{Poly, total, coef, IsIn, term_times, times, combination}
use Rattle.sparse_poly.specs.Ideal.{Problem, IsInIdeal}
pub use Rattle.sparse_poly.specs.Span.{scale, linear, Span}
use Rattle.sparse_poly.proofs.Coef.{total-append, total-shift_off, term_times-term_times}
use Rattle.sparse_poly.proofs.Member.{Agree, agree, agree-append, AllIn}

-- the coefficients of a multiple by a constant
pub total-scale : (c : ℕ) (f : Poly) (m : List ℕ) → total (scale c f) m ≡ c * total f m
total-scale c [] m = sym (mul-zero c)
total-scale c (t ∷ f) m = step (same t.mono m) (total-scale c f m)
  where
    step : (b : Bool) → total (scale c f) m ≡ c * total f m → cond b (c * t.coef) 0 + total (scale c f) m ≡ c * (cond b t.coef 0 + total f m)
    step true i = omega (arith, i)
    step false i = omega (arith, i)

-- agreement goes on
agree_trans : (P : Problem) (f g h : Poly) → Agree P f g → Agree P g h → Agree P f h
agree_trans P f g h s t m l low = s m l low ∙ t m l low

-- multiples of what agrees agree
agree-scale : (P : Problem) (c : ℕ) (f g : Poly) → Agree P f g → Agree P (scale c f) (scale c g)
agree-scale P c f g h m l low =
    ap (λ x. x % P.p) (total-scale c f m)
    ∙ mul_same P.p c c (total f m) (total g m) refl (h m l low)
    ∙ sym (ap (λ x. x % P.p) (total-scale c g m))

-- the combination with factors 0 is 0
linear-none : (rows : List Poly) (m : List ℕ) → total (linear (λ i. 0) rows) m ≡ 0
linear-none [] m = refl
linear-none (r ∷ rows) m =
    omega (arith, total-append (scale 0 r) (linear (λ i. 0) rows) m, total-scale 0 r m, linear-none rows m)

-- a combination with sums of factors is the sum of the combinations
linear-add : (c d : ℕ → ℕ) (rows : List Poly) (m : List ℕ) →
    total (linear (λ i. c i + d i) rows) m ≡ total (linear c rows) m + total (linear d rows) m
linear-add c d [] m = refl
linear-add c d (r ∷ rows) m =
    omega (
      arith,
      linear-add (λ i. c (suc i)) (λ i. d (suc i)) rows m,
      total-append (scale (c 0 + d 0) r) (linear (λ i. c (suc i) + d (suc i)) rows) m,
      total-append (scale (c 0) r) (linear (λ i. c (suc i)) rows) m,
      total-append (scale (d 0) r) (linear (λ i. d (suc i)) rows) m,
      total-scale (c 0 + d 0) r m,
      total-scale (c 0) r m,
      total-scale (d 0) r m,
    )

-- one with multiples of factors is the multiple
linear-scale : (k : ℕ) (c : ℕ → ℕ) (rows : List Poly) (m : List ℕ) → total (linear (λ i. k * c i) rows) m ≡ k * total (linear c rows) m
linear-scale k c [] m = sym (mul-zero k)
linear-scale k c (r ∷ rows) m =
    omega (
      arith,
      linear-scale k (λ i. c (suc i)) rows m,
      total-append (scale (k * c 0) r) (linear (λ i. k * c (suc i)) rows) m,
      ap (λ x. k * x) (total-append (scale (c 0) r) (linear (λ i. c (suc i)) rows) m),
      total-scale (k * c 0) r m,
      ap (λ x. k * x) (total-scale (c 0) r m),
    )

-- 0 is in each span
pub span-zero : (P : Problem) (rows : List Poly) (g : Poly) → Agree P g [] → Span P rows g
span-zero P rows g h = record {
  factor = λ i. 0;
  equation = λ m l low. h m l low ∙ ap (λ x. x % P.p) (sym (linear-none rows m));
}

-- sums of what is in a span are in it
pub span-add : (P : Problem) (rows : List Poly) (f g : Poly) → Span P rows f → Span P rows g → Span P rows (f ++ g)
span-add P rows f g h k = record {
  factor = λ i. h.factor i + k.factor i;
  equation = λ m l low.
      agree-append P f _ g _ h.equation k.equation m l low
      ∙ ap (λ x. x % P.p) (total-append (linear h.factor rows) (linear k.factor rows) m ∙ sym (linear-add h.factor k.factor rows m));
}

-- multiples of it are in it
pub span-scale : (P : Problem) (rows : List Poly) (c : ℕ) (f : Poly) → Span P rows f → Span P rows (scale c f)
span-scale P rows c f h = record {
  factor = λ i. c * h.factor i;
  equation = λ m l low.
      agree-scale P c f _ h.equation m l low
      ∙ ap (λ x. x % P.p) (total-scale c (linear h.factor rows) m ∙ sym (linear-scale c h.factor rows m));
}

-- what agrees with it is in it
pub span-agree : (P : Problem) (rows : List Poly) (f g : Poly) → Agree P g f → Span P rows f → Span P rows g
span-agree P rows f g s h = record { factor = h.factor; equation = agree_trans P g f _ s h.equation }

-- each row is in the span of both rows and another
pub span-weaken : (P : Problem) (r : Poly) (rows : List Poly) (g : Poly) → Span P rows g → Span P (r ∷ rows) g
span-weaken P r rows g h = record {
  factor = more;
  equation = λ m l low. h.equation m l low ∙ ap (λ x. x % P.p)
      (omega (arith, total-append (scale 0 r) (linear h.factor rows) m, total-scale 0 r m));
}
  where
    more : ℕ → ℕ
    more zero = 0
    more (suc i) = h.factor i

-- the first row is in the span
pub span-here : (P : Problem) (r : Poly) (rows : List Poly) → Span P (r ∷ rows) r
span-here P r rows = record {
  factor = first;
  equation = λ m l low. ap (λ x. x % P.p)
      (omega (arith, total-append (scale 1 r) (linear (λ i. 0) rows) m, total-scale 1 r m, linear-none rows m));
}
  where
    first : ℕ → ℕ
    first zero = 1
    first (suc i) = 0

-- ---- the ideal is the span of the multiples of its generators
-- each multiple of f by a monomial of degree at most d is in the span
abbrev pub Multiples : Problem → List Poly → Poly → Type 0
Multiples P rows f = (a : List ℕ) → length a ≡ P.n → degree a ≤ P.d → Span P rows (term_times 1 a f)

-- so for each polynomial of a list
abbrev pub AllMultiples : Problem → List Poly → List Poly → Type 0
AllMultiples P rows [] = Unit {0}
AllMultiples P rows (f ∷ fs) = Multiples P rows f × AllMultiples P rows fs

-- what is shifted past degree d is 0
agree-high : (P : Problem) (c : ℕ) (a : List ℕ) (f : Poly) → length a ≡ P.n → IsIn P.n f → P.d < degree a → Agree P (term_times c a f) []
agree-high P c a f e i high m l low = go (divides_cases a m (omega arith))
  where
    go : Divides a m ⊎ ((k : List ℕ) → length k ≡ length m → m ≢ mono_times a k) → coef P.p (term_times c a f) m ≡ coef P.p [] m
    go (inr none) = ap (λ x. x % P.p) (total-shift_off c a f m P.n i e l none)
    go (inl (k, kl, s)) = absurd (omega (arith, ap degree s, degree-mono_times a k))

-- each multiple by a term is in the span
span-term : (P : Problem) (rows : List Poly) (c : ℕ) (a : List ℕ) (f : Poly) → length a ≡ P.n → IsIn P.n f → Multiples P rows f → Span P rows (term_times c a f)
span-term P rows c a f e i h =
    ⊎_elim
    (λ (high : P.d < degree a). span-zero P rows (term_times c a f) (agree-high P c a f e i high))
    (λ (low : degree a ≤ P.d).
    subst (λ g. Span P rows g) (term_times-term_times c 1 [] a f ∙ ap (λ k. term_times k a f) (mul-one c))
    (span-scale P rows c (term_times 1 a f) (h a e low)))
    (cases_lt P.d (degree a))

-- so is each product
span-times : (P : Problem) (rows : List Poly) (q f : Poly) → IsIn P.n q → IsIn P.n f → Multiples P rows f → Span P rows (times q f)
span-times P rows [] f i j h = span-zero P rows [] (λ m l low. refl)
span-times P rows (t ∷ q) f i j h =
    span-add P rows (term_times t.coef t.mono f) (times q f) (span-term P rows t.coef t.mono f i.0 j h) (span-times P rows q f i.1 j h)

-- and each combination
span-combination : (P : Problem) (rows : List Poly) (q : ℕ → Poly) (fs : List Poly) →
    ((i : ℕ) → IsIn P.n (q i)) → AllIn P.n fs → AllMultiples P rows fs → Span P rows (combination q fs)
span-combination P rows q [] i j h = span-zero P rows [] (λ m l low. refl)
span-combination P rows q (f ∷ fs) i j h =
    span-add P rows (times (q 0) f) (combination (λ k. q (suc k)) fs)
    (span-times P rows (q 0) f (i 0) j.0 h.0)
    (span-combination P rows (λ k. q (suc k)) fs (λ k. i (suc k)) j.1 h.1)

-- all of the ideal is in the span
pub span_of_in : (P : Problem) (rows : List Poly) (g : Poly) → AllIn P.n P.gens → AllMultiples P rows P.gens → IsInIdeal P g → Span P rows g
span_of_in P rows g j h member =
    span-agree P rows (combination member.cofactor P.gens) g (agree P g _ member.equation)
    (span-combination P rows member.cofactor P.gens member.in_ring j h)
