-- The ideal has its generators and the multiples of its members by polynomials, and is the span of monomial multiples.
-- Cofactors may be taken canonical, since products see factors up to equal coefficients only.
use Rattle.std.proofs.Common.{◌≡◌, ℕ, zero, suc, ◌+◌, ◌%◌, ◌<◌, ◌≤◌, List, [], ◌∷◌, length, get_or, All, Contains, refl, ap, sym, ◌∙◌, subst, arith}
use Rattle.std.proofs.lemmas.List.Elements.{All-head, All-tail}
use Rattle.prime_field.proofs.Residue.{mul_same}
use Rattle.local_order.specs.Mono.{degree}
use Rattle.sparse_poly.specs.Poly.{Poly, total, IsIn, IsCanonical, term_times, times, one, combination}
use Rattle.sparse_poly.specs.Canonical.{canonical}
use Rattle.sparse_poly.specs.Ideal.{Problem, IsInIdeal, HasCanonicalCofactors}
use Rattle.sparse_poly.specs.Span.{scale, linear, Span, Agree, IsMultipleOfGenerator, AreMultiples}
use Rattle.sparse_poly.proofs.Canonical.{IsCanonical-canonical, coef-canonical}
use Rattle.sparse_poly.proofs.Coef.{total-append}
use Rattle.sparse_poly.proofs.Member.{agree, cut_same, agree-append, AllIn, combination-none, combination-term_times, IsInIdeal-zero, IsInIdeal-add, IsInIdeal-term_times, IsInIdeal-agree}
use Rattle.sparse_poly.proofs.Ring.{times-one, in-one, agree-times}
use Rattle.sparse_poly.proofs.Scaling.{in-scale}
use Rattle.sparse_poly.proofs.Span.{AllMultiples, span_of_in, span-here, span-weaken, total-scale}
use Rattle.sparse_poly.proofs.Unique.{in_of_canonical}

-- ---- generators
-- a list of polynomials in n variables
pub AllIn-from_All : (n : ℕ) (fs : List Poly) → All (IsIn n) fs → AllIn n fs
AllIn-from_All n [] h = tt
AllIn-from_All n (f ∷ fs) h = (All-head (IsIn n) f fs h, AllIn-from_All n fs (All-tail (IsIn n) f fs h))

-- 1 at place k, and 0 elsewhere
abbrev unit_at : ℕ → ℕ → ℕ → Poly
unit_at n zero zero = one n
unit_at n zero (suc i) = []
unit_at n (suc k) zero = []
unit_at n (suc k) (suc i) = unit_at n k i

-- each of them is in n variables
in-unit_at : (n k i : ℕ) → IsIn n (unit_at n k i)
in-unit_at n zero zero = in-one n
in-unit_at n zero (suc i) = tt
in-unit_at n (suc k) zero = tt
in-unit_at n (suc k) (suc i) = in-unit_at n k i

-- the combination with a single 1 is the polynomial there
total-unit_at : (n k : ℕ) (fs : List Poly) (f : Poly) (m : List ℕ) → AllIn n fs → k < length fs → get_or fs k f ≡ f →
    total (combination (unit_at n k) fs) m ≡ total f m
total-unit_at n k [] f m h l e = absurd (omega arith)
total-unit_at n zero (g ∷ fs) f m h l e =
    total-append (times (one n) g) (combination (λ i. []) fs) m
    ∙ ap (λ x. total x m + total (combination (λ i. []) fs) m) (times-one n g h.0 ∙ e)
    ∙ ap (λ x. total f m + total x m) (combination-none fs)
    ∙ (let q : total f m + 0 ≡ total f m = omega arith in q)
total-unit_at n (suc k) (g ∷ fs) f m h l e = total-unit_at n k fs f m h.1 (omega arith) e

-- each generator is in the ideal
pub IsInIdeal-generator : (P : Problem) (f : Poly) → AllIn P.n P.gens → Contains P.gens f → IsInIdeal P f
IsInIdeal-generator P f gens (k, l, e) = record {
  cofactor = unit_at P.n k;
  in_ring = in-unit_at P.n k;
  equation = cut_same P f (combination (unit_at P.n k) P.gens) (λ m h low. ap (λ x. x % P.p) (sym (total-unit_at P.n k P.gens f m gens l e)));
}

-- ---- multiples
-- so is each multiple of a member by a polynomial
pub IsInIdeal-times : (P : Problem) (q f : Poly) → AllIn P.n P.gens → IsIn P.n q → IsIn P.n f → IsInIdeal P f → IsInIdeal P (times q f)
IsInIdeal-times P [] f gens i j h = IsInIdeal-zero P
IsInIdeal-times P (t ∷ q) f gens i j h =
    IsInIdeal-add P (term_times t.coef t.mono f) (times q f) (IsInIdeal-term_times P t.coef t.mono f gens i.0 j h) (IsInIdeal-times P q f gens i.1 j h)

-- and by a constant: the cofactors are multiplied by it
pub IsInIdeal-scale : (P : Problem) (c : ℕ) (f : Poly) → IsInIdeal P f → IsInIdeal P (scale c f)
IsInIdeal-scale P c f h = record {
  cofactor = λ j. scale c (h.cofactor j);
  in_ring = λ j. in-scale P.n c (h.cofactor j) (h.in_ring j);
  equation =
      cut_same P (scale c f) (combination (λ j. scale c (h.cofactor j)) P.gens)
      (λ m l low.
      ap (λ x. x % P.p) (total-scale c f m)
      ∙ mul_same P.p c c (total f m) (total (combination h.cofactor P.gens) m) refl (agree P f (combination h.cofactor P.gens) h.equation m l low)
      ∙ ap (λ x. x % P.p) (sym (ap (λ q. total q m) (combination-term_times c [] h.cofactor P.gens) ∙ total-scale c (combination h.cofactor P.gens) m)));
}

-- ---- the span of the monomial multiples
-- a member of a list of polynomials in n variables is in n variables
in_of_contains : (n : ℕ) (fs : List Poly) (f : Poly) (k : ℕ) → AllIn n fs → k < length fs → get_or fs k f ≡ f → IsIn n f
in_of_contains n [] f k h l e = absurd (omega arith)
in_of_contains n (g ∷ fs) f zero h l e = subst (IsIn n) e h.0
in_of_contains n (g ∷ fs) f (suc k) h l e = in_of_contains n fs f k h.1 (omega arith) e

-- a row is in the span of the rows
span-row : (P : Problem) (rows : List Poly) (r : Poly) (k : ℕ) → k < length rows → get_or rows k r ≡ r → Span P rows r
span-row P [] r k l e = absurd (omega arith)
span-row P (s ∷ rows) r zero l e = subst (Span P (s ∷ rows)) e (span-here P s rows)
span-row P (s ∷ rows) r (suc k) l e = span-weaken P s rows r (span-row P rows r k (omega arith) e)

-- the rows span the multiples that stand among them
all_multiples : (P : Problem) (rows fs : List Poly) → ((f : Poly) (a : List ℕ) → Contains fs f → length a ≡ P.n → degree a ≤ P.d → Contains rows (term_times 1 a f)) → AllMultiples P rows fs
all_multiples P rows [] h = tt
all_multiples P rows (g ∷ fs) h = (
  λ a l low. let r = h g a (0, omega arith, refl) l low in span-row P rows (term_times 1 a g) r.0 r.1 r.2,
  all_multiples P rows fs (λ f a c l low. h f a (suc c.0, omega (arith, c.1), c.2) l low),
)

-- so they span the ideal
pub span_of_ideal : (P : Problem) (rows : List Poly) (g : Poly) → AllIn P.n P.gens → AreMultiples P rows → IsInIdeal P g → Span P rows g
span_of_ideal P rows g gens are member = span_of_in P rows g gens (all_multiples P rows P.gens are.complete) member

-- a combination of members is one
linear-member : (P : Problem) (c : ℕ → ℕ) (rows : List Poly) → AllIn P.n P.gens → All (IsMultipleOfGenerator P) rows → IsInIdeal P (linear c rows)
linear-member P c [] gens h = IsInIdeal-zero P
linear-member P c (r ∷ rows) gens h =
    IsInIdeal-add P (scale (c 0) r) (linear (λ i. c (suc i)) rows)
    (member (All-head (IsMultipleOfGenerator P) r rows h))
    (linear-member P (λ i. c (suc i)) rows gens (All-tail (IsMultipleOfGenerator P) r rows h))
  where
    member : IsMultipleOfGenerator P r → IsInIdeal P (scale (c 0) r)
    member (f, a, there, l, e) =
        let i : IsIn P.n f = in_of_contains P.n P.gens f there.0 gens there.1 there.2 in
        subst (λ s. IsInIdeal P (scale (c 0) s)) (sym e)
        (IsInIdeal-scale P (c 0) (term_times 1 a f)
        (IsInIdeal-term_times P 1 a f gens l i (IsInIdeal-generator P f gens there)))

-- and what they span is in it
pub ideal_of_span : (P : Problem) (rows : List Poly) (g : Poly) → AllIn P.n P.gens → AreMultiples P rows → Span P rows g → IsInIdeal P g
ideal_of_span P rows g gens are span =
    IsInIdeal-agree P (linear span.factor rows) g span.equation (linear-member P span.factor rows gens are.multiples)

-- ---- canonical cofactors
-- combinations with cofactors that agree agree
combination-agree : (P : Problem) (q r : ℕ → Poly) (fs : List Poly) → ((i : ℕ) → IsIn P.n (q i)) → ((i : ℕ) → IsIn P.n (r i)) → AllIn P.n fs → ((i : ℕ) → Agree P (q i) (r i)) →
    Agree P (combination q fs) (combination r fs)
combination-agree P q r [] h k i s = λ m l low. refl
combination-agree P q r (f ∷ fs) h k i s =
    agree-append P (times (q 0) f) (times (r 0) f) (combination (λ j. q (suc j)) fs) (combination (λ j. r (suc j)) fs)
    (agree-times P (q 0) (r 0) f f (h 0) (k 0) i.0 i.0 (s 0) (λ m l low. refl))
    (combination-agree P (λ j. q (suc j)) (λ j. r (suc j)) fs (λ j. h (suc j)) (λ j. k (suc j)) i.1 (λ j. s (suc j)))

-- a member has canonical cofactors
pub canonical_cofactors : (P : Problem) (g : Poly) → 0 < P.p → AllIn P.n P.gens → IsInIdeal P g → HasCanonicalCofactors P g
canonical_cofactors P g pos gens h = record {
  cofactor = λ i. canonical P.p (h.cofactor i);
  canonical = written;
  equation =
      cut_same P g (combination (λ i. canonical P.p (h.cofactor i)) P.gens)
      (λ m l low.
      agree P g (combination h.cofactor P.gens) h.equation m l low
      ∙ combination-agree P h.cofactor (λ i. canonical P.p (h.cofactor i)) P.gens h.in_ring (λ i. in_of_canonical P.p P.n _ (written i)) gens
      (λ i k len up. sym (coef-canonical P.p (h.cofactor i) k)) m l low);
}
  where
    written : (i : ℕ) → IsCanonical P.p P.n (canonical P.p (h.cofactor i))
    written i = IsCanonical-canonical P.p P.n (h.cofactor i) pos (h.in_ring i)

-- what has canonical cofactors is a member
pub any_cofactors : (P : Problem) (g : Poly) → HasCanonicalCofactors P g → IsInIdeal P g
any_cofactors P g h = record {
  cofactor = h.cofactor;
  in_ring = λ i. in_of_canonical P.p P.n (h.cofactor i) (h.canonical i);
  equation = h.equation;
}
