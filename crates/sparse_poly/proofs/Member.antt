-- What is in the ideal: sums and multiples of members, and the generators.
-- All is seen up to the degree of a problem, where parts that are one polynomial agree.
use Rattle.std.proofs.Common.{◌≡◌, ℕ, zero, suc, ◌+◌, ◌%◌, ◌<◌, ◌≤◌, ◌≢◌, ◌⊎◌, List, [], ◌∷◌, ◌++◌, length, refl, ap, sym, ◌∙◌, inl, inr, ⊎_elim, subst, arith, take, drop}
use Rattle.std.proofs.lemmas.Bool.{cases_lt}
use Rattle.local_order.specs.Mono.{degree, mono_times, Divides}
use Rattle.local_order.proofs.Order.{degree-mono_times, length-mono_times, divides_cases}
use Rattle.prime_field.proofs.Residue.{add_same, mul_same}
use Rattle.sparse_poly.specs.Poly.{Poly, total, coef, IsIn, IsSame, cut, term_times, times, combination}
use Rattle.sparse_poly.specs.Ideal.{Problem, IsInIdeal}
pub use Rattle.sparse_poly.specs.Span.{Agree}
use Rattle.sparse_poly.proofs.Coef.{total-append, total-term_times, total-shift_off, total-cut_in, total-cut_out, times-append, times-term_times, term_times-append}

-- parts up to the degree that are one polynomial agree
pub agree : (P : Problem) (f g : Poly) → IsSame P.p P.n (cut P.d f) (cut P.d g) → Agree P f g
agree P f g h m l low =
    sym (ap (λ x. x % P.p) (total-cut_in P.d f m low)) ∙ h m l ∙ ap (λ x. x % P.p) (total-cut_in P.d g m low)

-- and what agrees has the same part
pub cut_same : (P : Problem) (f g : Poly) → Agree P f g → IsSame P.p P.n (cut P.d f) (cut P.d g)
cut_same P f g h m l =
    ⊎_elim
    (λ (high : P.d < degree m). ap (λ x. x % P.p) (total-cut_out P.d f m high ∙ sym (total-cut_out P.d g m high)))
    (λ (low : degree m ≤ P.d).
    ap (λ x. x % P.p) (total-cut_in P.d f m low) ∙ h m l low ∙ sym (ap (λ x. x % P.p) (total-cut_in P.d g m low)))
    (cases_lt P.d (degree m))

-- ---- terms in n variables
-- a sum is in the same variables
pub in-append : (n : ℕ) (f g : Poly) → IsIn n f → IsIn n g → IsIn n (f ++ g)
in-append n [] g h k = k
in-append n (t ∷ f) g h k = (h.0, in-append n f g h.1 k)

-- the first terms are
pub in-take : (n k : ℕ) (f : Poly) → IsIn n f → IsIn n (take k f)
in-take n zero f h = tt
in-take n (suc k) [] h = tt
in-take n (suc k) (t ∷ f) h = (h.0, in-take n k f h.1)

-- the last terms are
pub in-drop : (n k : ℕ) (f : Poly) → IsIn n f → IsIn n (drop k f)
in-drop n zero f h = h
in-drop n (suc k) [] h = tt
in-drop n (suc k) (t ∷ f) h = in-drop n k f h.1

-- a multiple by a term is
pub in-term_times : (n c : ℕ) (a : List ℕ) (f : Poly) → length a ≡ n → IsIn n f → IsIn n (term_times c a f)
in-term_times n c a [] e h = tt
in-term_times n c a (t ∷ f) e h = (length-mono_times a t.mono (omega arith) ∙ h.0, in-term_times n c a f e h.1)

-- a product is
pub in-times : (n : ℕ) (q f : Poly) → IsIn n q → IsIn n f → IsIn n (times q f)
in-times n [] f h k = tt
in-times n (t ∷ q) f h k = in-append n (term_times t.coef t.mono f) (times q f) (in-term_times n t.coef t.mono f h.0 k) (in-times n q f h.1 k)

-- each polynomial of a list is in n variables
abbrev pub AllIn : ℕ → List Poly → Type 0
AllIn n [] = Unit {0}
AllIn n (f ∷ fs) = IsIn n f × AllIn n fs

-- so is a combination
pub in-combination : (n : ℕ) (q : ℕ → Poly) (fs : List Poly) → ((i : ℕ) → IsIn n (q i)) → AllIn n fs → IsIn n (combination q fs)
in-combination n q [] h k = tt
in-combination n q (f ∷ fs) h k =
    in-append n (times (q 0) f) (combination (λ i. q (suc i)) fs) (in-times n (q 0) f (h 0) k.0) (in-combination n (λ i. q (suc i)) fs (λ i. h (suc i)) k.1)

-- ---- combinations
-- a combination with sums of cofactors is the sum of the combinations
pub combination-add : (q r : ℕ → Poly) (fs : List Poly) (m : List ℕ) →
    total (combination (λ i. q i ++ r i) fs) m ≡ total (combination q fs) m + total (combination r fs) m
combination-add q r [] m = refl
combination-add q r (f ∷ fs) m =
    let tail = combination-add (λ i. q (suc i)) (λ i. r (suc i)) fs m in
    rw times-append
    (omega (
      arith,
      tail,
      total-append (times (q 0) f ++ times (r 0) f) (combination (λ i. q (suc i) ++ r (suc i)) fs) m,
      total-append (times (q 0) f) (times (r 0) f) m,
      total-append (times (q 0) f) (combination (λ i. q (suc i)) fs) m,
      total-append (times (r 0) f) (combination (λ i. r (suc i)) fs) m,
    ))

-- one with multiples of cofactors is the multiple
pub combination-term_times : (c : ℕ) (a : List ℕ) (q : ℕ → Poly) (fs : List Poly) →
    combination (λ i. term_times c a (q i)) fs ≡ term_times c a (combination q fs)
combination-term_times c a q [] = refl
combination-term_times c a q (f ∷ fs) =
    ap (λ x. x ++ combination (λ i. term_times c a (q (suc i))) fs) (times-term_times c a (q 0) f)
    ∙ ap (λ x. term_times c a (times (q 0) f) ++ x) (combination-term_times c a (λ i. q (suc i)) fs)
    ∙ sym (term_times-append c a (times (q 0) f) (combination (λ i. q (suc i)) fs))

-- one without cofactors is 0
pub combination-none : (fs : List Poly) → combination (λ i. []) fs ≡ []
combination-none [] = refl
combination-none (f ∷ fs) = combination-none fs

-- ---- equal up to degree d
-- sums of what agrees agree
pub agree-append : (P : Problem) (f f' g g' : Poly) → Agree P f f' → Agree P g g' → Agree P (f ++ g) (f' ++ g')
agree-append P f f' g g' h k m l low =
    ap (λ x. x % P.p) (total-append f g m)
    ∙ add_same P.p (total f m) (total f' m) (total g m) (total g' m) (h m l low) (k m l low)
    ∙ sym (ap (λ x. x % P.p) (total-append f' g' m))

-- multiples of what agrees agree
pub agree-term_times : (P : Problem) (c : ℕ) (a : List ℕ) (f g : Poly) → length a ≡ P.n → IsIn P.n f → IsIn P.n g → Agree P f g → Agree P (term_times c a f) (term_times c a g)
agree-term_times P c a f g e i j h m l low = go (divides_cases a m (omega arith))
  where
    go : Divides a m ⊎ ((k : List ℕ) → length k ≡ length m → m ≢ mono_times a k) → coef P.p (term_times c a f) m ≡ coef P.p (term_times c a g) m
    go (inr none) = ap (λ x. x % P.p) (total-shift_off c a f m P.n i e l none ∙ sym (total-shift_off c a g m P.n j e l none))
    go (inl (k, kl, s)) =
        let low_k : degree k ≤ P.d = omega (arith, ap degree s, degree-mono_times a k) in
        rw s
        (ap (λ x. x % P.p) (total-term_times c a f k P.n i e (omega arith))
        ∙ mul_same P.p c c (total f k) (total g k) refl (h k (omega arith) low_k)
        ∙ sym (ap (λ x. x % P.p) (total-term_times c a g k P.n j e (omega arith))))

-- ---- the ideal
-- 0 is in the ideal
pub IsInIdeal-zero : (P : Problem) → IsInIdeal P []
IsInIdeal-zero P = record {
  cofactor = λ i. [];
  in_ring = λ i. tt;
  equation = λ m l. ap (λ f. coef P.p (cut P.d f) m) (sym (combination-none P.gens));
}

-- sums of members are in it
pub IsInIdeal-add : (P : Problem) (f g : Poly) → IsInIdeal P f → IsInIdeal P g → IsInIdeal P (f ++ g)
IsInIdeal-add P f g h k = record {
  cofactor = λ i. h.cofactor i ++ k.cofactor i;
  in_ring = λ i. in-append P.n (h.cofactor i) (k.cofactor i) (h.in_ring i) (k.in_ring i);
  equation =
      cut_same P (f ++ g) (combination (λ i. h.cofactor i ++ k.cofactor i) P.gens)
      (λ m l low.
      agree-append P f (combination h.cofactor P.gens) g (combination k.cofactor P.gens)
      (agree P f _ h.equation) (agree P g _ k.equation) m l low
      ∙ ap (λ x. x % P.p) (total-append (combination h.cofactor P.gens) (combination k.cofactor P.gens) m ∙ sym (combination-add h.cofactor k.cofactor P.gens m)));
}

-- multiples of members by a term are in it
pub IsInIdeal-term_times : (P : Problem) (c : ℕ) (a : List ℕ) (f : Poly) → AllIn P.n P.gens → length a ≡ P.n → IsIn P.n f → IsInIdeal P f → IsInIdeal P (term_times c a f)
IsInIdeal-term_times P c a f gens e i h = record {
  cofactor = λ j. term_times c a (h.cofactor j);
  in_ring = λ j. in-term_times P.n c a (h.cofactor j) e (h.in_ring j);
  equation =
      cut_same P (term_times c a f) (combination (λ j. term_times c a (h.cofactor j)) P.gens)
      (subst (λ z. Agree P (term_times c a f) z) (sym (combination-term_times c a h.cofactor P.gens))
      (agree-term_times P c a f (combination h.cofactor P.gens) e i (in-combination P.n h.cofactor P.gens h.in_ring gens) (agree P f _ h.equation)));
}

-- what agrees with a member is in it
pub IsInIdeal-agree : (P : Problem) (f g : Poly) → Agree P g f → IsInIdeal P f → IsInIdeal P g
IsInIdeal-agree P f g s h = record {
  cofactor = h.cofactor;
  in_ring = h.in_ring;
  equation = cut_same P g (combination h.cofactor P.gens) (λ m l low. s m l low ∙ agree P f _ h.equation m l low);
}
