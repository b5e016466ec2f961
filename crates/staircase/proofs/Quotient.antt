-- The monomials of the staircase are a basis of the polynomials modulo the ideal and degree d + 1.
-- A lead among them would be one of the staircase; and each monomial has a remainder by descent, as sums and multiples of what has one do.
use Rattle.std.proofs.Common.{◌≡◌, ◌≢◌, ℕ, ◌+◌, ◌*◌, ◌%◌, ◌<◌, ◌≤◌, ◌⊎◌, List, [], ◌∷◌, ◌++◌, length, Bool, true, false, cond, Contains, refl, ap, sym, ◌∙◌, inl, inr, ⊎_elim, subst, arith}
use Rattle.std.proofs.Math.Nat.{zero-mod}
use Rattle.std.proofs.lemmas.Bool.{cases_eq, cases_lt}
use Rattle.prime_field.specs.Prime.{IsPrime}
use Rattle.prime_field.proofs.Residue.{add_same, mul_same}
use Rattle.local_order.specs.Mono.{degree, same}
use Rattle.local_order.proofs.Order.{degree_of_above, same-true}
use Rattle.sparse_poly.specs.Poly.{Poly, total, coef, cut, IsIn, IsCanonical}
use Rattle.sparse_poly.specs.Canonical.{canonical}
use Rattle.sparse_poly.specs.Ideal.{Problem, IsLead, IsInIdeal, IsStaircase, IsReducedBasis}
use Rattle.sparse_poly.proofs.Canonical.{coef-canonical, IsCanonical-canonical}
use Rattle.sparse_poly.proofs.Coef.{total-append, total-cut_in, total-cut_out}
use Rattle.sparse_poly.proofs.Cuts.{in-cut}
use Rattle.sparse_poly.proofs.Member.{AllIn, Agree, agree-append, in-append, IsInIdeal-zero, IsInIdeal-add, IsInIdeal-agree}
use Rattle.sparse_poly.proofs.Closure.{IsInIdeal-scale}
use Rattle.sparse_poly.proofs.Scaling.{in-scale}
use Rattle.sparse_poly.proofs.Span.{scale, total-scale}
use Rattle.sparse_poly.proofs.Unique.{IsLead-canonical}
use Rattle.sparse_poly.specs.Poly.{monomial}
use Rattle.staircase.specs.Quotient.{IsMadeOf, HasRemainder}
use Rattle.sparse_poly.proofs.Descent.{coef-scale_zero, from_lead}
use Rattle.sparse_poly.proofs.Difference.{difference, difference-sum}
use Rattle.staircase.proofs.Divisors.{lead_of_divided, divided_or_in_staircase}
use Rattle.sparse_poly.proofs.Leads.{IsLeadOfIdeal-member}
use Rattle.sparse_poly.proofs.Induction.{falling_induction}
use Rattle.sparse_poly.proofs.Terms.{IsClosed, by_monomials}

-- ---- independence
-- a member of the ideal that is made of monomials of the staircase is 0 up to the degree
pub independent : (P : Problem) (s : List (List ℕ)) (f : Poly) → 0 < P.p → IsStaircase P s → IsIn P.n f → IsInIdeal P f → IsMadeOf P s f → Agree P f []
independent P s f pos x i h made = go (canonical P.p (cut P.d f)) refl (IsCanonical-canonical P.p P.n (cut P.d f) pos (in-cut P.n P.d f i))
  where
    at : (g : Poly) → canonical P.p (cut P.d f) ≡ g → (m : List ℕ) → degree m ≤ P.d → coef P.p f m ≡ coef P.p g m
    at g q m low = ap (λ x. x % P.p) (sym (total-cut_in P.d f m low)) ∙ sym (coef-canonical P.p (cut P.d f) m) ∙ ap (λ g. coef P.p g m) q

    low_of : (g : Poly) → canonical P.p (cut P.d f) ≡ g → (m : List ℕ) → coef P.p g m ≢ 0 → degree m ≤ P.d
    low_of g q m n =
        ⊎_elim
        (λ (high : P.d < degree m).
        absurd (n (ap (λ g. coef P.p g m) (sym q) ∙ coef-canonical P.p (cut P.d f) m ∙ ap (λ x. x % P.p) (total-cut_out P.d f m high) ∙ zero-mod P.p)))
        (λ (low : degree m ≤ P.d). low)
        (cases_lt P.d (degree m))

    go : (g : Poly) → canonical P.p (cut P.d f) ≡ g → IsCanonical P.p P.n g → Agree P f []
    go [] q w = λ m l low. at [] q m low
    go (t ∷ g) q w =
        let lead : IsLead P (t ∷ g) t.mono = IsLead-canonical P t g w in
        let low : degree t.mono ≤ P.d = low_of (t ∷ g) q t.mono lead.there in
        let there : Contains s t.mono = made t.mono w.0 low (λ z. lead.there (sym (at (t ∷ g) q t.mono low) ∙ z)) in
        absurd ((x.exactly t.mono w.0 low).0 there
        (IsLeadOfIdeal-member P f t.mono i h low
        (record {
          in_ring = w.0;
          there = λ z. lead.there (sym (at (t ∷ g) q t.mono low) ∙ z);
          greatest = λ k kl a. at (t ∷ g) q k (omega (arith, degree_of_above k t.mono a, low)) ∙ lead.greatest k kl a;
        })))

-- ---- remainders
-- f is a remainder made of monomials of s and a member of the ideal
record Splits (P : Problem) (s : List (List ℕ)) (f : Poly) : Type 0 where
  remainder : Poly
  member : Poly
  in_ring : IsIn P.n remainder
  made : IsMadeOf P s remainder
  is_in : IsInIdeal P member
  equation : Agree P f (remainder ++ member)

-- a sum of what is made of s is made of s
made-sum : (P : Problem) (s : List (List ℕ)) (f g : Poly) → IsMadeOf P s f → IsMadeOf P s g → IsMadeOf P s (f ++ g)
made-sum P s f g a b m l low n = go (cases_eq (coef P.p f m) 0) (cases_eq (coef P.p g m) 0)
  where
    go : (coef P.p f m ≡ 0) ⊎ (coef P.p f m ≢ 0) → (coef P.p g m ≡ 0) ⊎ (coef P.p g m ≢ 0) → Contains s m
    go (inr h) k = a m l low h
    go (inl z) (inr h) = b m l low h
    go (inl z) (inl w) =
        absurd (n (ap (λ x. x % P.p) (total-append f g m) ∙ add_same P.p (total f m) 0 (total g m) 0 (z ∙ sym (zero-mod P.p)) (w ∙ sym (zero-mod P.p)) ∙ zero-mod P.p))

-- two sums of two, in another order
swapped : (P : Problem) (a b c d : Poly) → Agree P ((a ++ b) ++ (c ++ d)) ((a ++ c) ++ (b ++ d))
swapped P a b c d m l low =
    ap (λ x. x % P.p)
    (let q : total ((a ++ b) ++ (c ++ d)) m ≡ total ((a ++ c) ++ (b ++ d)) m =
    omega (
      arith,
      total-append (a ++ b) (c ++ d) m,
      total-append a b m,
      total-append c d m,
      total-append (a ++ c) (b ++ d) m,
      total-append a c m,
      total-append b d m,
    ) in q)

-- a multiple of a sum
scale-sum : (P : Problem) (c : ℕ) (f a b : Poly) → Agree P f (a ++ b) → Agree P (scale c f) (scale c a ++ scale c b)
scale-sum P c f a b h m l low =
    ap (λ x. x % P.p) (total-scale c f m)
    ∙ mul_same P.p c c (total f m) (total (a ++ b) m) refl (h m l low)
    ∙ ap (λ x. x % P.p)
    (ap (λ x. c * x) (total-append a b m)
    ∙ (let q : c * (total a m + total b m) ≡ c * total a m + c * total b m = omega arith in q)
    ∙ sym (total-append (scale c a) (scale c b) m ∙ ap (λ x. x + total (scale c b) m) (total-scale c a m) ∙ ap (λ x. c * total a m + x) (total-scale c b m)))

-- sums and multiples of what splits split
IsClosed-splits : (P : Problem) (s : List (List ℕ)) → IsClosed P (Splits P s)
IsClosed-splits P s = record {
  members = λ f h. record { remainder = []; member = f; in_ring = tt; made = λ m l low n. absurd (n (zero-mod P.p)); is_in = h; equation = λ m l low. refl };
  sum = λ f g x y. record {
    remainder = x.remainder ++ y.remainder;
    member = x.member ++ y.member;
    in_ring = in-append P.n x.remainder y.remainder x.in_ring y.in_ring;
    made = made-sum P s x.remainder y.remainder x.made y.made;
    is_in = IsInIdeal-add P x.member y.member x.is_in y.is_in;
    equation = λ m l low.
        agree-append P f (x.remainder ++ x.member) g (y.remainder ++ y.member) x.equation y.equation m l low
        ∙ swapped P x.remainder x.member y.remainder y.member m l low;
  };
  scaled = λ c f x. record {
    remainder = scale c x.remainder;
    member = scale c x.member;
    in_ring = in-scale P.n c x.remainder x.in_ring;
    made = λ m l low n. x.made m l low (λ z. n (coef-scale_zero P.p c x.remainder m z));
    is_in = IsInIdeal-scale P c x.member x.is_in;
    equation = scale-sum P c f x.remainder x.member x.equation;
  };
  alike = λ f g h x. record {
    remainder = x.remainder;
    member = x.member;
    in_ring = x.in_ring;
    made = x.made;
    is_in = x.is_in;
    equation = λ m l low. h m l low ∙ x.equation m l low;
  };
}

-- a monomial of s is its own remainder
splits-monomial : (P : Problem) (s : List (List ℕ)) (m : List ℕ) → length m ≡ P.n → Contains s m → Splits P s (monomial m)
splits-monomial P s m l c = record {
  remainder = monomial m;
  member = [];
  in_ring = (l, tt);
  made = λ k kl low n. subst (Contains s) (same-true m k (there k n)) c;
  is_in = IsInIdeal-zero P;
  equation = λ k kl low. refl;
}
  where
    there : (k : List ℕ) → coef P.p (monomial m) k ≢ 0 → same m k ≡ true
    there k n = go (same m k) refl
      where
        go : (b : Bool) → same m k ≡ b → b ≡ true
        go true e = refl
        go false e = absurd (n (ap (λ b. (cond b 1 0 + 0) % P.p) e ∙ zero-mod P.p))

-- what splits has a remainder
remainder_of : (P : Problem) (s : List (List ℕ)) (f : Poly) → 0 < P.p → Splits P s f → HasRemainder P s f
remainder_of P s f pos x = record {
  remainder = x.remainder;
  in_ring = x.in_ring;
  made = x.made;
  is_in = IsInIdeal-agree P x.member (difference P.p f x.remainder) (difference-sum P f x.remainder x.member pos x.equation) x.is_in;
}

module _ (P : Problem) (G : List Poly) (basis : IsReducedBasis P G) (gens : AllIn P.n P.gens) (prime : IsPrime P.p) (s : List (List ℕ)) (x : IsStaircase P s) where
  -- each monomial up to the degree splits
  monomial_splits : (m : List ℕ) → length m ≡ P.n → degree m ≤ P.d → Splits P s (monomial m)
  monomial_splits =
      falling_induction P.n P.d (λ m. Splits P s (monomial m))
      (λ m l low later.
      ⊎_elim
      (λ d. from_lead P (Splits P s) (IsClosed-splits P s) prime m l (lead_of_divided P G basis gens m l low d) later)
      (λ there. splits-monomial P s m l there)
      (divided_or_in_staircase P G basis gens s m x l low))

  -- so each polynomial has a remainder
  pub spanning : (f : Poly) → IsIn P.n f → HasRemainder P s f
  spanning f i =
      let pos : 0 < P.p = omega (arith, prime.two_up) in
      remainder_of P s f pos (by_monomials P (Splits P s) (IsClosed-splits P s) f pos i (λ k l low n. monomial_splits k l low))
