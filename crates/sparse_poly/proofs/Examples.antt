-- The definitions at small values, each of which a wrong definition would change.
-- Members and monomials that are none, leads, a staircase, a first missing monomial, powers and derivatives.
use Rattle.std.proofs.Common.{◌≡◌, ℕ, zero, suc, ◌+◌, ◌-◌, ◌%◌, ◌<◌, ◌≤◌, ◌≢◌, List, [], ◌∷◌, length, Contains, refl, ap, sym, ◌∙◌, inl, inr, subst, arith, lit≤, lit<, get_or, ◌↔◌}
use Rattle.std.proofs.Math.Nat.{zero-mod}
use Rattle.local_order.specs.Mono.{degree, mono_times}
use Rattle.local_order.specs.Order.{IsAbove}
use Rattle.sparse_poly.specs.Poly.{Term, Poly, total, coef, IsIn, cut, derivative, power, term_times, times, combination}
use Rattle.sparse_poly.specs.Canonical.{canonical}
use Rattle.sparse_poly.specs.Ideal.{Problem, IsInIdeal, IsLeadOfIdeal, IsStaircase, IsFirstMissing}
use Rattle.sparse_poly.proofs.Canonical.{coef-canonical}
use Rattle.sparse_poly.proofs.Closure.{IsInIdeal-generator}
use Rattle.sparse_poly.proofs.Coef.{total-append, total-cut_in, total-shift_off}
use Rattle.sparse_poly.proofs.Cuts.{cut-low}
use Rattle.sparse_poly.proofs.Member.{AllIn, agree, IsInIdeal-term_times}
use Rattle.sparse_poly.proofs.Ring.{total-times_comm}
use Rattle.sparse_poly.proofs.Unique.{IsLead-canonical}

-- ---- monomials that no member has
-- m is no multiple of a
abbrev IsNoMultiple : List ℕ → List ℕ → Type 0
IsNoMultiple m a = (k : List ℕ) → length k ≡ length m → m ≢ mono_times a k

-- m is no multiple of a monomial of f
abbrev IsUndivided : List ℕ → Poly → Type 0
IsUndivided m [] = Unit {0}
IsUndivided m (t ∷ f) = IsNoMultiple m t.mono × IsUndivided m f

-- nor of any in a list
abbrev AllUndivided : List ℕ → List Poly → Type 0
AllUndivided m [] = Unit {0}
AllUndivided m (f ∷ fs) = IsUndivided m f × AllUndivided m fs

-- a product has no such monomial
total-undivided : (n : ℕ) (f q : Poly) (m : List ℕ) → IsIn n f → IsIn n q → length m ≡ n → IsUndivided m f → total (times f q) m ≡ 0
total-undivided n [] q m i j l h = refl
total-undivided n (t ∷ f) q m i j l h =
    omega (
      arith,
      total-append (term_times t.coef t.mono q) (times f q) m,
      total-shift_off t.coef t.mono q m n j i.0 l h.0,
      total-undivided n f q m i.1 j l h.1,
    )

-- nor has a combination
combination-undivided : (n : ℕ) (q : ℕ → Poly) (fs : List Poly) (m : List ℕ) → ((i : ℕ) → IsIn n (q i)) → AllIn n fs → length m ≡ n → AllUndivided m fs →
    total (combination q fs) m ≡ 0
combination-undivided n q [] m i j l h = refl
combination-undivided n q (f ∷ fs) m i j l h =
    omega (
      arith,
      total-append (times (q 0) f) (combination (λ k. q (suc k)) fs) m,
      total-times_comm (q 0) f m,
      total-undivided n f (q 0) m j.0 (i 0) l h.0,
      combination-undivided n (λ k. q (suc k)) fs m (λ k. i (suc k)) j.1 l h.1,
    )

-- nor has a member of the ideal
coef-undivided : (P : Problem) (g : Poly) (m : List ℕ) → AllIn P.n P.gens → length m ≡ P.n → degree m ≤ P.d → AllUndivided m P.gens → IsInIdeal P g → coef P.p g m ≡ 0
coef-undivided P g m gens l low h member =
    agree P g (combination member.cofactor P.gens) member.equation m l low
    ∙ ap (λ x. x % P.p) (combination-undivided P.n member.cofactor P.gens m member.in_ring gens l h)
    ∙ zero-mod P.p

-- so it is no lead
no_lead : (P : Problem) (m : List ℕ) → AllIn P.n P.gens → length m ≡ P.n → AllUndivided m P.gens → IsLeadOfIdeal P m → ⊥
no_lead P m gens l h lead =
    lead.lead.there (ap (λ x. x % P.p) (total-cut_in P.d lead.member m lead.low) ∙ coef-undivided P lead.member m gens l lead.low h lead.is_in)

-- a monomial of the ideal is a lead
monomial_lead : (P : Problem) (m : List ℕ) → 1 < P.p → length m ≡ P.n → degree m ≤ P.d → IsInIdeal P (record { mono = m; coef = 1 } ∷ []) → IsLeadOfIdeal P m
monomial_lead P m prime l low h = record {
  low = low;
  member = monomial ∷ [];
  in_ring = (l, tt);
  is_in = h;
  lead = rw (cut-low P.d monomial [] low) (IsLead-canonical P monomial [] (l, lit< tt, prime, tt, tt));
}
  where
    monomial : Term
    monomial = record { mono = m; coef = 1 }

-- a first exponent that is less, or a multiple of what follows that is none
less_first : (x y : ℕ) (m a : List ℕ) → x < y → IsNoMultiple (x ∷ m) (y ∷ a)
less_first x y m a l [] e h = absurd (omega arith)
less_first x y m a l (z ∷ k) e h = let same : x ≡ y + z = cc in omega arith

-- a first exponent and a multiple of what follows that is none
less_later : (x y : ℕ) (m a : List ℕ) → IsNoMultiple m a → IsNoMultiple (x ∷ m) (y ∷ a)
less_later x y m a none [] e h = absurd (omega arith)
less_later x y m a none (z ∷ k) e h = none k (omega arith) cc

-- ---- one variable: the ideal of x - x^2 modulo degree 4
-- c * x^a
abbrev power_of_x : ℕ → ℕ → Term
power_of_x c a = record { mono = a ∷ []; coef = c }

-- x
abbrev x : Poly
x = power_of_x 1 1 ∷ []

-- x - x^2
abbrev x-x² : Poly
x-x² = power_of_x 1 1 ∷ power_of_x 32002 2 ∷ []

-- the problem
abbrev P : Problem
P = record { p = 32003; n = 1; d = 3; gens = x-x² ∷ [] }

-- 1 + x + x^2
abbrev chain : Poly
chain = power_of_x 1 0 ∷ power_of_x 1 1 ∷ power_of_x 1 2 ∷ []

-- the product of 1 + x + x^2 and the generator is x
product_is : canonical 32003 (cut 3 (times chain x-x²)) ≡ x
product_is = refl

-- x is in it, as the product of the generator and 1 + x + x^2
x_in : IsInIdeal P x
x_in = record { cofactor = λ i. chain; in_ring = λ i. (refl, (refl, (refl, tt))); equation = λ m l. same m }
  where
    whole : Poly
    whole = combination (λ i. chain) (x-x² ∷ [])

    same : (m : List ℕ) → coef 32003 (cut 3 x) m ≡ coef 32003 (cut 3 whole) m
    same m =
        sym (coef-canonical 32003 (cut 3 x) m)
        ∙ ap (λ f. coef 32003 f m) (let e : canonical 32003 (cut 3 x) ≡ canonical 32003 (cut 3 whole) = refl in e)
        ∙ coef-canonical 32003 (cut 3 whole) m

-- each power of x up to degree 3 is a lead
power_lead : (e : ℕ) → 1 ≤ e → e ≤ 3 → IsLeadOfIdeal P (e ∷ [])
power_lead e some low = monomial_lead P (e ∷ []) (lit< tt) refl (omega arith) (subst (IsInIdeal P) power (IsInIdeal-term_times P 1 ((e - 1) ∷ []) x ((refl, (refl, tt)), tt) refl (refl, tt) x_in))
  where
    power : term_times 1 ((e - 1) ∷ []) x ≡ power_of_x 1 e ∷ []
    power = ap (λ a. power_of_x 1 a ∷ []) (let q : e - 1 + 1 ≡ e = omega arith in q)

-- 1 is none
one_no_lead : IsLeadOfIdeal P (0 ∷ []) → ⊥
one_no_lead = no_lead P (0 ∷ []) ((refl, (refl, tt)), tt) refl ((less_first 0 1 [] [] (lit< tt), (less_first 0 2 [] [] (lit< tt), tt)), tt)

-- the list of 1 alone has no other member
one_at : (k : ℕ) (m : List ℕ) → k < 1 → get_or ((0 ∷ []) ∷ []) k m ≡ m → 0 ∷ [] ≡ m
one_at zero m l e = e
one_at (suc k) m l e = absurd (omega arith)

-- the staircase is 1
staircase : IsStaircase P ((0 ∷ []) ∷ [])
staircase = record {
  falling = tt;
  exactly = exactly;
  only = λ m (k, l, e). subst (λ a. (length a ≡ 1) × (degree a ≤ 3)) (one_at k m l e) (refl, lit≤ tt);
}
  where
    exactly : (m : List ℕ) → length m ≡ 1 → degree m ≤ 3 → Contains ((0 ∷ []) ∷ []) m ↔ (IsLeadOfIdeal P m → ⊥)
    exactly [] l low = absurd (omega arith)
    exactly (zero ∷ []) l low = (λ there lead. one_no_lead lead, λ none. (0, lit< tt, refl))
    exactly (suc e ∷ []) l low = (λ (k, h, s). absurd (let q : 0 ∷ [] ≡ suc e ∷ [] = one_at k (suc e ∷ []) h s in cc), λ none. absurd (none (power_lead (suc e) (omega arith) (omega arith))))
    exactly (e ∷ f ∷ m) l low = absurd (omega arith)

-- ---- a unit: 1 is a lead of the ideal of 1 + x
-- its lead is that of the generator itself
unit_lead : IsLeadOfIdeal (record { p = 5; n = 1; d = 2; gens = (power_of_x 1 0 ∷ power_of_x 1 1 ∷ []) ∷ [] }) (0 ∷ [])
unit_lead = record {
  low = lit≤ tt;
  member = power_of_x 1 0 ∷ power_of_x 1 1 ∷ [];
  in_ring = (refl, (refl, tt));
  is_in = IsInIdeal-generator _ _ ((refl, (refl, tt)), tt) (0, lit< tt, refl);
  lead = IsLead-canonical _ (power_of_x 1 0) (power_of_x 1 1 ∷ []) (refl, lit< tt, lit< tt, inl (lit< tt), (refl, lit< tt, lit< tt, tt, tt));
}

-- ---- two variables
-- x^a * y^b
abbrev monomial : ℕ → ℕ → Poly
monomial a b = record { mono = a ∷ b ∷ []; coef = 1 } ∷ []

-- x isn't in the ideal of x^2 and y modulo degree 4
x_not_in : IsInIdeal (record { p = 5; n = 2; d = 3; gens = monomial 2 0 ∷ monomial 0 1 ∷ [] }) (monomial 1 0) → ⊥
x_not_in h =
    let one : ℕ = 1 in
    let gone : one ≡ 0 =
    coef-undivided (record { p = 5; n = 2; d = 3; gens = monomial 2 0 ∷ monomial 0 1 ∷ [] }) (monomial 1 0) (1 ∷ 0 ∷ []) ((refl, tt), ((refl, tt), tt)) refl (lit≤ tt)
    ((less_first 1 2 (0 ∷ []) (0 ∷ []) (lit< tt), tt), ((less_later 1 0 (0 ∷ []) (1 ∷ []) (less_first 0 1 [] [] (lit< tt)), tt), tt)) h in
    omega (arith, gone)

-- of the monomials of degree 1 the ideal of x lacks y, and y is the first that it lacks
abbrev Q : Problem
Q = record { p = 5; n = 2; d = 1; gens = monomial 1 0 ∷ [] }

-- y is the first that it lacks
y_first_missing : IsFirstMissing Q (0 ∷ 1 ∷ [])
y_first_missing = record {
  in_ring = refl;
  top = refl;
  missing = no_lead Q (0 ∷ 1 ∷ []) ((refl, tt), tt) refl ((less_first 0 1 (1 ∷ []) (0 ∷ []) (lit< tt), tt), tt);
  first = first;
}
  where
    x_lead : IsLeadOfIdeal Q (1 ∷ 0 ∷ [])
    x_lead = monomial_lead Q (1 ∷ 0 ∷ []) (lit< tt) refl (lit≤ tt) (IsInIdeal-generator Q (monomial 1 0) ((refl, tt), tt) (0, lit< tt, refl))

    first : (k : List ℕ) → length k ≡ 2 → degree k ≡ 1 → IsAbove k (0 ∷ 1 ∷ []) → IsLeadOfIdeal Q k
    first [] l d a = absurd (omega arith)
    first (e ∷ []) l d a = absurd (omega arith)
    first (e ∷ f ∷ g ∷ k) l d a = absurd (omega arith)
    first (e ∷ f ∷ []) l d (inl low) = absurd (let n : e + (f + 0) < 1 = low in omega arith)
    first (e ∷ f ∷ []) l d (inr (s, inl (inl h))) = absurd h
    first (e ∷ f ∷ []) l d (inr (s, inl (inr h))) = subst (IsLeadOfIdeal Q) (pairs (omega (arith, h.1)) (omega (arith, h.1))) x_lead
      where
        pairs : 1 ≡ e → 0 ≡ f → (1 ∷ 0 ∷ []) ≡ (e ∷ f ∷ [])
        pairs a b = cc
    first (e ∷ f ∷ []) l d (inr (s, inr h)) = absurd (let n : e < 0 = h.1 in omega arith)

-- ---- powers and derivatives
-- (1 + x)^2 is 1 + x^2 modulo 2
square_modulo_two : canonical 2 (power 1 (power_of_x 1 0 ∷ power_of_x 1 1 ∷ []) 2) ≡ power_of_x 1 0 ∷ power_of_x 1 2 ∷ []
square_modulo_two = refl

-- the power 0 of 0 is 1
zeroth_power : power 2 [] 0 ≡ monomial 0 0
zeroth_power = refl

-- the derivative of x^2 is 0 modulo 2, and that of x^3 is x^2
square_vanishes : canonical 2 (derivative 0 (power_of_x 1 2 ∷ [])) ≡ []
square_vanishes = refl

-- and that of x^3 is x^2
cube_stays : canonical 2 (derivative 0 (power_of_x 1 3 ∷ [])) ≡ power_of_x 1 2 ∷ []
cube_stays = refl

-- the derivative of x*y by y is x
other_variable : canonical 5 (derivative 1 (monomial 1 1)) ≡ monomial 1 0
other_variable = refl
