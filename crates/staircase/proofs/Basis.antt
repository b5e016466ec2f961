-- There is one reduced basis at most.
-- The difference of two members with one lead would have a lead of the ideal among the other monomials of one of them.
use Rattle.std.proofs.Common.{◌≡◌, ◌≢◌, ℕ, ◌<◌, ◌≤◌, ◌⊎◌, List, [], ◌∷◌, refl, ap, sym, ◌∙◌, inl, inr, subst, arith}
use Rattle.std.specs.List.{AllZip}
use Rattle.std.proofs.Math.Nat.{zero-mod}
use Rattle.std.proofs.lemmas.Bool.{cases_eq}
use Rattle.local_order.specs.Mono.{degree}
use Rattle.sparse_poly.specs.Poly.{Poly, coef, IsIn, IsCanonical}
use Rattle.sparse_poly.specs.Canonical.{canonical}
use Rattle.sparse_poly.specs.Ideal.{Problem, IsLead, IsLeadOfIdeal, IsReducedMember, IsReducedBasis}
use Rattle.sparse_poly.proofs.Canonical.{coef-canonical, IsCanonical-canonical}
use Rattle.sparse_poly.proofs.Unique.{in_of_canonical, canonical_unique, same_total, IsLead-canonical}
use Rattle.sparse_poly.proofs.Difference.{difference, in-difference, coef-difference, same_from_difference, IsInIdeal-difference}
use Rattle.sparse_poly.proofs.Falling.{Among, among_of_contains, contains_of_among, falling_same}
use Rattle.sparse_poly.proofs.Leads.{IsLeadOfIdeal-member}

-- a member has a coefficient below p, so p isn't 0
positive : (P : Problem) (g : Poly) (m : List ℕ) → IsReducedMember P g m → 0 < P.p
positive P [] m x = absurd (let z : coef P.p [] m ≡ 0 = zero-mod P.p in omega (arith, z, x.monic))
positive P (t ∷ f) m x = omega (arith, x.form.2)

module _ (P : Problem) (pos : 0 < P.p) (g h : Poly) (m : List ℕ) (x : IsReducedMember P g m) (y : IsReducedMember P h m) where
  -- the difference is in the same variables
  rest_in : IsIn P.n (difference P.p g h)
  rest_in = in-difference P.p P.n g h (in_of_canonical P.p P.n g x.form) (in_of_canonical P.p P.n h y.form)

  -- the difference has no lead
  no_lead : (k : List ℕ) → IsLead P (difference P.p g h) k → ⊥
  no_lead k l = contra (cases_eq (coef P.p g k) 0) (cases_eq (coef P.p h k) 0)
    where
      apart : coef P.p g k ≡ coef P.p h k → ⊥
      apart s = l.there (coef-difference P.p g h k pos s)

      other : k ≡ m → ⊥
      other s = apart (ap (coef P.p g) s ∙ x.monic ∙ sym (ap (coef P.p h) s ∙ y.monic))

      lead : degree k ≤ P.d → IsLeadOfIdeal P k
      lead low = IsLeadOfIdeal-member P (difference P.p g h) k rest_in (IsInIdeal-difference P g h x.is_in y.is_in) low l

      contra : (coef P.p g k ≡ 0) ⊎ (coef P.p g k ≢ 0) → (coef P.p h k ≡ 0) ⊎ (coef P.p h k ≢ 0) → ⊥
      contra (inr n) o = x.tail k l.in_ring n other (lead (x.low k l.in_ring n))
      contra (inl z) (inr n) = y.tail k l.in_ring n other (lead (y.low k l.in_ring n))
      contra (inl z) (inl w) = apart (z ∙ sym w)

  -- so it is 0, and the two members are the same
  one_member : g ≡ h
  one_member = go (canonical P.p (difference P.p g h)) refl (IsCanonical-canonical P.p P.n (difference P.p g h) pos rest_in)
    where
      go : (f : Poly) → canonical P.p (difference P.p g h) ≡ f → IsCanonical P.p P.n f → g ≡ h
      go [] q w =
          canonical_unique P.p P.n g h x.form y.form
          (same_total P.p P.n g h pos x.form y.form
          (λ k l. same_from_difference P.p g h k pos (sym (coef-canonical P.p (difference P.p g h) k) ∙ ap (λ f. coef P.p f k) q ∙ zero-mod P.p)))
      go (t ∷ f) q w =
          let at : (k : List ℕ) → coef P.p (difference P.p g h) k ≡ coef P.p (t ∷ f) k = λ k. sym (coef-canonical P.p (difference P.p g h) k) ∙ ap (λ f. coef P.p f k) q in
          let l : IsLead P (t ∷ f) t.mono = IsLead-canonical P t f w in
          absurd (no_lead t.mono (record { in_ring = l.in_ring; there = λ z. l.there (sym (at t.mono) ∙ z); greatest = λ k kl a. at k ∙ l.greatest k kl a }))

-- lists of members with the same leads are the same
same_members : (P : Problem) (G H : List Poly) (leads : List (List ℕ)) → AllZip (IsReducedMember P) G leads → AllZip (IsReducedMember P) H leads → G ≡ H
same_members P [] [] leads a b = refl
same_members P [] (h ∷ H) [] a b = absurd b
same_members P [] (h ∷ H) (m ∷ leads) a b = absurd a
same_members P (g ∷ G) [] [] a b = absurd a
same_members P (g ∷ G) [] (m ∷ leads) a b = absurd b
same_members P (g ∷ G) (h ∷ H) [] a b = absurd a
same_members P (g ∷ G) (h ∷ H) (m ∷ leads) a b = λ i. one_member P (positive P g m a.0) g h m a.0 b.0 i ∷ same_members P G H leads a.1 b.1 i

-- each lead of one basis is one of the other
over : (P : Problem) (G H : List Poly) (x : IsReducedBasis P G) (y : IsReducedBasis P H) (m : List ℕ) → Among x.leads m → Among y.leads m
over P G H x y m h = among_of_contains y.leads m ((y.minimal m).1 ((x.minimal m).0 (contains_of_among x.leads m h)))

-- so there is one basis at most
pub one_basis : (P : Problem) (G H : List Poly) → IsReducedBasis P G → IsReducedBasis P H → G ≡ H
one_basis P G H x y =
    let same : x.leads ≡ y.leads = falling_same P x.leads y.leads x.falling y.falling (over P G H x y) (over P H G y x) in
    same_members P G H x.leads x.members (subst (AllZip (IsReducedMember P) H) (sym same) y.members)
