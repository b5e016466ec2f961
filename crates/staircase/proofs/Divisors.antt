-- A monomial up to the degree is a lead exactly where a lead of the reduced basis divides it.
-- Whether one does is decided; a lead that none divides would be minimal, as its divisors are by induction, and so one of them.
use Rattle.std.proofs.Common.{◌≡◌, ◌≢◌, ◌↔◌, ℕ, zero, suc, ◌<◌, ◌≤◌, ◌⊎◌, List, [], ◌∷◌, length, Contains, ap, sym, ◌∙◌, inl, inr, ⊎_elim, subst, arith}
use Rattle.std.proofs.lemmas.Bool.{cases_lt}
use Rattle.std.proofs.lemmas.List.{length-replicate}
use Rattle.local_order.specs.Mono.{degree, mono_one, mono_times, Divides}
use Rattle.local_order.proofs.Division.{one_of_degree, mono_times-one}
use Rattle.local_order.proofs.Order.{degree-mono_times, length-mono_times, mono_times_assoc, divides_cases}
use Rattle.sparse_poly.specs.Ideal.{Problem, IsLeadOfIdeal, IsMinimalLead, IsStaircase, Fits, IsReducedMember, IsReducedBasis, IsMultipleOfLead}
use Rattle.sparse_poly.specs.Poly.{Poly}
use Rattle.sparse_poly.proofs.Member.{AllIn}
use Rattle.sparse_poly.proofs.Falling.{Among, among_of_contains, contains_of_among, paired_left, paired_right}
use Rattle.sparse_poly.proofs.Leads.{multiple_of_lead}
use Rattle.sparse_poly.proofs.Unique.{one_lead}

-- ---- division
-- a monomial divides itself
Divides-self : (m : List ℕ) → Divides m m
Divides-self m = let z : ℕ = 0 in (mono_one (length m), length-replicate (length m) z, sym (mono_times-one m))

-- a divisor of a divisor is a divisor
Divides-trans : (a b c : List ℕ) → length b ≡ length c → Divides a b → Divides b c → Divides a c
Divides-trans a b c l (j, jl, e) (k, kl, h) =
    (mono_times j k, length-mono_times j k (jl ∙ l ∙ sym kl) ∙ kl, h ∙ ap (λ x. mono_times x k) e ∙ mono_times_assoc a j k)

-- a divisor is the monomial itself or of lesser degree
divisor_less : (a m : List ℕ) → length a ≡ length m → Divides a m → (a ≡ m) ⊎ (degree a < degree m)
divisor_less a m l (k, kl, e) =
    ⊎_elim
    (λ (some : 0 < degree k). inr (omega (arith, some, ap degree e, degree-mono_times a k)))
    (λ (none : degree k ≤ 0).
    inl (sym (e ∙ ap (mono_times a) (one_of_degree k (omega arith) ∙ ap mono_one (kl ∙ sym l)) ∙ mono_times-one a)))
    (cases_lt 0 (degree k))

-- a member of a list divides a monomial
abbrev Divided : List (List ℕ) → List ℕ → Type 0
Divided s m = (k : List ℕ) × Among s k × Divides k m

-- it does or it doesn't
divided_cases : (s : List (List ℕ)) (m : List ℕ) → ((k : List ℕ) → Among s k → length k ≡ length m) → Divided s m ⊎ (Divided s m → ⊥)
divided_cases [] m h = inr (λ d. d.1)
divided_cases (a ∷ s) m h = go (divides_cases a m (h a (inl (λ i. a)))) (divided_cases s m (λ k c. h k (inr c)))
  where
    none : ((k : List ℕ) → length k ≡ length m → m ≢ mono_times a k) → (Divided s m → ⊥) → Divided (a ∷ s) m → ⊥
    none n r (k, inl e, (q, ql, d)) = n q ql (d ∙ ap (λ x. mono_times x q) (sym e))
    none n r (k, inr c, d) = r (k, c, d)

    go : Divides a m ⊎ ((k : List ℕ) → length k ≡ length m → m ≢ mono_times a k) → Divided s m ⊎ (Divided s m → ⊥) → Divided (a ∷ s) m ⊎ (Divided (a ∷ s) m → ⊥)
    go (inl d) r = inl (a, inl (λ i. a), d)
    go (inr n) (inl (k, c, d)) = inl (k, inr c, d)
    go (inr n) (inr r) = inr (none n r)

-- ---- the leads of the basis
module _ (P : Problem) (G : List Poly) (basis : IsReducedBasis P G) where
  -- they are leads of the ideal
  basis_lead : (k : List ℕ) → Among (basis.leads) k → IsLeadOfIdeal P k
  basis_lead k c = let minimal : IsMinimalLead P k = (basis.minimal k).0 (contains_of_among (basis.leads) k c) in minimal.lead

  -- so have n exponents
  basis_length : (k : List ℕ) → Among (basis.leads) k → length k ≡ P.n
  basis_length k c = let x : IsLeadOfIdeal P k = basis_lead k c in x.lead.in_ring

  -- whether one divides m is decided
  basis_cases : (m : List ℕ) → length m ≡ P.n → Divided (basis.leads) m ⊎ (Divided (basis.leads) m → ⊥)
  basis_cases m l = divided_cases (basis.leads) m (λ k c. basis_length k c ∙ sym l)

  -- one divides each lead
  lead_divided : (bound : ℕ) (m : List ℕ) → degree m < bound → IsLeadOfIdeal P m → Divided (basis.leads) m
  lead_divided zero m b x = absurd (omega (arith, b))
  lead_divided (suc bound) m b x = go (λ k less y. lead_divided bound k (omega (arith, less, b)) y) (basis_cases m x.lead.in_ring)
    where
      least : ((k : List ℕ) → degree k < degree m → IsLeadOfIdeal P k → Divided (basis.leads) k) → (Divided (basis.leads) m → ⊥) →
          (k : List ℕ) → length k ≡ P.n → Divides k m → IsLeadOfIdeal P k → k ≡ m
      least earlier none k kl d y =
          ⊎_elim
          (λ (e : k ≡ m). e)
          (λ (less : degree k < degree m).
          let r = earlier k less y in
          absurd (none (r.0, r.1, Divides-trans r.0 k m (kl ∙ sym x.lead.in_ring) r.2 d)))
          (divisor_less k m (kl ∙ sym x.lead.in_ring) d)

      go : ((k : List ℕ) → degree k < degree m → IsLeadOfIdeal P k → Divided (basis.leads) k) → Divided (basis.leads) m ⊎ (Divided (basis.leads) m → ⊥) → Divided (basis.leads) m
      go earlier (inl r) = r
      go earlier (inr none) =
          (m, among_of_contains (basis.leads) m ((basis.minimal m).1 (record { lead = x; least = least earlier none })), Divides-self m)

  -- a lead of a member is one of the basis
  divided_of : (m : List ℕ) → IsMultipleOfLead P G m → Divided basis.leads m
  divided_of m (g, k, c, lead, d) =
      let r = paired_left (IsReducedMember P) G basis.leads g basis.members (among_of_contains G g c) in
      let member : IsReducedMember P g r.0 = r.2 in
      (r.0, r.1, subst (λ a. Divides a m) (one_lead P g k r.0 lead member.lead) d)

  -- and a lead of the basis is that of a member
  multiple_of : (m : List ℕ) → Divided basis.leads m → IsMultipleOfLead P G m
  multiple_of m (k, c, d) =
      let r = paired_right (IsReducedMember P) G basis.leads k basis.members c in
      let member : IsReducedMember P r.0 k = r.2 in
      (r.0, k, contains_of_among G r.0 r.1, member.lead, d)

  module _ (gens : AllIn P.n P.gens) where
    -- and what one divides is a lead
    pub lead_of_divided : (m : List ℕ) → length m ≡ P.n → degree m ≤ P.d → Divided basis.leads m → IsLeadOfIdeal P m
    lead_of_divided m l low r = multiple_of_lead P r.0 m gens l low r.2 (basis_lead r.0 r.1)

    -- so up to the degree the leads of the ideal are the multiples of the leads of the basis
    pub leads_by_basis : (m : List ℕ) → length m ≡ P.n → degree m ≤ P.d → IsLeadOfIdeal P m ↔ IsMultipleOfLead P G m
    leads_by_basis m l low = (
      λ x. multiple_of m (lead_divided (suc (degree m)) m (omega arith) x),
      λ r. lead_of_divided m l low (divided_of m r),
    )

    -- so the staircase has what none divides
    pub staircase_by_basis : (s : List (List ℕ)) (m : List ℕ) → IsStaircase P s → length m ≡ P.n → degree m ≤ P.d → Contains s m ↔ (IsMultipleOfLead P G m → ⊥)
    staircase_by_basis s m x l low = (
      λ c r. (x.exactly m l low).0 c ((leads_by_basis m l low).1 r),
      λ none. (x.exactly m l low).1 (λ lead. none ((leads_by_basis m l low).0 lead)),
    )

    -- whether a monomial is divided or in the staircase is decided
    pub divided_or_in_staircase : (s : List (List ℕ)) (m : List ℕ) → IsStaircase P s → length m ≡ P.n → degree m ≤ P.d → Divided basis.leads m ⊎ Contains s m
    divided_or_in_staircase s m x l low =
        ⊎_elim (λ d. inl d) (λ none. inr ((staircase_by_basis s m x l low).1 (λ r. none (divided_of m r)))) (basis_cases m l)

    -- and where it is of lesser degree alone, every monomial of degree d is a lead of the ideal
    pub fits_by_staircase : (s : List (List ℕ)) → IsStaircase P s → ((m : List ℕ) → Contains s m → degree m < P.d) → Fits P
    fits_by_staircase s x low m l top =
        ⊎_elim
        (λ d. lead_of_divided m l (omega (arith, top)) d)
        (λ there. absurd (omega (arith, low m there, top)))
        (divided_or_in_staircase s m x l (omega (arith, top)))
