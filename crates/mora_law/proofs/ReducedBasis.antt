-- A reduced basis by rank is the reduced standard basis of the problem's ideal.
-- Members go one by one; leads by rank and leads as monomials are tied by the numbering.
use Rattle.std.proofs.Common.{◌≡◌, ℕ, zero, suc, ◌%◌, ◌<◌, ◌≤◌, ◌≢◌, ◌⊎◌, List, [], ◌∷◌, length, map, Contains, refl, sym, ◌∙◌, ap, subst, arith, inl, inr}
use Rattle.std.specs.List.{AllZip}
use Rattle.std.proofs.Math.Nat
use Rattle.std.proofs.lemmas.Bool.{cases_lt}
use Rattle.local_order.specs.Mono.{degree, Divides}
use Rattle.local_order.specs.Order.{IsAbove}
use Rattle.mono_rank.specs.Laws.{Numbering, IsNumbering}
use Rattle.rank_algebra.specs.Ranks.{Ranks}
use Rattle.sparse_poly.specs.Poly.{total, coef, IsCanonical}
use Rattle.sparse_poly.specs.Ideal.{Problem, IsInIdeal, IsLeadOfIdeal, IsFalling, IsMinimalLead, IsReducedMember, IsReducedBasis}
use Rattle.entry_code.specs.declared.term.Term.{Term}
use Rattle.rank_algebra.specs.Vector.{Same}
use Rattle.mora_law.specs.Ring.{numbering_of, ranks_of_problem, IsAdmissible, vector_of, generators_of}
use Rattle.rank_algebra.specs.Ideal.{IsLead as IsLeadByRank, IsLeadOfSpan, Generators}
use Rattle.mora_law.specs.Entries.{terms_of, lead_rank, poly_of_terms}
use Rattle.entry_code.specs.Terms.{vector_of_terms}
use Rattle.rank_algebra.proofs.Linear.{span_space}
use Rattle.mora_law.proofs.Ring.{numbering_is, ranks_are, ranks_p, ranks_count}
use Rattle.mora_law.proofs.Spans.{ideal_by_rank, lead_by_rank}
use Rattle.mora_law.proofs.Divisors.{multiple_by_rank, divisor_of_rank, above_by_rank}
use Rattle.mora_law.proofs.ReducedByRank.{Mem, Rising, IsMinimal, IsMember, Members, IsReducedByRank}
use Rattle.mora_law.proofs.Choice.{lead_some}
use Rattle.mora_law.proofs.Polynomials.{total_of_terms, vector_back, canonical_of_terms, high_of_terms, lead_of_terms}

module _ (P : Problem) (h : IsAdmissible P) where
  -- the numbering of the problem
  abbrev O : Numbering
  O = numbering_of P

  -- it numbers the monomials by the order
  W : IsNumbering P.n P.d IsAbove (numbering_of P)
  W = numbering_is P h.some

  -- computing by rank
  abbrev R : Ranks
  R = ranks_of_problem P

  -- the generators by rank
  abbrev G : Generators
  G = generators_of P

  -- a rank below the number of vectors is one of the numbering
  counted : (r : ℕ) → r < (ranks_of_problem P).n → r < (numbering_of P).count
  counted r l = omega (arith, l, ranks_count P)

  -- ---- members
  module _ (ts : List Term) (a : IsMember (ranks_of_problem P) (generators_of P) ts) where
    -- its lead is the first term
    i : IsLeadByRank (ranks_of_problem P) (vector_of_terms ts) (lead_rank ts)
    i = lead_some (ranks_of_problem P) (vector_of_terms ts) (lead_rank ts) a.leads

    -- the polynomial is that of its own vector
    own : terms_of (ranks_of_problem P) (vector_of_terms ts) ≡ ts
    own = a.canonical

    -- its coefficients are those of the vector
    total_is : (x : ℕ) → x < O.count → total (poly_of_terms P ts) (O.mono x) ≡ vector_of_terms ts x % P.p
    total_is x l = subst (λ us. total (poly_of_terms P us) (O.mono x) ≡ vector_of_terms ts x % P.p) own (total_of_terms P h (vector_of_terms ts) x l)

    -- the same at each monomial of degree at most d
    coef_is : (m : List ℕ) → length m ≡ P.n → degree m ≤ P.d → coef P.p (poly_of_terms P ts) m ≡ vector_of_terms ts (O.rank m) % P.p
    coef_is m e l =
        ap (λ x. total (poly_of_terms P ts) x % P.p) (sym (W.there m e l))
        ∙ ap (λ x. x % P.p) (total_is (O.rank m) (W.small m e l))
        ∙ Nat.mod-mod (vector_of_terms ts (O.rank m)) P.p

    -- it has no term of a degree above d
    low : (m : List ℕ) → coef P.p (poly_of_terms P ts) m ≢ 0 → degree m ≤ P.d
    low m n = go (cases_lt P.d (degree m))
      where
        go : (P.d < degree m) ⊎ (degree m ≤ P.d) → degree m ≤ P.d
        go (inr l) = l
        go (inl l) = absurd (n (ap (λ x. x % P.p) (subst (λ us. total (poly_of_terms P us) m ≡ 0) own (high_of_terms P h (vector_of_terms ts) m l)) ∙ Nat.zero-mod P.p))

    -- it is canonical
    form : IsCanonical P.p P.n (poly_of_terms P ts)
    form = subst (λ us. IsCanonical P.p P.n (poly_of_terms P us)) own (canonical_of_terms P h (vector_of_terms ts))

    -- its lead has a rank
    small : lead_rank ts < O.count
    small = counted (lead_rank ts) i.small

    -- its leading coefficient is 1
    monic : coef P.p (poly_of_terms P ts) (O.mono (lead_rank ts)) ≡ 1
    monic =
        coef_is (O.mono (lead_rank ts)) (W.in_ring _ small) (W.low _ small)
        ∙ ap (λ r. vector_of_terms ts r % P.p) (W.back _ small)
        ∙ subst (λ p. vector_of_terms ts (lead_rank ts) % p ≡ 1 % p) (ranks_p P) a.one.eq
        ∙ (let two = h.prime.two_up in let e : 1 % P.p ≡ 1 = grind arith in e)

    -- no other term is a lead of the ideal
    tail : (m : List ℕ) → length m ≡ P.n → coef P.p (poly_of_terms P ts) m ≢ 0 → m ≢ O.mono (lead_rank ts) → IsLeadOfIdeal P m → ⊥
    tail m e n other j =
        let l : degree m ≤ P.d = low m n in
        let differs : O.rank m ≡ lead_rank ts → ⊥ = λ z. other (sym (W.there m e l) ∙ ap O.mono z) in
        let z : Same (ranks_of_problem P).p (vector_of_terms ts (O.rank m)) 0 = a.tail (O.rank m) differs ((lead_by_rank P h m e l).0 j) in
        n (coef_is m e l ∙ subst (λ p. vector_of_terms ts (O.rank m) % p ≡ 0 % p) (ranks_p P) z.eq ∙ Nat.zero-mod P.p)

    -- it is in the ideal
    inside : IsInIdeal P (poly_of_terms P ts)
    inside = (ideal_by_rank P h (poly_of_terms P ts)).1
        ((span_space R (ranks_are P h) G.member (λ t. t.place < G.count) (λ c t k. k)).alike _ _
        (record { at = λ r l. subst (λ us. Same (ranks_of_problem P).p (vector_of P (poly_of_terms P us) r) (vector_of_terms ts r)) own ((vector_back P h (vector_of_terms ts)).at r (counted r l)) }) a.inside)

    -- so it is a member of the reduced basis
    member : IsReducedMember P (poly_of_terms P ts) (O.mono (lead_rank ts))
    member = record {
      form = form;
      is_in = inside;
      low = λ m e n. low m n;
      lead = lead_of_terms P ts (lead_rank ts) a.leads form;
      monic = monic;
      tail = tail;
    }

  -- so is each polynomial of the list
  members : (gs : List (List Term)) → Members R G gs → AllZip (IsReducedMember P) (map (poly_of_terms P) gs) (map O.mono (map lead_rank gs))
  members [] a = tt
  members (ts ∷ gs) a = (member ts a.0, members gs a.1)

  -- ---- leads
  -- a monomial of the list has a rank of the list
  mem_to : (rs : List ℕ) → ((r : ℕ) → Mem r rs → r < O.count) → (m : List ℕ) → Contains (map O.mono rs) m → (length m ≡ P.n) × (degree m ≤ P.d) × Mem (O.rank m) rs
  mem_to [] b m (k, l, e) = absurd (omega arith)
  mem_to (r ∷ rs) b m (zero, l, e) = let k = b r (inl refl) in
      (ap length (sym e) ∙ W.in_ring r k, subst (λ x. degree x ≤ P.d) e (W.low r k), inl (ap O.rank (sym e) ∙ W.back r k))
  mem_to (r ∷ rs) b m (suc k, l, e) = let x = mem_to rs (λ y j. b y (inr j)) m (k, omega arith, e) in (x.0, x.1, inr x.2)

  -- and a rank of the list is that of a monomial of the list
  mem_from : (rs : List ℕ) (m : List ℕ) → length m ≡ P.n → degree m ≤ P.d → Mem (O.rank m) rs → Contains (map O.mono rs) m
  mem_from [] m e l j = absurd j
  mem_from (r ∷ rs) m e l (inl z) = (0, omega arith, ap O.mono (sym z) ∙ W.there m e l)
  mem_from (r ∷ rs) m e l (inr j) = let x = mem_from rs m e l j in (suc x.0, omega (arith, x.1), x.2)

  -- rising ranks have falling monomials
  falling : (rs : List ℕ) → ((r : ℕ) → Mem r rs → r < O.count) → Rising rs → IsFalling P (map O.mono rs)
  falling [] b a = tt
  falling (r ∷ []) b a = tt
  falling (r ∷ s ∷ rs) b a = (above_by_rank P h r s (a.0 s (inl refl)) (b s (inr (inl refl))), falling (s ∷ rs) (λ y j. b y (inr j)) a.1)

  -- a minimal rank is a minimal lead
  minimal_to : (m : List ℕ) → length m ≡ P.n → degree m ≤ P.d → IsMinimal R G (O.rank m) → IsMinimalLead P m
  minimal_to m e l a = record { lead = (lead_by_rank P h m e l).1 a.leads; least = least }
    where
      least : (k : List ℕ) → length k ≡ P.n → Divides k m → IsLeadOfIdeal P k → k ≡ m
      least k f factor j =
          let q = multiple_by_rank P h k m f j.low e l factor in
          let z : O.rank k ≡ O.rank m = a.alone q.0 (O.rank k) q.1 ((lead_by_rank P h k f j.low).0 j) in
          sym (W.there k f j.low) ∙ ap O.mono z ∙ W.there m e l

  -- and a minimal lead has a minimal rank
  minimal_from : (m : List ℕ) → IsMinimalLead P m → (length m ≡ P.n) × (degree m ≤ P.d) × IsMinimal R G (O.rank m)
  minimal_from m a = (e, l, record { leads = (lead_by_rank P h m e l).0 a.lead; alone = alone })
    where
      e : length m ≡ P.n
      e = a.lead.lead.in_ring

      l : degree m ≤ P.d
      l = a.lead.low

      alone : (q s : ℕ) → (ranks_of_problem P).times q s ≡ O.rank m → IsLeadOfSpan (ranks_of_problem P) (generators_of P) s → s ≡ O.rank m
      alone q s f j =
          let d = divisor_of_rank P h q s m e l f in
          let k : O.mono s ≡ m = a.least (O.mono s) (W.in_ring s d.0) d.1 ((lead_by_rank P h (O.mono s) (W.in_ring s d.0) (W.low s d.0)).1 (subst (IsLeadOfSpan (ranks_of_problem P) (generators_of P)) (sym (W.back s d.0)) j)) in
          sym (W.back s d.0) ∙ ap O.rank k

  -- from ranks to monomials
  pub reduced_basis : (gs : List (List Term)) → IsReducedByRank (ranks_of_problem P) (generators_of P) gs → IsReducedBasis P (map (poly_of_terms P) gs)
  reduced_basis gs a = record {
    leads = map O.mono (map lead_rank gs);
    members = members gs a.members;
    falling = falling (map lead_rank gs) within a.rising;
    minimal = λ m. (
      (λ c. let x = mem_to (map lead_rank gs) within m c in minimal_to m x.0 x.1 ((a.exactly (O.rank m)).0 x.2)),
      (λ j. let x = minimal_from m j in mem_from (map lead_rank gs) m x.0 x.1 ((a.exactly (O.rank m)).1 x.2)),
    );
  }
    where
      within : (r : ℕ) → Mem r (map lead_rank gs) → r < (numbering_of P).count
      within r c = counted r ((a.exactly r).0 c).leads.is.small
