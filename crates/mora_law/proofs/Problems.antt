-- The laws over problems, each from its form by rank.
-- Vectors become polynomials of the ideal by the numbering of the problem.
use Rattle.std.proofs.Common.{◌≡◌, ℕ, ◌+◌, ◌<◌, ◌≤◌, ◌↔◌, List, [], ◌∷◌, length, Contains, cond, sym, ◌∙◌, ap, subst, arith, inr}
use Rattle.std.proofs.lemmas.List.{get_or_default, get_or-map, length-map}
use Rattle.local_order.specs.Mono.{degree, same, Divides}
use Rattle.local_order.specs.Order.{IsAbove}
use Rattle.local_order.proofs.Order.{same-false}
use Rattle.mono_rank.specs.Laws.{IsNumbering}
use Rattle.rank_algebra.specs.Ranks.{IsRanks}
use Rattle.sparse_poly.specs.Poly.{Poly}
use Rattle.sparse_poly.specs.Ideal.{Problem, IsInIdeal, IsLeadOfIdeal, IsReducedBasis}
use Rattle.entry_code.specs.declared.item.Item.{Item}
use Rattle.entry_code.specs.declared.reading.Reading.{Reading}
use Rattle.entry_code.specs.Entry.{Entry, no_entry, entry_at}
use Rattle.rank_algebra.specs.Vector.{nothing, Agree}
use Rattle.rank_algebra.specs.Division.{IsMultiple}
use Rattle.mora_law.specs.Ring.{numbering_of, ranks_of_problem, IsAdmissible, vector_of, generators_of}
use Rattle.rank_algebra.specs.Ideal.{InSpan}
use Rattle.mora_law.specs.Run.{AreOrderly, last_known, last_corner}
use Rattle.mora_law.specs.Entries.{lead_rank, basis_of, AreMonic, corner, leads, poly_of_terms}
use Rattle.entry_code.specs.Terms.{vector_of_terms}
use Rattle.mora_law.specs.Start.{start, run}
use Rattle.mora_law.specs.Legal.{Legal}
use Rattle.mora_law.specs.Tickets.{HasTicket, ticket_of, total}
use Rattle.mora_law.specs.Settled.{IsSettled, AllSettled}
use Rattle.mora_law.specs.UnitLaw.{UnitLaw}
use Rattle.mora_law.specs.Basis.{remainder_by, plain_basis, basis}
use Rattle.rank_algebra.proofs.Linear.{agree_of}
use Rattle.mora_law.proofs.Ring.{numbering_is, ranks_are, ranks_count}
use Rattle.mora_law.proofs.Spans.{ideal_by_rank, lead_by_rank}
use Rattle.mora_law.proofs.Divisors.{multiple_by_rank, divisor_of_rank}
use Rattle.mora_law.proofs.UnitLaw.{unit_law}
use Rattle.mora_law.proofs.Legal.{legal_monic, entries_in, past_corner_in, in_space, in_closed, in_gens}
use Rattle.mora_law.proofs.Buchberger.{in_gone, only_multiples, all_multiples}
use Rattle.mora_law.proofs.PlainReduced.{plain_reduced}
use Rattle.mora_law.proofs.Existence.{HasEntries, has_entries}
use Rattle.mora_law.proofs.Tickets.{item_below}
use Rattle.mora_law.proofs.SettledByRank.{settled_by_rank}
use Rattle.mora_law.proofs.Polynomials.{terms_have_vector}
use Rattle.mora_law.proofs.ReducedBasis.{reduced_basis}

-- the unit law, of the run of an item
pub unit_law_of_run : (P : Problem) (entries : List Entry) (item : Item) (reads : List Reading) → IsAdmissible P → AreMonic P entries →
    AreOrderly (length entries) 0 (numbering_of P).count reads →
    UnitLaw (ranks_of_problem P) (basis_of entries).member (last_known 0 reads) (start P entries item) (last_corner (numbering_of P).count reads) (run P entries item reads).poly
unit_law_of_run P entries item reads h M o =
    subst (λ n. UnitLaw (ranks_of_problem P) (basis_of entries).member (last_known 0 reads) (start P entries item) (last_corner n reads) (run P entries item reads).poly) (ranks_count P)
    (unit_law (ranks_of_problem P) (ranks_are P h) (basis_of entries) M (start P entries item) reads
    (subst (λ n. AreOrderly (length entries) 0 n reads) (sym (ranks_count P)) o))

module _ (P : Problem) (h : IsAdmissible P) (entries : List Entry) (legal : Legal P entries) where
  -- the laws of ranks
  L : IsRanks (ranks_of_problem P)
  L = ranks_are P h

  -- it numbers the monomials by the order
  W : IsNumbering P.n P.d IsAbove (numbering_of P)
  W = numbering_is P h.some

  -- legal entries are monic
  pub monic : AreMonic P entries
  monic = legal_monic (ranks_of_problem P) (ranks_are P h) (generators_of P) entries legal

  -- and their polynomials are in the ideal
  member_at : (k : ℕ) → k < length entries → IsInIdeal P (poly_of_terms P (entry_at entries k).terms)
  member_at k l = (ideal_by_rank P h (poly_of_terms P (entry_at entries k).terms)).1
      ((in_space (ranks_of_problem P) L (generators_of P) entries legal).alike _ _ same inside)
    where
      same : Agree (ranks_of_problem P) (ranks_of_problem P).n (vector_of P (poly_of_terms P (entry_at entries k).terms)) (vector_of_terms (entry_at entries k).terms)
      same = subst (λ ts. Agree (ranks_of_problem P) (ranks_of_problem P).n (vector_of P (poly_of_terms P ts)) (vector_of_terms ts)) (sym (legal k l).terms) (terms_have_vector P h _)

      inside : InSpan (ranks_of_problem P) (generators_of P) ((basis_of entries).member k)
      inside = entries_in (ranks_of_problem P) L (generators_of P) entries legal (InSpan (ranks_of_problem P) (generators_of P))
          (in_space (ranks_of_problem P) L (generators_of P) entries legal) (in_closed (ranks_of_problem P) L (generators_of P) entries legal)
          (in_gens (ranks_of_problem P) L (generators_of P) entries legal) k l

  -- the polynomial of each entry is in the ideal
  pub member_is : (e : Entry) → Contains entries e → IsInIdeal P (poly_of_terms P e.terms)
  member_is e (k, l, g) = subst (λ x. IsInIdeal P (poly_of_terms P x.terms)) (get_or_default entries k no_entry e l ∙ g) (member_at k l)

  -- a monomial of a rank from the corner on is in the ideal
  pub past_corner : (m : List ℕ) → length m ≡ P.n → degree m ≤ P.d → corner P entries ≤ (numbering_of P).rank m → IsInIdeal P (record { mono = m; coef = 1 } ∷ [])
  past_corner m e low c = (ideal_by_rank P h (record { mono = m; coef = 1 } ∷ [])).1
      (past_corner_in (ranks_of_problem P) L (generators_of P) entries legal (InSpan (ranks_of_problem P) (generators_of P))
      (in_space (ranks_of_problem P) L (generators_of P) entries legal) (in_closed (ranks_of_problem P) L (generators_of P) entries legal)
      (in_gens (ranks_of_problem P) L (generators_of P) entries legal) (vector_of P (record { mono = m; coef = 1 } ∷ []))
      (agree_of (ranks_of_problem P) (corner P entries) _ _ (λ r l. none r l)))
    where
      none : (r : ℕ) → r < corner P entries → cond (same m ((numbering_of P).mono r)) 1 0 + 0 ≡ 0
      none r l =
          let rn : r < (numbering_of P).count = omega (arith, l, c, W.small m e low) in
          ap (λ b. cond b 1 0 + 0) (same-false m ((numbering_of P).mono r) (λ z. omega (arith, l, c, ap (numbering_of P).rank z, W.back r rn)))

  -- ---- multiples of leads
  -- a multiple of a lead by rank is divided by the lead
  divided : (m : List ℕ) → length m ≡ P.n → degree m ≤ P.d → IsMultiple (ranks_of_problem P) (basis_of entries) ((numbering_of P).rank m) →
      (l : List ℕ) × Contains (leads P entries) l × Divides l m
  divided m e low x = (
    (numbering_of P).mono ((basis_of entries).lead x.place),
    (x.place, omega (arith, x.known, length-map entries (λ y. (numbering_of P).mono (lead_rank y.terms))), get_or-map (λ y. (numbering_of P).mono (lead_rank y.terms)) entries x.place no_entry _ x.known),
    (divisor_of_rank P h x.cofactor ((basis_of entries).lead x.place) m e low x.is).1,
  )

  -- and what a lead divides is a multiple of it
  multiple : (m : List ℕ) → length m ≡ P.n → degree m ≤ P.d → (l : List ℕ) × Contains (leads P entries) l × Divides l m →
      IsMultiple (ranks_of_problem P) (basis_of entries) ((numbering_of P).rank m)
  multiple m e low (l, (k, kl, g), factor) =
      record { place = k; cofactor = q.0; known = kn; is = ap ((ranks_of_problem P).times q.0) (sym (W.back r rn)) ∙ q.1 }
    where
      kn : k < length entries
      kn = omega (arith, kl, length-map entries (λ y. (numbering_of P).mono (lead_rank y.terms)))

      r : ℕ
      r = (basis_of entries).lead k

      rn : (basis_of entries).lead k < (numbering_of P).count
      rn = omega (arith, monic.small k kn, ranks_count P)

      at : (numbering_of P).mono ((basis_of entries).lead k) ≡ l
      at = sym (get_or-map (λ y. (numbering_of P).mono (lead_rank y.terms)) entries k no_entry l kn) ∙ g

      q : (q : ℕ) × ((ranks_of_problem P).times q ((numbering_of P).rank ((numbering_of P).mono ((basis_of entries).lead k))) ≡ (numbering_of P).rank m)
      q = multiple_by_rank P h ((numbering_of P).mono ((basis_of entries).lead k)) m (W.in_ring r rn) (W.low r rn) e low (subst (λ x. Divides x m) (sym at) factor)

  -- ---- where every ticket is settled
  module _ (settled : AllSettled P entries) where
    -- Buchberger's criterion
    pub criterion : (m : List ℕ) → length m ≡ P.n → degree m ≤ P.d → IsLeadOfIdeal P m ↔ ((l : List ℕ) × Contains (leads P entries) l × Divides l m)
    criterion m e low = (
      λ j. divided m e low (only_multiples (ranks_of_problem P) L (generators_of P) entries legal (settled_by_rank P h entries legal settled) _ ((lead_by_rank P h m e low).0 j)),
      λ x. (lead_by_rank P h m e low).1 (all_multiples (ranks_of_problem P) L (generators_of P) entries legal _ (omega (arith, W.small m e low, ranks_count P)) (multiple m e low x)),
    )

    -- plain division leaves nothing of the ideal
    pub nothing_left : (g : Poly) → IsInIdeal P g → Agree (ranks_of_problem P) (numbering_of P).count (remainder_by P entries (vector_of P g)) nothing
    nothing_left g j =
        subst (λ n. Agree (ranks_of_problem P) n (remainder_by P entries (vector_of P g)) nothing) (ranks_count P)
        (in_gone (ranks_of_problem P) L (generators_of P) entries legal (settled_by_rank P h entries legal settled) (vector_of P g) ((ideal_by_rank P h g).0 j)).gone

    -- and the basis that it makes is the reduced standard basis
    pub basis_is_reduced : IsReducedBasis P (basis P entries)
    basis_is_reduced = reduced_basis P h (plain_basis (ranks_of_problem P) (basis_of entries))
        (plain_reduced (ranks_of_problem P) L (generators_of P) entries legal (settled_by_rank P h entries legal settled))

-- for every problem some list of entries is legal and settles every ticket
pub some_entries : (P : Problem) → IsAdmissible P → (entries : List Entry) × Legal P entries
    × ((item : Item) → HasTicket (length P.gens) item → ticket_of (length P.gens) item < total (length P.gens) (length entries) → IsSettled P entries item)
some_entries P h = (
  x.entries,
  x.legal,
  λ item t l. inr (inr (x.settled item (item_below (length P.gens) (length x.entries) item t l))),
)
  where
    x : HasEntries (ranks_of_problem P) (ranks_are P h) (generators_of P)
    x = has_entries (ranks_of_problem P) (ranks_are P h) (generators_of P)
