-- The corner of the entries is the corner of their leads, and where every ticket is settled it tells whether the degree fits.
-- Multiples of leads by rank and as monomials are the same; monomials of degree d have the last ranks.
use Rattle.std.proofs.Common.{◌≡◌, ℕ, ◌<◌, ◌≤◌, ◌⊎◌, ◌↔◌, List, length, map, refl, sym, ◌∙◌, ap, subst, arith, inl, inr}
use Rattle.std.proofs.lemmas.Bool.{cases_lt}
use Rattle.std.proofs.lemmas.List.{get_or-map, length-map}
use Rattle.local_order.specs.Order.{IsAbove}
use Rattle.sparse_poly.specs.Shape.{shape_of}
use Rattle.mono_rank.specs.Rank.{HasRank, rank_of, fewer}
use Rattle.mono_rank.specs.Laws.{IsNumbering}
use Rattle.mono_rank.specs.Cover.{IsMultipleOfRanks, Covers, IsCorner}
use Rattle.mono_rank.proofs.Ranks.{rank_small}
use Rattle.mono_rank.proofs.Degrees.{top_rank, rank_top}
use Rattle.sparse_poly.specs.Ideal.{Problem, IsLeadOfIdeal, Fits}
use Rattle.entry_code.specs.Entry.{Entry, no_entry}
use Rattle.rank_algebra.specs.Division.{IsMultiple, IsCover}
use Rattle.mora_law.specs.Ring.{numbering_of, ranks_of_problem, IsAdmissible, generators_of}
use Rattle.rank_algebra.specs.Ideal.{IsLeadOfSpan}
use Rattle.mora_law.specs.Entries.{lead_rank, basis_of, AreMonic, corner}
use Rattle.mora_law.specs.Legal.{Legal}
use Rattle.mora_law.specs.Settled.{AllSettled}
use Rattle.rank_algebra.proofs.Corner.{corner_is, corner_least}
use Rattle.mora_law.proofs.Ring.{numbering_is, count_is, rank_is, has_rank, ranks_are, ranks_count}
use Rattle.mora_law.proofs.Spans.{lead_by_rank}
use Rattle.mora_law.proofs.Divisors.{multiple_by_rank, divisor_of_rank}
use Rattle.mora_law.proofs.Buchberger.{only_multiples, all_multiples}
use Rattle.mora_law.proofs.SettledByRank.{settled_by_rank}
use Rattle.mora_law.proofs.Problems.{monic}

module _ (P : Problem) (h : IsAdmissible P) (entries : List Entry) (are_monic : AreMonic P entries) where
  -- the numbering counts the monomials by the order
  W : IsNumbering P.n P.d IsAbove (numbering_of P)
  W = numbering_is P h.some

  -- the rank of a monomial by the numbering
  ranked : (m : List ℕ) (r : ℕ) → HasRank (shape_of P) m r → (numbering_of P).rank m ≡ r
  ranked m r k = rank_is P m ∙ k.rank

  -- the ranks of the leads
  abbrev ranks : List ℕ
  ranks = map (λ e. lead_rank e.terms) entries

  -- leads have ranks
  small : (k : ℕ) → k < length entries → (basis_of entries).lead k < (numbering_of P).count
  small k l = omega (arith, are_monic.small k l, ranks_count P)

  -- multiples by rank are multiples of the leads that have these ranks
  pub multiple_to : (m : List ℕ) (r : ℕ) → HasRank (shape_of P) m r → IsMultiple (ranks_of_problem P) (basis_of entries) r → IsMultipleOfRanks (shape_of P) ranks m
  multiple_to m r k x = (
    (basis_of entries).lead x.place,
    (numbering_of P).mono ((basis_of entries).lead x.place),
    (x.place, omega (arith, x.known, length-map entries (λ e. lead_rank e.terms)), get_or-map (λ e. lead_rank e.terms) entries x.place no_entry _ x.known),
    has_rank P ((basis_of entries).lead x.place) h.some (small x.place x.known),
    (divisor_of_rank P h x.cofactor ((basis_of entries).lead x.place) m k.in_ring k.low (x.is ∙ sym (ranked m r k))).1,
  )

  -- and the other way round
  pub multiple_from : (m : List ℕ) (r : ℕ) → HasRank (shape_of P) m r → IsMultipleOfRanks (shape_of P) ranks m → IsMultiple (ranks_of_problem P) (basis_of entries) r
  multiple_from m r k (l, a, (j, jl, g), b, factor) =
      let q = multiple_by_rank P h a m b.in_ring b.low k.in_ring k.low factor in
      let jn : j < length entries = omega (arith, jl, length-map entries (λ e. lead_rank e.terms)) in
      let at : (basis_of entries).lead j ≡ (numbering_of P).rank a = sym (get_or-map (λ e. lead_rank e.terms) entries j no_entry l jn) ∙ g ∙ sym (ranked a l b) in
      record { place = j; cofactor = q.0; known = jn; is = ap ((ranks_of_problem P).times q.0) at ∙ q.1 ∙ ranked m r k }

  -- the corner of the entries is the corner of their leads
  pub corner_is_of_leads : IsCorner (shape_of P) ranks (corner P entries)
  corner_is_of_leads = record {
    covers = λ m r l k. multiple_to m r k (c.covers r l (omega (arith, rank_small (shape_of P) m r k, count_is P, ranks_count P)));
    low = omega (arith, c.within, count_is P, ranks_count P);
    least = λ w cover. least w cover;
  }
    where
      c : IsCover (ranks_of_problem P) (basis_of entries) (corner P entries)
      c = corner_is (ranks_of_problem P) (ranks_are P h) (basis_of entries)

      least : (w : ℕ) → Covers (shape_of P) ranks w → corner P entries ≤ w
      least w cover = go (cases_lt (numbering_of P).count w)
        where
          go : ((numbering_of P).count < w) ⊎ (w ≤ (numbering_of P).count) → corner P entries ≤ w
          go (inl l) = omega (arith, c.within, ranks_count P, l)
          go (inr l) = corner_least (ranks_of_problem P) (ranks_are P h) (basis_of entries) w (record {
            within = omega (arith, l, ranks_count P);
            covers = λ r m n. let rn : r < (numbering_of P).count = omega (arith, n, ranks_count P) in
                multiple_from ((numbering_of P).mono r) r (has_rank P r h.some rn) (cover ((numbering_of P).mono r) r m (has_rank P r h.some rn));
          })

module _ (P : Problem) (h : IsAdmissible P) (entries : List Entry) (legal : Legal P entries) (settled : AllSettled P entries) where
  -- the corner of the leads
  corner_leads : IsCorner (shape_of P) (map (λ e. lead_rank e.terms) entries) (corner P entries)
  corner_leads = corner_is_of_leads P h entries (monic P h entries legal)

  -- a monomial is a lead of the ideal exactly where it is a multiple of a lead
  pub lead_is_multiple : (m : List ℕ) (r : ℕ) → HasRank (shape_of P) m r → IsLeadOfIdeal P m ↔ IsMultipleOfRanks (shape_of P) (map (λ e. lead_rank e.terms) entries) m
  lead_is_multiple m r k = (
    λ j. multiple_to P h entries are_monic m r k (subst (IsMultiple (ranks_of_problem P) (basis_of entries)) at (only_multiples (ranks_of_problem P) (ranks_are P h) (generators_of P) entries legal (settled_by_rank P h entries legal settled) _ ((lead_by_rank P h m k.in_ring k.low).0 j))),
    λ x. (lead_by_rank P h m k.in_ring k.low).1 (subst (IsLeadOfSpan (ranks_of_problem P) (generators_of P)) (sym at) (all_multiples (ranks_of_problem P) (ranks_are P h) (generators_of P) entries legal r small_rank (multiple_from P h entries are_monic m r k x))),
  )
    where
      are_monic : AreMonic P entries
      are_monic = monic P h entries legal

      at : (numbering_of P).rank m ≡ r
      at = rank_is P m ∙ k.rank

      small_rank : r < (ranks_of_problem P).n
      small_rank = omega (arith, rank_small (shape_of P) m r k, count_is P, ranks_count P)

  -- the degree fits exactly where the corner is at most the first rank of degree d
  pub fits_by_corner : Fits P ↔ (corner P entries ≤ fewer P.n P.d)
  fits_by_corner = (to, from)
    where
      to : Fits P → corner P entries ≤ fewer P.n P.d
      to fits = corner_leads.least (fewer P.n P.d) (λ m r l k. (lead_is_multiple m r k).0 (fits m k.in_ring (top_rank (shape_of P) m r h.some k l)))

      from : corner P entries ≤ fewer P.n P.d → Fits P
      from l m e top =
          let k : HasRank (shape_of P) m (rank_of (shape_of P) m) = record { in_ring = e; low = omega (arith, top); rank = refl } in
          (lead_is_multiple m _ k).1 (corner_leads.covers m _ (omega (arith, l, rank_top (shape_of P) m (rank_of (shape_of P) m) h.some k top)) k)
