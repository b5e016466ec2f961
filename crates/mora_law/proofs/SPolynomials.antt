-- The start of a run as a polynomial: a generator, or the S-polynomial of two entries.
-- What a lead lacks to the least common multiple is the same monomial as what it lacks to the other lead.
use Rattle.std.proofs.Common.{◌≡◌, ℕ, ◌+◌, ◌*◌, ◌-◌, ◌<◌, ◌≤◌, List, [], ◌++◌, length, get_or, sym, ◌∙◌, ap, ap₂, subst, arith}
use Rattle.std.proofs.lemmas.List.{get_or-map, ext_get_or}
use Rattle.local_order.specs.Mono.{degree, mono_quotient, mono_lcm}
use Rattle.local_order.specs.Order.{IsAbove}
use Rattle.local_order.proofs.Order.{length-mono_quotient}
use Rattle.local_order.proofs.Places.{get_or-mono_quotient, get_or-mono_lcm, length-mono_lcm}
use Rattle.mono_rank.specs.Laws.{Numbering, IsNumbering}
use Rattle.mono_rank.proofs.Quotients.{mono-cofactor, cofactor_small}
use Rattle.mono_rank.proofs.Divided.{over_left}
use Rattle.sparse_poly.specs.Poly.{Poly, IsIn, term_times}
use Rattle.sparse_poly.specs.Ideal.{Problem}
use Rattle.sparse_poly.proofs.Coef.{total-append}
use Rattle.sparse_poly.proofs.Member.{in-append, in-term_times}
use Rattle.sparse_poly.proofs.Closure.{AllIn-from_All}
use Rattle.entry_code.specs.declared.item.Item.TheVariants.{Pair}
use Rattle.entry_code.specs.Entry.{Entry, no_entry, entry_at}
use Rattle.rank_algebra.specs.Vector.{scale, shift, Agree}
use Rattle.rank_algebra.proofs.Residues.{same_of, same_trans, same_add}
use Rattle.rank_algebra.proofs.Linear.{agree_trans, agree_scale, agree_shift}
use Rattle.mora_law.specs.Ring.{numbering_of, ranks_of_problem, IsAdmissible, vector_of}
use Rattle.mora_law.specs.Entries.{basis_of, AreMonic, poly_of_terms, polys_of, AreByRank}
use Rattle.mora_law.specs.Start.{start}
use Rattle.mora_law.specs.SPolynomial.{s_polynomial_of, s_polynomial}
use Rattle.mora_law.proofs.Ring.{numbering_is, ranks_are}
use Rattle.mora_law.proofs.Ideal.{in_at}
use Rattle.mora_law.proofs.Spans.{term_by_rank}
use Rattle.mora_law.proofs.SettledByRank.{lead_at}
use Rattle.mora_law.proofs.EntryPolynomials.{entry_in_ring, entry_vector}

-- what b lacks to the least common multiple of a and b is what it lacks to a
over_right : (a b : List ℕ) → length a ≡ length b → mono_quotient (mono_lcm a b) b ≡ mono_quotient a b
over_right a b e =
    ext_get_or 0 (mono_quotient (mono_lcm a b) b) (mono_quotient a b)
    (length-mono_quotient (mono_lcm a b) b ∙ length-mono_lcm a b e ∙ sym e ∙ sym (length-mono_quotient a b))
    (λ k l. omega (arith, get_or-mono_quotient (mono_lcm a b) b k, get_or-mono_lcm a b k, get_or-mono_quotient a b k))

-- a less b, with the factor 1 in either place
less_factor : (p a b : ℕ) → 1 * a + (p - 1) * b ≡ a + (p - 1) * 1 * b
less_factor p a b = omega arith

module _ (P : Problem) (h : IsAdmissible P) where
  -- the numbering of the problem
  abbrev O : Numbering
  O = numbering_of P

  -- it numbers the monomials by the order
  W : IsNumbering P.n P.d IsAbove (numbering_of P)
  W = numbering_is P h.some

  -- a generator is in the ring
  pub generator_in_ring : (g : ℕ) → IsIn P.n (get_or P.gens g [])
  generator_in_ring g = in_at P.n P.gens g (AllIn-from_All P.n P.gens h.in_ring)

  module _ (entries : List Entry) (monic : AreMonic P entries) (by_rank : AreByRank P entries) where
    -- the polynomial of an entry
    abbrev poly : ℕ → Poly
    poly k = poly_of_terms P (entry_at entries k).terms

    -- the lead of an entry
    abbrev first : ℕ → List ℕ
    first k = O.mono ((basis_of entries).lead k)

    -- entry k times c and what its lead lacks to that of entry l
    abbrev multiple : ℕ → ℕ → ℕ → Poly
    multiple c k l = term_times c (mono_quotient (first l) (first k)) (poly k)

    -- such a multiple is in the ring, and has the vector of the multiple by rank
    multiple_is : (c k l : ℕ) → k < length entries → l < length entries → IsIn P.n (multiple c k l) ×
        Agree (ranks_of_problem P) O.count (vector_of P (multiple c k l)) (scale c (shift (ranks_of_problem P) ((ranks_of_problem P).cofactor ((basis_of entries).lead k) ((basis_of entries).lead l)) ((basis_of entries).member k)))
    unfolding ranks_of_problem
    multiple_is c k l kl ll = (
      in-term_times P.n c q (poly k) long (entry_in_ring P h entries by_rank k kl),
      agree_trans
          (subst (λ s. Agree (ranks_of_problem P) O.count (vector_of P (term_times c q (poly k))) (scale c (shift (ranks_of_problem P) s (vector_of P (poly k))))) rank
          (term_by_rank P h c q (poly k) long low (entry_in_ring P h entries by_rank k kl)))
          (agree_scale c (agree_shift (ranks_of_problem P) (ranks_are P h) O.count (vector_of P (poly k)) ((basis_of entries).member k) z (omega arith) (entry_vector P h entries by_rank k kl))),
    )
      where
        q : List ℕ
        q = mono_quotient (first l) (first k)

        z : ℕ
        z = (ranks_of_problem P).cofactor ((basis_of entries).lead k) ((basis_of entries).lead l)

        small : z < O.count
        small = cofactor_small P.n P.d IsAbove O W _ _ (monic.small k kl) (monic.small l ll)

        at : O.mono z ≡ q
        at = mono-cofactor P.n P.d IsAbove O W _ _ (monic.small k kl) (monic.small l ll)

        long : length q ≡ P.n
        long = ap length (sym at) ∙ W.in_ring z small

        low : degree q ≤ P.d
        low = subst (λ m. degree m ≤ P.d) at (W.low z small)

        rank : O.rank q ≡ z
        rank = ap O.rank (sym at) ∙ W.back z small

    module _ (i j : ℕ) (il : i < length entries) (jl : j < length entries) where
      -- the S-polynomial of two entries by what their leads lack to one another
      same : s_polynomial P entries i j ≡ multiple 1 i j ++ multiple (P.p - 1) j i
      unfolding ranks_of_problem
      same =
          ap₂ (λ a b. s_polynomial_of P.p a (get_or (polys_of P entries) i []) b (get_or (polys_of P entries) j [])) (lead_at P entries i il) (lead_at P entries j jl)
          ∙ ap₂ (λ f g. s_polynomial_of P.p (first i) f (first j) g) (poly_is i il) (poly_is j jl)
          ∙ ap₂ (λ a b. term_times 1 a (poly i) ++ term_times (P.p - 1) b (poly j)) (over_left (first i) (first j) long) (over_right (first i) (first j) long)
        where
          poly_is : (k : ℕ) → k < length entries → get_or (polys_of P entries) k [] ≡ poly k
          poly_is k l = get_or-map (λ e. poly_of_terms P e.terms) entries k no_entry [] l

          long : length (first i) ≡ length (first j)
          long = W.in_ring _ (monic.small i il) ∙ sym (W.in_ring _ (monic.small j jl))

      -- it is in the ring, and has the vector of the S-pair
      pub s_polynomial_is : IsIn P.n (s_polynomial P entries i j) × Agree (ranks_of_problem P) (numbering_of P).count (vector_of P (s_polynomial P entries i j)) (start P entries (Pair i j))
      unfolding ranks_of_problem
      s_polynomial_is =
          let f = multiple_is 1 i j il jl in
          let g = multiple_is (P.p - 1) j i jl il in
          subst (λ s. IsIn P.n s × Agree (ranks_of_problem P) (numbering_of P).count (vector_of P s) (start P entries (Pair i j))) (sym same) (
            in-append P.n _ _ f.0 g.0,
            record { at = λ r l. same_trans (same_of _ _ _ (total-append (multiple 1 i j) (multiple (P.p - 1) j i) (O.mono r))) (same_trans (same_add (f.1.at r l) (g.1.at r l)) (same_of _ _ _ (less_factor P.p _ _))) },
          )
