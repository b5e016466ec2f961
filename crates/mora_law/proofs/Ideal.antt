-- The ideal modulo degree d + 1 by rank. One way a space holds the combinations of the generators; the other way
-- the vectors of members are a space that holds the multiples of the generators by monomials.
use Rattle.std.proofs.Common.{◌≡◌, ℕ, ◌*◌, ◌%◌, ◌<◌, ◌≤◌, ◌≢◌, ◌⊎◌, List, [], ◌∷◌, ◌++◌, length, get_or, Contains, zero, suc, sym, ◌∙◌, ap, subst, arith, inl, inr}
use Rattle.std.proofs.lemmas.Bool.{cases_lt}
use Rattle.std.proofs.lemmas.List.{get_or_default}
use Rattle.std.proofs.Math.Nat
use Rattle.local_order.specs.Mono.{degree}
use Rattle.local_order.specs.Order.{IsAbove}
use Rattle.local_order.proofs.Order.{degree_of_above}
use Rattle.mono_rank.specs.Laws.{Numbering, IsNumbering, ranks_of}
use Rattle.rank_algebra.specs.Ranks.{Ranks, IsRanks}
use Rattle.mono_rank.proofs.Numbers.{ds_is_degree_order}
use Rattle.mono_rank.proofs.Products.{above_of_less}
use Rattle.sparse_poly.specs.Poly.{Poly, total, coef, IsIn, cut, term_times, combination}
use Rattle.sparse_poly.specs.Ideal.{Problem, IsInIdeal, IsLeadOfIdeal}
use Rattle.sparse_poly.specs.Span.{scale as scale_poly}
use Rattle.sparse_poly.proofs.Coef.{total-append, total-cut_in}
use Rattle.sparse_poly.proofs.Span.{total-scale}
use Rattle.sparse_poly.proofs.Scaling.{in-scale}
use Rattle.sparse_poly.proofs.Member.{agree, AllIn, in-append, in-term_times, IsInIdeal-zero, IsInIdeal-add, IsInIdeal-term_times, IsInIdeal-agree}
use Rattle.sparse_poly.proofs.Closure.{IsInIdeal-generator, IsInIdeal-scale}
use Rattle.rank_algebra.specs.Vector.{Vector, nothing, shift, Agree}
use Rattle.rank_algebra.specs.Combination.{Part, IsSpace}
use Rattle.rank_algebra.specs.Ideal.{InSpan, IsLeadOfSpan, Generators}
use Rattle.rank_algebra.proofs.Residues.{same_of, same_sym, same_trans, same_add, same_times}
use Rattle.rank_algebra.proofs.Linear.{agree_refl, agree_of, agree_trans, shift_unit, span_space, span_shift, span_part, span_in}
use Rattle.rank_algebra.proofs.Units.{shift_beyond}
use Rattle.mora_law.proofs.Multiples.{row, combination_in, shift_is}

-- a member of a list of polynomials in n variables is in n variables
pub in_at : (n : ℕ) (fs : List Poly) (k : ℕ) → AllIn n fs → IsIn n (get_or fs k [])
in_at n [] k h = tt
in_at n (f ∷ fs) zero h = h.0
in_at n (f ∷ fs) (suc k) h = in_at n fs k h.1

module _ (P : Problem) (inv : ℕ → ℕ) (O : Numbering) (W : IsNumbering P.n P.d IsAbove O) (L : IsRanks (ranks_of P.p inv P.d O)) (gens : AllIn P.n P.gens) where
  -- computing by rank
  abbrev R : Ranks
  R = ranks_of P.p inv P.d O

  -- the generators by rank
  abbrev G : Generators
  G = record { count = length P.gens; member = λ k. row O (get_or P.gens k []) }

  -- ---- from polynomials to vectors
  span_is_space : IsSpace R (InSpan R G)
  span_is_space = span_space R L G.member (λ t. t.place < G.count) (λ c t k. k)

  -- multiples of combinations of the generators by monomials are combinations
  span_closed : (a : ℕ) (v : Vector) → InSpan R G v → InSpan R G (shift R a v)
  span_closed a v h = span_shift R L G.member (λ t. t.place < G.count) (λ t. t.place < G.count) a (λ t k. k) v h

  -- each generator is one
  generator_in : (k : ℕ) → k < length P.gens → InSpan R G (row O (get_or P.gens k []))
  generator_in k l = span_is_space.alike _ _ (agree_of R R.n _ _ (λ r m. sym (one (row O (get_or P.gens k [])) r m)))
      (span_part R L G.member (λ t. t.place < G.count) (record { coef = 1; mono = 0; place = k }) l)
    where
      one : (v : Vector) (r : ℕ) → r < R.n → 1 * shift R 0 v r ≡ v r
      one v r m = omega (arith, shift_unit R L v r m)

  -- polynomials that agree up to degree d agree by rank
  pub agree_by_rank : (f g : Poly) → ((m : List ℕ) → length m ≡ P.n → degree m ≤ P.d → coef P.p f m ≡ coef P.p g m) → Agree R R.n (row O f) (row O g)
  agree_by_rank f g h = record { at = λ r l. record { eq = h (O.mono r) (W.in_ring r l) (W.low r l) } }

  -- and the other way round
  pub agree_by_monomial : (f g : Poly) → Agree R R.n (row O f) (row O g) → (m : List ℕ) → length m ≡ P.n → degree m ≤ P.d → coef P.p f m ≡ coef P.p g m
  agree_by_monomial f g h m e l = subst (λ x. coef P.p f x ≡ coef P.p g x) (W.there m e l) (h.at (O.rank m) (W.small m e l)).eq

  -- the vector of a member of the ideal is a combination of the generators
  pub member_to : (f : Poly) → IsInIdeal P f → InSpan R G (row O f)
  member_to f h = span_is_space.alike _ _ (agree_by_rank f (combination h.cofactor P.gens) (agree P f (combination h.cofactor P.gens) h.equation))
      (combination_in P.p P.n P.d inv O W (InSpan R G) span_is_space span_closed h.cofactor P.gens h.in_ring gens generator_in)

  -- ---- from vectors to polynomials
  -- a member of the ideal has the vector
  pub record HasMember (v : Vector) : Type 0 where
    pub poly : Poly
    pub in_ring : IsIn P.n poly
    pub is_in : IsInIdeal P poly
    pub same : Agree R R.n v (row O poly)

  -- the vectors of members are a space
  members_space : IsSpace R HasMember
  members_space = record {
    alike = λ v u a h. record { poly = h.poly; in_ring = h.in_ring; is_in = h.is_in; same = agree_trans a h.same };
    empty = record { poly = []; in_ring = tt; is_in = IsInIdeal-zero P; same = agree_refl R R.n nothing };
    plus = λ v u h k. record {
      poly = h.poly ++ k.poly;
      in_ring = in-append P.n h.poly k.poly h.in_ring k.in_ring;
      is_in = IsInIdeal-add P h.poly k.poly h.is_in k.is_in;
      same = record { at = λ r l. same_trans (same_add (h.same.at r l) (k.same.at r l)) (same_of _ _ _ (sym (total-append h.poly k.poly (O.mono r)))) };
    };
    multiple = λ c v h. record {
      poly = scale_poly c h.poly;
      in_ring = in-scale P.n c h.poly h.in_ring;
      is_in = IsInIdeal-scale P c h.poly h.is_in;
      same = record { at = λ r l. same_trans (same_times c (h.same.at r l)) (same_of _ _ _ (sym (total-scale c h.poly (O.mono r)))) };
    };
  }

  -- it has the multiples of the generators
  multiple_of_generator : (t : Part) → t.place < length P.gens → HasMember (shift R t.mono (G.member t.place))
  multiple_of_generator t l = go (cases_lt t.mono O.count)
    where
      f : Poly
      f = get_or P.gens t.place []

      i : IsIn P.n f
      i = in_at P.n P.gens t.place gens

      there : Contains P.gens f
      there = (t.place, l, get_or_default P.gens t.place f [] l)

      go : (t.mono < O.count) ⊎ (O.count ≤ t.mono) → HasMember (shift R t.mono (row O f))
      go (inl m) = record {
        poly = term_times 1 (O.mono t.mono) f;
        in_ring = in-term_times P.n 1 (O.mono t.mono) f (W.in_ring t.mono m) i;
        is_in = IsInIdeal-term_times P 1 (O.mono t.mono) f gens (W.in_ring t.mono m) i (IsInIdeal-generator P f gens there);
        same = shift_is P.p P.n P.d inv O W t.mono f m i;
      }
      go (inr m) = members_space.alike _ _ (shift_beyond R L t.mono (row O f) m) members_space.empty

  -- each combination of the generators is the vector of a member
  pub has_member : (v : Vector) → InSpan R G v → HasMember v
  has_member v h = span_in R L G.member HasMember members_space (λ t. t.place < G.count) (λ t l. multiple_of_generator t l) v h

  -- a polynomial whose vector is a combination of the generators is in the ideal
  pub member_from : (f : Poly) → InSpan R G (row O f) → IsInIdeal P f
  member_from f h = let m = has_member (row O f) h in IsInIdeal-agree P m.poly f (agree_by_monomial f m.poly m.same) m.is_in

  -- ---- leads
  module _ (m : List ℕ) (e : length m ≡ P.n) (low : degree m ≤ P.d) where
    -- a lead of the ideal is the lead of a combination
    pub lead_to : IsLeadOfIdeal P m → IsLeadOfSpan R G (O.rank m)
    lead_to h = record {
      poly = row O h.member;
      inside = member_to h.member h.is_in;
      is = record {
        small = W.small m e low;
        low = record { at = λ r l. record { eq = zero_at r l } };
        some = λ z. h.lead.there (ap (λ x. x % P.p) (total-cut_in P.d h.member m low) ∙ ap (λ x. total h.member x % P.p) (sym (W.there m e low)) ∙ z.eq ∙ Nat.zero-mod P.p);
      };
    }
      where
        zero_at : (r : ℕ) → r < O.rank m → total h.member (O.mono r) % P.p ≡ 0 % P.p
        zero_at r l =
            let rn : r < O.count = omega (arith, l, W.small m e low) in
            let up : IsAbove (O.mono r) m = subst (IsAbove (O.mono r)) (W.there m e low) (above_of_less P.n P.d IsAbove O (ds_is_degree_order P.n) W r (O.rank m) l (W.small m e low)) in
            ap (λ x. x % P.p) (sym (total-cut_in P.d h.member (O.mono r) (W.low r rn))) ∙ h.lead.greatest (O.mono r) (W.in_ring r rn) up ∙ sym (Nat.zero-mod P.p)

    -- and the lead of a combination is a lead of the ideal
    pub lead_from : IsLeadOfSpan R G (O.rank m) → IsLeadOfIdeal P m
    lead_from h = record {
      low = low;
      member = g.poly;
      in_ring = g.in_ring;
      is_in = g.is_in;
      lead = record { in_ring = e; there = there; greatest = greatest };
    }
      where
        g : HasMember h.poly
        g = has_member h.poly h.inside

        there : coef P.p (cut P.d g.poly) m ≢ 0
        there z = h.is.some (same_trans (g.same.at (O.rank m) (W.small m e low)) (record {
          eq =
              ap (λ x. total g.poly x % P.p) (W.there m e low) ∙ ap (λ x. x % P.p) (sym (total-cut_in P.d g.poly m low)) ∙ z ∙ sym (Nat.zero-mod P.p);
        }))

        greatest : (k : List ℕ) → length k ≡ P.n → IsAbove k m → coef P.p (cut P.d g.poly) k ≡ 0
        greatest k f up =
            let kl : degree k ≤ P.d = omega (arith, degree_of_above k m up, low) in
            let l : O.rank k < O.rank m = W.falls k m f kl e low up in
            ap (λ x. x % P.p) (total-cut_in P.d g.poly k kl) ∙ ap (λ x. total g.poly x % P.p) (sym (W.there k f kl))
            ∙ (same_trans (same_sym (g.same.at (O.rank k) (omega (arith, l, W.small m e low)))) (h.is.low.at (O.rank k) l)).eq ∙ Nat.zero-mod P.p
