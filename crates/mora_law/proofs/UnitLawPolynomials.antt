-- The unit law in the words of polynomials: the terms by rank of u and of the cofactors become polynomials, without those of no rank.
-- Modulo degree d + 1 a product with such a polynomial has the vector of the product by rank.
use Rattle.std.proofs.Common.{◌≡◌, ℕ, suc, ◌+◌, ◌%◌, ◌<◌, ◌≤◌, ◌⊎◌, List, [], ◌∷◌, ◌++◌, length, take, get_or, Bool, true, false, Some, cond, eqb, ltb, refl, sym, ◌∙◌, ap, ap₂, subst, arith, inl, inr}
use Rattle.std.proofs.Math.Nat
use Rattle.std.proofs.lemmas.Bool.{cases_lt, cases_eq, eq-eqb, ne_eqb, ltb-true, ltb-false}
use Rattle.std.proofs.lemmas.List.{get_or-map, get_or-take, length-map, length-take-le}
use Rattle.local_order.specs.Mono.{degree, mono_one, same}
use Rattle.local_order.specs.Order.{IsAbove}
use Rattle.local_order.proofs.Order.{same-false, same_self, degree_of_above}
use Rattle.mono_rank.specs.Laws.{Numbering, IsNumbering}
use Rattle.mono_rank.proofs.Numbers.{ds_is_degree_order}
use Rattle.mono_rank.proofs.Products.{some_monomials}
use Rattle.sparse_poly.specs.Poly.{Poly, total, coef, IsIn, cut, term_times, times, combination}
use Rattle.sparse_poly.specs.Ideal.{Problem, IsLead}
use Rattle.sparse_poly.proofs.Coef.{total-append, total-cut_in, total-cut_out}
use Rattle.sparse_poly.proofs.Member.{AllIn}
use Rattle.sparse_poly.proofs.Closure.{AllIn-from_All}
use Rattle.entry_code.specs.declared.item.Item.{Item}
use Rattle.entry_code.specs.declared.reading.Reading.{Reading}
use Rattle.entry_code.specs.declared.term.Term.{Term}
use Rattle.entry_code.specs.Entry.{Entry, no_entry, entry_at}
use Rattle.rank_algebra.specs.Ranks.{IsRanks}
use Rattle.rank_algebra.specs.Vector.{Same, Vector, nothing, add, scale, shift, Agree}
use Rattle.rank_algebra.proofs.Residues.{same_refl, same_of, same_sym, same_trans, same_add, same_times}
use Rattle.rank_algebra.proofs.Linear.{agree_refl, agree_of, agree_sym, agree_trans, agree_add, agree_scale, agree_shift}
use Rattle.rank_algebra.proofs.Units.{shift_beyond}
use Rattle.mora_law.specs.Ring.{numbering_of, ranks_of_problem, IsAdmissible, vector_of}
use Rattle.mora_law.specs.Lead.{lead}
use Rattle.mora_law.specs.Run.{AreOrderly, last_known, last_corner}
use Rattle.mora_law.specs.Entries.{basis_of, AreMonic, poly_term, poly_of_terms, polys_of, AreByRank}
use Rattle.mora_law.specs.Start.{start, run}
use Rattle.mora_law.specs.UnitLaw.{constant_term, times_terms, sum_of, UnitLaw, UnitLawOfPolynomials}
use Rattle.mora_law.proofs.Ring.{numbering_is, ranks_are, ranks_count, rank_of_one, mono_of_zero}
use Rattle.mora_law.proofs.Choice.{lead_is}
use Rattle.mora_law.proofs.Orderly.{last_known_le}
use Rattle.mora_law.proofs.Divisors.{above_by_rank}
use Rattle.mora_law.proofs.Spans.{same_by_rank, term_by_rank}
use Rattle.mora_law.proofs.Problems.{unit_law_of_run}
use Rattle.mora_law.proofs.EntryPolynomials.{entry_in_ring, entry_vector}

-- the polynomial of the terms whose ranks are those of monomials
abbrev poly_within : Problem → List Term → Poly
poly_within P [] = []
poly_within P (t ∷ ts) = cond (ltb t.rank (numbering_of P).count) (poly_term P t ∷ poly_within P ts) (poly_within P ts)

module _ (P : Problem) (h : IsAdmissible P) where
  -- the numbering of the problem
  abbrev O : Numbering
  O = numbering_of P

  -- it numbers the monomials by the order
  W : IsNumbering P.n P.d IsAbove (numbering_of P)
  W = numbering_is P h.some

  -- the laws of ranks
  L : IsRanks (ranks_of_problem P)
  L = ranks_are P h

  -- ---- the polynomial of a list of terms
  -- the polynomial of a list of terms is in the ring
  within_in_ring : (ts : List Term) → IsIn P.n (poly_within P ts)
  within_in_ring [] = tt
  within_in_ring (t ∷ ts) = go (ltb t.rank O.count) refl (within_in_ring ts)
    where
      go : (b : Bool) → ltb t.rank O.count ≡ b → IsIn P.n (poly_within P ts) → IsIn P.n (cond b (poly_term P t ∷ poly_within P ts) (poly_within P ts))
      go true e up = (W.in_ring t.rank (ltb-true t.rank O.count e), up)
      go false e up = up

  -- the monomial of a rank is 1 exactly at rank 0
  is_one : (r : ℕ) → r < O.count → same (O.mono r) (mono_one P.n) ≡ eqb r 0
  is_one r l = go (cases_eq r 0)
    where
      go : (r ≡ 0) ⊎ (r ≡ 0 → ⊥) → same (O.mono r) (mono_one P.n) ≡ eqb r 0
      go (inl e) = ap (λ m. same m (mono_one P.n)) (ap O.mono e ∙ mono_of_zero P h.some) ∙ same_self (mono_one P.n) ∙ sym (eq-eqb r 0 e)
      go (inr n) = same-false (O.mono r) (mono_one P.n) (λ e. n (sym (W.back r l) ∙ ap O.rank e ∙ rank_of_one P h.some)) ∙ sym (ne_eqb r 0 n)

  -- the polynomial has the constant term of the list
  within_constant : (ts : List Term) → total (poly_within P ts) (mono_one P.n) ≡ constant_term ts
  within_constant [] = refl
  within_constant (t ∷ ts) = go (ltb t.rank O.count) refl (within_constant ts)
    where
      go : (b : Bool) → ltb t.rank O.count ≡ b → total (poly_within P ts) (mono_one P.n) ≡ constant_term ts →
          total (cond b (poly_term P t ∷ poly_within P ts) (poly_within P ts)) (mono_one P.n) ≡ cond (eqb t.rank 0) t.coef 0 + constant_term ts
      go true e up = ap₂ ◌+◌ (ap (λ b. cond b t.coef 0) (is_one t.rank (ltb-true t.rank O.count e))) up
      go false e up =
          let none : constant_term ts ≡ 0 + constant_term ts = omega arith in
          let some : 0 < O.count = some_monomials P.n P.d IsAbove O (ds_is_degree_order P.n) W in
          up ∙ none ∙ sym (ap (λ b. cond b t.coef 0 + constant_term ts) (ne_eqb t.rank 0 (λ z. omega (arith, z, some, ltb-false t.rank O.count e))))

  -- a product with the polynomial has the vector of the product by rank
  within_times : (f : Poly) (v : Vector) → IsIn P.n f → Agree (ranks_of_problem P) O.count (vector_of P f) v → (ts : List Term) →
      Agree (ranks_of_problem P) O.count (vector_of P (times (poly_within P ts) f)) (times_terms (ranks_of_problem P) ts v)
  within_times f v i a [] = agree_refl (ranks_of_problem P) O.count nothing
  within_times f v i a (t ∷ ts) = go (ltb t.rank O.count) refl (within_times f v i a ts)
    where
      front : t.rank < O.count → Agree (ranks_of_problem P) O.count (vector_of P (term_times t.coef (O.mono t.rank) f)) (scale t.coef (shift (ranks_of_problem P) t.rank v))
      front l = agree_trans
          (subst (λ s. Agree (ranks_of_problem P) O.count (vector_of P (term_times t.coef (O.mono t.rank) f)) (scale t.coef (shift (ranks_of_problem P) s (vector_of P f)))) (W.back t.rank l)
          (term_by_rank P h t.coef (O.mono t.rank) f (W.in_ring t.rank l) (W.low t.rank l) i))
          (agree_scale t.coef (agree_shift (ranks_of_problem P) L O.count (vector_of P f) v t.rank (omega (arith, ranks_count P)) a))

      go : (b : Bool) → ltb t.rank O.count ≡ b → Agree (ranks_of_problem P) O.count (vector_of P (times (poly_within P ts) f)) (times_terms (ranks_of_problem P) ts v) →
          Agree (ranks_of_problem P) O.count (vector_of P (times (cond b (poly_term P t ∷ poly_within P ts) (poly_within P ts)) f)) (add (scale t.coef (shift (ranks_of_problem P) t.rank v)) (times_terms (ranks_of_problem P) ts v))
      go true e up = agree_trans (agree_of _ _ _ _ (λ r l. total-append (term_times t.coef (O.mono t.rank) f) (times (poly_within P ts) f) (O.mono r)))
          (agree_add (front (ltb-true t.rank O.count e)) up)
      go false e up = record {
        at = λ r l. same_trans (up.at r l) (same_sym (same_trans
            (same_add (same_times t.coef ((shift_beyond (ranks_of_problem P) L t.rank v (omega (arith, ranks_count P, ltb-false t.rank O.count e))).at r (omega (arith, ranks_count P, l)))) (same_refl _ _))
            (same_of _ _ _ (omega arith))));
      }

  -- a combination with such polynomials as cofactors has the vector of the sum by rank
  within_sum : (vectors : ℕ → Vector) (a : ℕ → List Term) (q : ℕ → Poly) (fs : List Poly) (first : ℕ) → ((k : ℕ) → q k ≡ poly_within P (a (first + k))) → AllIn P.n fs →
      ((k : ℕ) → k < length fs → Agree (ranks_of_problem P) O.count (vector_of P (get_or fs k [])) (vectors (first + k))) →
      Agree (ranks_of_problem P) O.count (vector_of P (combination q fs)) (sum_of (ranks_of_problem P) vectors a (length fs) first)
  within_sum vectors a q [] first e i v = agree_refl (ranks_of_problem P) O.count nothing
  within_sum vectors a q (f ∷ fs) first e i v = agree_trans
      (agree_of _ _ _ _ (λ r l. total-append (times (q 0) f) (combination (λ k. q (suc k)) fs) (O.mono r)))
      (agree_add head (within_sum vectors a (λ k. q (suc k)) fs (suc first) (λ k. e (suc k) ∙ ap (λ x. poly_within P (a x)) (next k)) i.1
      (λ k l. subst (λ x. Agree (ranks_of_problem P) O.count (vector_of P (get_or fs k [])) (vectors x)) (next k) (v (suc k) (omega arith)))))
    where
      next : (k : ℕ) → first + suc k ≡ suc first + k
      next k = omega arith

      here : first + 0 ≡ first
      here = omega arith

      head : Agree (ranks_of_problem P) O.count (vector_of P (times (q 0) f)) (times_terms (ranks_of_problem P) (a first) (vectors first))
      head = subst (λ u. Agree (ranks_of_problem P) O.count (vector_of P (times u f)) (times_terms (ranks_of_problem P) (a first) (vectors first)))
          (sym (e 0 ∙ ap (λ x. poly_within P (a x)) here))
          (within_times f (vectors first) i.0 (subst (λ x. Agree (ranks_of_problem P) O.count (vector_of P f) (vectors x)) here (v 0 (omega arith))) (a first))

  -- ---- coefficients
  -- vectors that agree at the rank of a monomial tell the same coefficient
  coef_by_rank : (f g : Poly) (m : List ℕ) → length m ≡ P.n → degree m ≤ P.d → Same (ranks_of_problem P).p (vector_of P f (O.rank m)) (vector_of P g (O.rank m)) → coef P.p f m ≡ coef P.p g m
  unfolding ranks_of_problem
  coef_by_rank f g m e low s = subst (λ x. coef P.p f x ≡ coef P.p g x) (W.there m e low) s.eq

  -- where the vector is 0 at the rank of a monomial, the coefficient is
  coef_nothing : (f : Poly) (m : List ℕ) → length m ≡ P.n → degree m ≤ P.d → Same (ranks_of_problem P).p (vector_of P f (O.rank m)) 0 → coef P.p f m ≡ 0
  coef_nothing f m e low s = coef_by_rank f [] m e low s ∙ Nat.zero-mod P.p

  -- a polynomial without terms up to degree d has the vector 0
  vector_nothing : (f : Poly) → ((m : List ℕ) → length m ≡ P.n → degree m ≤ P.d → coef P.p f m ≡ 0) → Agree (ranks_of_problem P) O.count (vector_of P f) nothing
  vector_nothing f z = (same_by_rank P h f []).1 (λ m e low. z m e low ∙ sym (Nat.zero-mod P.p))

  module _ (f : Poly) (l : List ℕ) (is : IsLead P (cut P.d f) l) where
    -- a lead has degree at most d
    lead_low : degree l ≤ P.d
    lead_low = go (cases_lt P.d (degree l))
      where
        go : (P.d < degree l) ⊎ (degree l ≤ P.d) → degree l ≤ P.d
        go (inl high) = absurd (is.there (ap (λ x. x % P.p) (total-cut_out P.d f l high) ∙ Nat.zero-mod P.p))
        go (inr low) = low

    -- and its rank is that of the vector's lead
    lead_of_vector : (v : Vector) → Agree (ranks_of_problem P) O.count (vector_of P f) v → lead (ranks_of_problem P) v ≡ Some (O.rank l)
    unfolding ranks_of_problem
    lead_of_vector v a = lead_is (ranks_of_problem P) v (O.rank l) (record {
      small = small;
      low = record { at = λ r k. same_trans (same_sym (a.at r (omega (arith, k, small)))) (record { eq = above r k ∙ sym (Nat.zero-mod P.p) }) };
      some = λ z. is.there (ap (λ x. x % P.p) (total-cut_in P.d f l lead_low) ∙ coef_nothing f l is.in_ring lead_low (same_trans (a.at (O.rank l) small) z));
    })
      where
        small : O.rank l < O.count
        small = W.small l is.in_ring lead_low

        above : (r : ℕ) → r < O.rank l → coef P.p f (O.mono r) ≡ 0
        above r k =
            let rn : r < O.count = omega (arith, k, small) in
            ap (λ x. x % P.p) (sym (total-cut_in P.d f (O.mono r) (W.low r rn)))
            ∙ is.greatest (O.mono r) (W.in_ring r rn) (subst (IsAbove (O.mono r)) (W.there l is.in_ring lead_low) (above_by_rank P h r (O.rank l) k small))

  -- ---- the entries that are known
  module _ (entries : List Entry) (by_rank : AreByRank P entries) (known : ℕ) (kn : known ≤ length entries) where
    -- the list has as many polynomials as entries are known
    known_length : length (polys_of P (take known entries)) ≡ known
    known_length = length-map (take known entries) (λ e. poly_of_terms P e.terms) ∙ length-take-le known entries kn

    -- each is the polynomial of an entry
    known_at : (k : ℕ) (g : Poly) → k < known → get_or (polys_of P (take known entries)) k g ≡ poly_of_terms P (entry_at entries k).terms
    known_at k g l =
        get_or-map (λ e. poly_of_terms P e.terms) (take known entries) k no_entry g (omega (arith, l, length-take-le known entries kn))
        ∙ ap (λ e. poly_of_terms P e.terms) (get_or-take known entries k no_entry l)

    -- so it is in the ring
    known_in_ring : (k : ℕ) (g : Poly) → k < length (polys_of P (take known entries)) → IsIn P.n (get_or (polys_of P (take known entries)) k g)
    known_in_ring k g l =
        let m : k < known = omega (arith, l, known_length) in
        subst (IsIn P.n) (sym (known_at k g m)) (entry_in_ring P h entries by_rank k (omega (arith, m, kn)))

    -- and has the vector of the entry
    known_vector : (k : ℕ) → k < known → Agree (ranks_of_problem P) O.count (vector_of P (get_or (polys_of P (take known entries)) k [])) ((basis_of entries).member k)
    known_vector k l =
        subst (λ f. Agree (ranks_of_problem P) O.count (vector_of P f) ((basis_of entries).member k)) (sym (known_at k [] l)) (entry_vector P h entries by_rank k (omega (arith, l, kn)))

    -- products with them have the vectors of the products by rank
    known_times : (ts : List Term) (k : ℕ) → k < known →
        Agree (ranks_of_problem P) O.count (vector_of P (times (poly_within P ts) (get_or (polys_of P (take known entries)) k []))) (times_terms (ranks_of_problem P) ts ((basis_of entries).member k))
    known_times ts k l =
        within_times (get_or (polys_of P (take known entries)) k []) ((basis_of entries).member k) (known_in_ring k [] (omega (arith, l, known_length))) (known_vector k l) ts

    -- and combinations of them have those of the sums by rank
    known_sum : (a : ℕ → List Term) →
        Agree (ranks_of_problem P) O.count (vector_of P (combination (λ e. poly_within P (a e)) (polys_of P (take known entries)))) (sum_of (ranks_of_problem P) (basis_of entries).member a known 0)
    known_sum a =
        subst (λ n. Agree (ranks_of_problem P) O.count (vector_of P (combination (λ e. poly_within P (a e)) (polys_of P (take known entries)))) (sum_of (ranks_of_problem P) (basis_of entries).member a n 0)) known_length
        (within_sum (basis_of entries).member a (λ e. poly_within P (a e)) (polys_of P (take known entries)) 0 (λ k. ap (λ x. poly_within P (a x)) (first k))
        (AllIn-from_All P.n (polys_of P (take known entries)) known_in_ring)
        (λ k l. subst (λ x. Agree (ranks_of_problem P) O.count (vector_of P (get_or (polys_of P (take known entries)) k [])) ((basis_of entries).member x)) (first k) (known_vector k (omega (arith, l, known_length)))))
      where
        first : (k : ℕ) → k ≡ 0 + k
        first k = omega arith

  -- ---- the law
  module _ (entries : List Entry) (monic : AreMonic P entries) (by_rank : AreByRank P entries) (item : Item) (reads : List Reading) (o : AreOrderly (length entries) 0 O.count reads) where
    -- the law by rank
    law : UnitLaw (ranks_of_problem P) (basis_of entries).member (last_known 0 reads) (start P entries item) (last_corner O.count reads) (run P entries item reads).poly
    law = unit_law_of_run P entries item reads h monic o

    -- the entries that the last step knew
    abbrev known : List Poly
    known = polys_of P (take (last_known 0 reads) entries)

    -- the last step knows no more than there are
    kn : last_known 0 reads ≤ length entries
    kn = last_known_le (length entries) reads 0 O.count o

    -- each of these it knew
    within_known : (e : ℕ) → e < length known → e < last_known 0 reads
    within_known e l = omega (arith, l, known_length entries by_rank (last_known 0 reads) kn)

    -- the constant term of u is 1
    constant : coef P.p (poly_within P law.u) (mono_one P.n) ≡ 1
    unfolding ranks_of_problem
    constant = ap (λ x. x % P.p) (within_constant law.u) ∙ law.one.eq ∙ (let two : 2 ≤ P.p = h.prime.two_up in let e : 1 % P.p ≡ 1 = grind arith in e)

    -- so it holds of polynomials with these vectors
    pub unit_law_of_polynomials : (f g : Poly) → IsIn P.n f → Agree (ranks_of_problem P) O.count (vector_of P f) (start P entries item) →
        Agree (ranks_of_problem P) O.count (vector_of P g) (run P entries item reads).poly → UnitLawOfPolynomials P known f (last_corner O.count reads) g
    unit_law_of_polynomials f g i begin end = record {
      u = poly_within P law.u;
      u_in_ring = within_in_ring law.u;
      one = constant;
      a = λ e. poly_within P (law.a e);
      a_in_ring = λ e. within_in_ring (law.a e);
      agrees = λ m e d l. coef_by_rank (times (poly_within P law.u) f) (g ++ combination (λ k. poly_within P (law.a k)) known) m e d (both (O.rank m) (W.small m e d) l);
      low = λ e l m k is long up.
          let d : degree m ≤ P.d = omega (arith, degree_of_above m l up, lead_low f l is) in
          coef_nothing (times (poly_within P (law.a e)) (get_or known e [])) m long d
          (same_trans ((known_times entries by_rank (last_known 0 reads) kn (law.a e) e (within_known e k)).at (O.rank m) (W.small m long d))
          ((law.low e (O.rank l) (within_known e k) (lead_of_vector f l is (start P entries item) begin)).at (O.rank m) (W.falls m l long d is.in_ring (lead_low f l is) up)));
      none = λ e k z. ap (poly_within P) (law.none e (within_known e k) (nothing_at z));
    }
      where
        both : (r : ℕ) → r < O.count → r < last_corner O.count reads → Same (ranks_of_problem P).p (vector_of P (times (poly_within P law.u) f) r) (vector_of P (g ++ combination (λ k. poly_within P (law.a k)) known) r)
        both r n l =
            same_trans ((within_times f (start P entries item) i begin law.u).at r n)
            (same_trans (law.agrees.at r l)
            (same_trans (same_add (same_sym (end.at r n)) (same_sym ((known_sum entries by_rank (last_known 0 reads) kn law.a).at r n)))
            (same_of _ _ _ (sym (total-append g (combination (λ k. poly_within P (law.a k)) known) (O.mono r))))))

        nothing_at : ((m : List ℕ) → length m ≡ P.n → degree m ≤ P.d → coef P.p f m ≡ 0) → Agree (ranks_of_problem P) (ranks_of_problem P).n (start P entries item) nothing
        nothing_at z = subst (λ n. Agree (ranks_of_problem P) n (start P entries item) nothing) (sym (ranks_count P)) (agree_trans (agree_sym begin) (vector_nothing f z))
