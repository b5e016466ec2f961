-- The terms of a vector as a polynomial: it is canonical, and has the vector's residues as coefficients.
-- By induction on the ranks that are left: the terms behind a rank are those of later ranks.
use Rattle.std.proofs.Common.{◌≡◌, ℕ, zero, suc, ◌+◌, ◌%◌, ◌<◌, ◌≤◌, ◌≢◌, ◌⊎◌, List, [], ◌∷◌, Bool, true, false, cond, eqb, Some, refl, sym, ◌∙◌, ap, ap₂, subst, arith, inl, inr}
use Rattle.std.proofs.Math.Nat
use Rattle.std.proofs.lemmas.Bool.{cases_lt, eqb-true, eqb-false}
use Rattle.local_order.specs.Mono.{degree, same}
use Rattle.local_order.specs.Order.{IsAbove}
use Rattle.local_order.proofs.Order.{same-false, same_self}
use Rattle.mono_rank.specs.Laws.{Numbering, IsNumbering}
use Rattle.sparse_poly.specs.Poly.{total, IsAboveFirst, IsCanonical}
use Rattle.sparse_poly.specs.Ideal.{Problem, IsLead}
use Rattle.sparse_poly.proofs.Unique.{IsLead-canonical}
use Rattle.entry_code.specs.declared.term.Term.{Term}
use Rattle.rank_algebra.specs.Vector.{Vector, nothing, Agree}
use Rattle.mora_law.specs.Ring.{numbering_of, ranks_of_problem, IsAdmissible, vector_of}
use Rattle.mora_law.specs.Lead.{is_none_at, lead}
use Rattle.mora_law.specs.Entries.{terms_of, lead_rank, poly_of_terms}
use Rattle.entry_code.specs.Terms.{vector_of_terms}
use Rattle.rank_algebra.proofs.Residues.{same_refl, same_of, same_trans}
use Rattle.rank_algebra.proofs.Linear.{agree_sym, agree_trans}
use Rattle.mora_law.proofs.Ring.{numbering_is, ranks_count}
use Rattle.mora_law.proofs.Divisors.{above_by_rank}
use Rattle.mora_law.proofs.Choice.{lead_some}
use Rattle.mora_law.proofs.Terms.{term_by, terms_from, terms_walk, terms_agree}

module _ (P : Problem) (h : IsAdmissible P) where
  -- the numbering of the problem
  abbrev O : Numbering
  O = numbering_of P

  -- it numbers the monomials by the order
  W : IsNumbering P.n P.d IsAbove (numbering_of P)
  W = numbering_is P h.some

  -- the monomials of two ranks differ
  other : (r x : ℕ) → r < O.count → x < O.count → (r ≡ x → ⊥) → same (O.mono r) (O.mono x) ≡ false
  other r x l m n = same-false (O.mono r) (O.mono x) (λ e. n (sym (W.back r l) ∙ ap O.rank e ∙ W.back x m))

  -- ---- coefficients
  -- the terms of later ranks have nothing at a rank
  total_before : (v : Vector) (left r x : ℕ) → r + left ≤ O.count → x < r → total (poly_of_terms P (terms_from (ranks_of_problem P) left r v)) (O.mono x) ≡ 0
  total_before v zero r x l m = refl
  total_before v (suc left) r x l m = go (is_none_at (ranks_of_problem P) v r) (total_before v left (suc r) x (omega arith) (omega arith))
    where
      later : List Term
      later = terms_from (ranks_of_problem P) left (suc r) v

      go : (b : Bool) → total (poly_of_terms P (terms_from (ranks_of_problem P) left (suc r) v)) (O.mono x) ≡ 0 →
          total (poly_of_terms P (term_by r (v r % (ranks_of_problem P).p) (terms_from (ranks_of_problem P) left (suc r) v) b)) (O.mono x) ≡ 0
      go true z = z
      go false z = ap₂ ◌+◌ (ap (λ b. cond b (v r % (ranks_of_problem P).p) 0) (other r x (omega arith) (omega arith) (λ e. omega (arith, e, m)))) z

  -- at its own rank a term has the residue
  total_at : (v : Vector) (left r x : ℕ) → r + left ≤ O.count → r ≤ x → x < r + left → total (poly_of_terms P (terms_from (ranks_of_problem P) left r v)) (O.mono x) ≡ v x % (ranks_of_problem P).p
  total_at v zero r x l m k = absurd (omega (arith, m, k))
  total_at v (suc left) r x l m k = go (is_none_at (ranks_of_problem P) v r) refl (cases_lt r x) (λ o. total_at v left (suc r) x (omega arith) o (omega arith))
    where
      go : (b : Bool) → is_none_at (ranks_of_problem P) v r ≡ b → (r < x) ⊎ (x ≤ r) →
          (suc r ≤ x → total (poly_of_terms P (terms_from (ranks_of_problem P) left (suc r) v)) (O.mono x) ≡ v x % (ranks_of_problem P).p) →
          total (poly_of_terms P (term_by r (v r % (ranks_of_problem P).p) (terms_from (ranks_of_problem P) left (suc r) v) b)) (O.mono x) ≡ v x % (ranks_of_problem P).p
      go true e (inl o) up = up o
      go true e (inr o) up = let z : r ≡ x = omega arith in
          subst (λ y. total (poly_of_terms P (terms_from (ranks_of_problem P) left (suc r) v)) (O.mono y) ≡ v y % (ranks_of_problem P).p) z
          (total_before v left (suc r) r (omega arith) (omega arith) ∙ sym (eqb-true (v r % (ranks_of_problem P).p) 0 e))
      go false e (inl o) up = ap₂ ◌+◌ (ap (λ b. cond b (v r % (ranks_of_problem P).p) 0) (other r x (omega arith) (omega arith) (λ z. omega (arith, z, o)))) (up o) ∙ omega arith
      go false e (inr o) up = let z : r ≡ x = omega arith in
          subst (λ y. cond (same (O.mono r) (O.mono y)) (v r % (ranks_of_problem P).p) 0 + total (poly_of_terms P (terms_from (ranks_of_problem P) left (suc r) v)) (O.mono y) ≡ v y % (ranks_of_problem P).p) z
          (ap₂ ◌+◌ (ap (λ b. cond b (v r % (ranks_of_problem P).p) 0) (same_self (O.mono r))) (total_before v left (suc r) r (omega arith) (omega arith)) ∙ omega arith)

  -- the coefficients of the polynomial of a vector's terms
  pub total_of_terms : (v : Vector) (x : ℕ) → x < O.count → total (poly_of_terms P (terms_of (ranks_of_problem P) v)) (O.mono x) ≡ v x % P.p
  unfolding ranks_of_problem
  total_of_terms v x l = ap (λ ts. total (poly_of_terms P ts) (O.mono x)) (terms_walk (ranks_of_problem P) v) ∙ total_at v O.count 0 x (omega arith) (omega arith) (omega arith)

  -- so the polynomial has the vector
  pub vector_back : (v : Vector) → Agree (ranks_of_problem P) (numbering_of P).count (vector_of P (poly_of_terms P (terms_of (ranks_of_problem P) v))) v
  unfolding ranks_of_problem
  vector_back v = record { at = λ r l. same_trans (same_of _ _ _ (total_of_terms v r l)) (record { eq = Nat.mod-mod (v r) P.p }) }

  -- and so has the list of its terms
  pub terms_have_vector : (v : Vector) → Agree (ranks_of_problem P) (ranks_of_problem P).n (vector_of P (poly_of_terms P (terms_of (ranks_of_problem P) v))) (vector_of_terms (terms_of (ranks_of_problem P) v))
  terms_have_vector v = agree_trans
      (subst (λ n. Agree (ranks_of_problem P) n (vector_of P (poly_of_terms P (terms_of (ranks_of_problem P) v))) v) (sym (ranks_count P)) (vector_back v))
      (agree_sym (terms_agree (ranks_of_problem P) v))

  -- ---- the canonical form
  -- a monomial of lesser rank is above the terms of later ranks
  below_from : (v : Vector) (left r x : ℕ) → r + left ≤ O.count → x < r → IsAboveFirst (O.mono x) (poly_of_terms P (terms_from (ranks_of_problem P) left r v))
  below_from v zero r x l m = tt
  below_from v (suc left) r x l m = go (is_none_at (ranks_of_problem P) v r) (below_from v left (suc r) x (omega arith) (omega arith))
    where
      go : (b : Bool) → IsAboveFirst (O.mono x) (poly_of_terms P (terms_from (ranks_of_problem P) left (suc r) v)) →
          IsAboveFirst (O.mono x) (poly_of_terms P (term_by r (v r % (ranks_of_problem P).p) (terms_from (ranks_of_problem P) left (suc r) v) b))
      go true z = z
      go false z = above_by_rank P h x r m (omega arith)

  -- the terms from a rank on are a canonical polynomial
  canonical_from : (v : Vector) (left r : ℕ) → r + left ≤ O.count → IsCanonical P.p P.n (poly_of_terms P (terms_from (ranks_of_problem P) left r v))
  unfolding ranks_of_problem
  canonical_from v zero r l = tt
  canonical_from v (suc left) r l = go (is_none_at (ranks_of_problem P) v r) refl (canonical_from v left (suc r) (omega arith))
    where
      some : eqb (v r % P.p) 0 ≡ false → 0 < v r % P.p
      some e = let n : v r % P.p ≢ 0 = eqb-false (v r % P.p) 0 e in omega (arith, n)

      go : (b : Bool) → eqb (v r % P.p) 0 ≡ b → IsCanonical P.p P.n (poly_of_terms P (terms_from (ranks_of_problem P) left (suc r) v)) →
          IsCanonical P.p P.n (poly_of_terms P (term_by r (v r % P.p) (terms_from (ranks_of_problem P) left (suc r) v) b))
      go true e z = z
      go false e z = (W.in_ring r (omega arith), some e, Nat.mod-lt (v r) (omega (arith, h.prime.two_up)), below_from v left (suc r) r (omega arith) (omega arith), z)

  -- the terms are a canonical polynomial
  pub canonical_of_terms : (v : Vector) → IsCanonical P.p P.n (poly_of_terms P (terms_of (ranks_of_problem P) v))
  unfolding ranks_of_problem
  canonical_of_terms v = subst (λ ts. IsCanonical P.p P.n (poly_of_terms P ts)) (sym (terms_walk (ranks_of_problem P) v)) (canonical_from v O.count 0 (omega arith))

  -- the terms from a rank on have none of a degree above d
  high_from : (v : Vector) (left r : ℕ) (m : List ℕ) → r + left ≤ O.count → P.d < degree m → total (poly_of_terms P (terms_from (ranks_of_problem P) left r v)) m ≡ 0
  high_from v zero r m l high = refl
  high_from v (suc left) r m l high = go (is_none_at (ranks_of_problem P) v r) (high_from v left (suc r) m (omega arith) high)
    where
      go : (b : Bool) → total (poly_of_terms P (terms_from (ranks_of_problem P) left (suc r) v)) m ≡ 0 →
          total (poly_of_terms P (term_by r (v r % (ranks_of_problem P).p) (terms_from (ranks_of_problem P) left (suc r) v) b)) m ≡ 0
      go true z = z
      go false z = ap₂ ◌+◌ (ap (λ b. cond b (v r % (ranks_of_problem P).p) 0) (same-false (O.mono r) m (λ e. omega (arith, ap degree e, W.low r (omega arith), high)))) z

  -- and have none of a degree above d
  pub high_of_terms : (v : Vector) (m : List ℕ) → P.d < degree m → total (poly_of_terms P (terms_of (ranks_of_problem P) v)) m ≡ 0
  unfolding ranks_of_problem
  high_of_terms v m high = ap (λ ts. total (poly_of_terms P ts) m) (terms_walk (ranks_of_problem P) v) ∙ high_from v O.count 0 m (omega arith) high

-- the lead of a canonical polynomial is the monomial of its first rank
pub lead_of_terms : (P : Problem) (ts : List Term) (r : ℕ) → lead (ranks_of_problem P) (vector_of_terms ts) ≡ Some r → IsCanonical P.p P.n (poly_of_terms P ts) →
    IsLead P (poly_of_terms P ts) ((numbering_of P).mono (lead_rank ts))
lead_of_terms P [] r e w = absurd ((lead_some (ranks_of_problem P) nothing r e).some (same_refl _ _))
lead_of_terms P (t ∷ ts) r e w = IsLead-canonical P (record { mono = (numbering_of P).mono t.rank; coef = t.coef }) (poly_of_terms P ts) w
