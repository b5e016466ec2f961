-- The polynomial of a row is that of the terms of its vector.
-- Both go over the ranks, and a residue that isn't 0 is a term of each.
use Rattle.std.proofs.Common.{◌≡◌, ℕ, zero, suc, ◌+◌, ◌%◌, ◌<◌, List, [], ◌∷◌, length, get_or, All, cond, None, Some, refl, sym, ◌∙◌, ap, arith}
use Rattle.std.specs.Prelude.{filter_map}
use Rattle.std.specs.List.{range_with_len, cons_option}
use Rattle.std.proofs.Math.Nat.{zero-mod, mod-eq_of_lt}
use Rattle.std.proofs.lemmas.Bool.{eq-eqb, ne_eqb}
use Rattle.std.proofs.lemmas.List.Elements.{All-head, All-tail}
use Rattle.local_order.specs.Shape.{count}
use Rattle.sparse_poly.specs.Shape.{shape_of}
use Rattle.sparse_poly.specs.Ideal.{Problem}
use Rattle.rank_algebra.specs.Rows.{IsRow, vector_of_row}
use Rattle.trunc_row.specs.Polynomials.{terms_from, poly_of_row}
use Rattle.rank_algebra.specs.Vector.{Vector, Agree}
use Rattle.mora_law.specs.Ring.{numbering_of, ranks_of_problem}
use Rattle.mora_law.specs.Entries.{term_at, terms_of, poly_term, poly_of_terms}
use Rattle.mora_law.proofs.Terms.{terms_same}

module _ (P : Problem) where
  -- where a vector has 0 there is no term
  none_at : (v : Vector) (k : ℕ) → v k ≡ 0 → term_at (ranks_of_problem P) v k ≡ None
  unfolding ranks_of_problem numbering_of
  none_at v k e = ap (λ b. cond b None (Some (record { rank = k; coef = v k % P.p }))) (eq-eqb (v k % P.p) 0 (ap (λ x. x % P.p) e ∙ zero-mod P.p))

  -- where it has another residue there is one
  some_at : (v : Vector) (k c : ℕ) → v k ≡ suc c → suc c < P.p → term_at (ranks_of_problem P) v k ≡ Some (record { rank = k; coef = suc c })
  unfolding ranks_of_problem numbering_of
  some_at v k c e l =
      let own : v k % P.p ≡ suc c = ap (λ x. x % P.p) e ∙ mod-eq_of_lt l in
      ap (λ b. cond b None (Some (record { rank = k; coef = v k % P.p }))) (ne_eqb (v k % P.p) 0 (λ z. omega (arith, own, z)))
      ∙ ap (λ x. Some (record { rank = k; coef = x })) own

  -- the terms of residues from a rank on are those of a vector that has them there
  terms_are : (v : Vector) (k : ℕ) (r : List ℕ) → All (λ c. c < P.p) r → ((j : ℕ) → j < length r → v (k + j) ≡ get_or r j 0)
      → poly_of_terms P (filter_map (term_at (ranks_of_problem P) v) (range_with_len k (length r))) ≡ terms_from (shape_of P) k r
  unfolding ranks_of_problem numbering_of
  terms_are v k [] s h = refl
  terms_are v k (zero ∷ r) s h =
      ap (λ o. poly_of_terms P (cons_option o (filter_map (term_at (ranks_of_problem P) v) (range_with_len (k + 1) (length r)))))
      (none_at v k (let e : k ≡ k + 0 = omega arith in ap v e ∙ h 0 (omega arith)))
      ∙ terms_are v (k + 1) r (All-tail (λ x. x < P.p) zero r s) (λ j l. let e : k + 1 + j ≡ k + suc j = omega arith in ap v e ∙ h (suc j) (omega (arith, l)))
      ∙ (let e : k + 1 ≡ suc k = omega arith in ap (λ i. terms_from (shape_of P) i r) e)
  terms_are v k (suc c ∷ r) s h =
      ap (λ o. poly_of_terms P (cons_option o (filter_map (term_at (ranks_of_problem P) v) (range_with_len (k + 1) (length r)))))
      (some_at v k c (let e : k ≡ k + 0 = omega arith in ap v e ∙ h 0 (omega arith)) (All-head (λ x. x < P.p) (suc c) r s))
      ∙ ap (λ f. poly_term P (record { rank = k; coef = suc c }) ∷ f)
      (terms_are v (k + 1) r (All-tail (λ x. x < P.p) (suc c) r s) (λ j l. let e : k + 1 + j ≡ k + suc j = omega arith in ap v e ∙ h (suc j) (omega (arith, l)))
      ∙ (let e : k + 1 ≡ suc k = omega arith in ap (λ i. terms_from (shape_of P) i r) e))

  -- so the polynomial of a row is that of its residues
  row_is : (r : List ℕ) → IsRow P.p (count (shape_of P)) r → poly_of_terms P (terms_of (ranks_of_problem P) (vector_of_row r)) ≡ poly_of_row (shape_of P) r
  unfolding ranks_of_problem numbering_of terms_of
  row_is r h =
      ap (λ n. poly_of_terms P (filter_map (term_at (ranks_of_problem P) (vector_of_row r)) (range_with_len 0 n))) (sym h.full)
      ∙ terms_are (vector_of_row r) 0 r h.residues (λ j l. let e : 0 + j ≡ j = omega arith in ap (λ i. get_or r i 0) e)

  -- so is that of the terms of a vector that it agrees with
  pub poly_of_vector : (v : Vector) (r : List ℕ) → IsRow P.p (count (shape_of P)) r → Agree (ranks_of_problem P) (ranks_of_problem P).n (vector_of_row r) v
      → poly_of_row (shape_of P) r ≡ poly_of_terms P (terms_of (ranks_of_problem P) v)
  poly_of_vector v r w h = sym (row_is r w) ∙ ap (poly_of_terms P) (terms_same (ranks_of_problem P) (vector_of_row r) v h)
