-- The terms of a row made monic.
-- They are put one behind the other, rank by rank: with those of the later ranks the list has them all.
use Rattle.std.proofs.Common.{◌≡◌, ◌≢◌, ℕ, suc, ◌+◌, ◌%◌, ◌<◌, ◌≤◌, List, [], ◌∷◌, ◌++◌, length, get_or, true, false, eqb, ap, sym, ◌∙◌, arith, append_assoc}
use Rattle.std.proofs.lemmas.Bool.{eq-eqb, ne_eqb}
use Rattle.std.proofs.lemmas.List.{append-nil, length-append}
use Rattle.prime_field.specs.Prime.{InTable}
use Rattle.prime_field.specs.Inverse.{inverse}
use Rattle.local_order.specs.Shape.{Shape, count}
use Rattle.entry_code.specs.declared.term.Term.{Term}
use Rattle.rank_algebra.specs.Rows.{IsRow, BeginsAt, vector_of_row}
use Rattle.trunc_row.proofs.Residues.{row_mod}
use Rattle.rank_algebra.specs.Vector.{Vector, scale}
use Rattle.mora_law.specs.Lead.{is_none_at}
use Rattle.mora_law.specs.Entries.{terms_of, monic_by, monic}
use Rattle.mora_law.proofs.Terms.{term_by, terms_from, terms_walk}
use Rattle.mora_law.specs.Ring.{ring}
use Rattle.mora_form.proofs.Vectors.{lead_of_row}
use Rattle.mora_law.proofs.Ring.{ring_p, ring_count, ring_inverse}

-- with the terms from a rank on the list has all terms
pub record TermsTo (p : ℕ) (T : Shape) (v : Vector) (rank : ℕ) (list : List Term) : Type 0 where
  pub list_is : (left : ℕ) → rank + left ≡ count T → list ++ terms_from (ring p T) left rank v ≡ terms_from (ring p T) (count T) 0 v
  pub few : length list ≤ rank

-- no terms are those of the first 0 ranks
pub terms_none : (p : ℕ) (T : Shape) (v : Vector) (list : List Term) → list ≡ [] → TermsTo p T v 0 list
terms_none p T v list e = record {
  list_is = λ left l. let q : left ≡ count T = omega (arith, l) in ap (λ s. s ++ terms_from (ring p T) left 0 v) e ∙ ap (λ k. terms_from (ring p T) k 0 v) q;
  few = omega (arith, ap length e);
}

-- whether there is a term
some_at : (p : ℕ) (T : Shape) (v : Vector) (r : ℕ) → (v r % p ≢ 0) → is_none_at (ring p T) v r ≡ false
some_at p T v r h = ap (λ q. eqb (v r % q) 0) (ring_p p T) ∙ ne_eqb (v r % p) 0 h

-- where the residue is 0 there is no term
none_at : (p : ℕ) (T : Shape) (v : Vector) (r : ℕ) → v r % p ≡ 0 → is_none_at (ring p T) v r ≡ true
none_at p T v r h = ap (λ q. eqb (v r % q) 0) (ring_p p T) ∙ eq-eqb (v r % p) 0 h

-- the next term is put behind
pub terms_put : (p : ℕ) (T : Shape) (v : Vector) (rank coef : ℕ) (list new : List Term) → rank < count T → TermsTo p T v rank list → coef ≡ v rank % p → coef ≢ 0
    → new ≡ list ++ record { rank = rank; coef = coef } ∷ [] → TermsTo p T v (rank + 1) new
terms_put p T v rank coef list new low h e some f = record {
  list_is = λ left l.
      ap (λ s. s ++ terms_from (ring p T) left (rank + 1) v) f
      ∙ append_assoc list (record { rank = rank; coef = coef } ∷ []) (terms_from (ring p T) left (rank + 1) v)
      ∙ ap (λ s. list ++ s) (here left)
      ∙ h.list_is (suc left) (omega (arith, l));
  few = omega (arith, ap length f, length-append list (record { rank = rank; coef = coef } ∷ []), h.few);
}
  where
    here : (left : ℕ) → record { rank = rank; coef = coef } ∷ terms_from (ring p T) left (rank + 1) v ≡ terms_from (ring p T) (suc left) rank v
    here left =
        ap (λ k. record { rank = rank; coef = coef } ∷ terms_from (ring p T) left k v) (let q : rank + 1 ≡ suc rank = omega arith in q)
        ∙ ap (λ c. record { rank = rank; coef = c } ∷ terms_from (ring p T) left (suc rank) v) (e ∙ ap (λ q. v rank % q) (sym (ring_p p T)))
        ∙ sym (ap (term_by rank (v rank % (ring p T).p) (terms_from (ring p T) left (suc rank) v)) (some_at p T v rank (λ z. some (e ∙ z))))

-- where there is none nothing is put
pub terms_skip : (p : ℕ) (T : Shape) (v : Vector) (rank coef : ℕ) (list : List Term) → rank < count T → TermsTo p T v rank list → coef ≡ v rank % p → coef ≡ 0 → TermsTo p T v (rank + 1) list
terms_skip p T v rank coef list low h e none = record {
  list_is = λ left l. ap (λ s. list ++ s) (here left) ∙ h.list_is (suc left) (omega (arith, l));
  few = omega (arith, h.few);
}
  where
    here : (left : ℕ) → terms_from (ring p T) left (rank + 1) v ≡ terms_from (ring p T) (suc left) rank v
    here left =
        ap (λ k. terms_from (ring p T) left k v) (let q : rank + 1 ≡ suc rank = omega arith in q)
        ∙ sym (ap (term_by rank (v rank % (ring p T).p) (terms_from (ring p T) left (suc rank) v)) (none_at p T v rank (sym e ∙ none)))

-- all terms
pub terms_all : (p : ℕ) (T : Shape) (v : Vector) (rank : ℕ) (list : List Term) → TermsTo p T v rank list → rank ≡ count T → list ≡ terms_of (ring p T) v
terms_all p T v rank list h e =
    sym (append-nil list)
    ∙ h.list_is 0 (omega (arith, e))
    ∙ ap (λ k. terms_from (ring p T) k 0 v) (sym (ring_count p T))
    ∙ sym (terms_walk (ring p T) v)

-- the row made monic is its multiple by the inverse of its leading coefficient
pub monic_of_row : (p : ℕ) (T : Shape) → InTable p → 1 ≤ T.variables → (r : List ℕ) (k factor : ℕ) → IsRow p (count T) r → BeginsAt r k → factor ≡ inverse p (get_or r k 0)
    → scale factor (vector_of_row r) ≡ monic (ring p T) (vector_of_row r)
monic_of_row p T t some r k factor w b e =
    ap (λ c. scale c (vector_of_row r)) (e ∙ ap (inverse p) (sym (row_mod p (count T) r k w)) ∙ sym (ring_inverse p T (get_or r k 0)))
    ∙ sym (ap (monic_by (ring p T) (vector_of_row r)) (lead_of_row p T t some r k w b))
