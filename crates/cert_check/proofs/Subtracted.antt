-- Subtracting a multiple term by term: what has been subtracted so far, one more term, and where the rest can be left out.
-- Products with rising ranks rise, so each product comes from one term, and those past a bound come last.
use Rattle.std.proofs.Common.{◌≡◌, ℕ, ◌+◌, ◌*◌, ◌-◌, ◌%◌, ◌<◌, ◌≤◌, ◌⊎◌, List, [], slice_get, take, cond, eqb, Bool, true, false, Option, Some, None, refl, sym, ◌∙◌, ap, arith, inl, inr}
use Rattle.std.proofs.lemmas.Bool.{cases_order, eqb-true, eqb-false, ne_eqb}
use Rattle.rank_algebra.specs.Ranks.{Ranks, IsRanks}
use Rattle.entry_code.specs.declared.term.Term.{Term}
use Rattle.rank_algebra.specs.Vector.{Same, Vector, nothing, coef_at, shift, less}
use Rattle.rank_algebra.proofs.Residues.{same_refl, same_of, same_trans, same_add, same_mul, same_mod, same_minus}
use Rattle.rank_algebra.proofs.Linear.{quotient_eq, shift_nothing}
use Rattle.entry_code.specs.Terms.{vector_of_terms}
use Rattle.cert_check.specs.Sparse.{AreRisingTerms}
use Rattle.cert_check.proofs.TermVectors.{taken_new, taken_none, taken_other, taken_low}

module _ (R : Ranks) (L : IsRanks R) (f a w : ℕ) (v : Vector) where
  -- below w, u is v less f times the monomial a times these terms; from w on it is v
  pub record IsSubtracted (ts : List Term) (u : Vector) : Type 0 where
    pub value : (r : ℕ) → r < w → r < R.n → Same R.p (u r) (less R f (shift R a (vector_of_terms ts)) v r)
    pub rest : (r : ℕ) → w ≤ r → u r ≡ v r

  -- at the beginning nothing is
  pub none_yet : (u : Vector) → ((r : ℕ) → u r ≡ v r) → IsSubtracted [] u
  none_yet u h = record {
    value = λ r l m. same_of R.p _ _ (h r ∙ (let e : shift R a nothing r ≡ 0 = shift_nothing R L a r in let g : v r ≡ v r + (R.p - 1) * f * 0 = omega arith in g ∙ ap (λ x. v r + (R.p - 1) * f * x) (sym e)));
    rest = λ r l. h r;
  }

  module _ (ts : List Term) (rising : AreRisingTerms ts) (k : ℕ) (t : Term) (there : slice_get ts k ≡ Some t) where
    -- what is left can be left out where the product with the next term is past the last rank or at least w
    pub rest_out : (u : Vector) → IsSubtracted (take k ts) u → (R.times a t.rank < R.n → w ≤ R.times a t.rank) → IsSubtracted ts u
    rest_out u h out = record { value = λ r rw rn. same_trans (h.value r rw rn) (same_of R.p _ _ (ap (λ x. v r + (R.p - 1) * f * x) (go r rw rn (R.quotient r a) refl))); rest = h.rest }
      where
        go : (r : ℕ) → r < w → r < R.n → (o : Option ℕ) → R.quotient r a ≡ o → coef_at (vector_of_terms (take k ts)) o ≡ coef_at (vector_of_terms ts) o
        go r rw rn None e = refl
        go r rw rn (Some s) e = sym (taken_low ts k t there s rising (less_than (cases_order s t.rank)))
          where
            is : R.times a s ≡ r
            is = L.quotient_times r a s e

            less_than : (s ≡ t.rank) ⊎ ((s < t.rank) ⊎ (t.rank < s)) → s < t.rank
            less_than (inl z) =
                let q : R.times a t.rank ≡ r = ap (R.times a) (sym z) ∙ is in
                absurd (omega (arith, q, rw, rn, out (omega (arith, q, rn))))
            less_than (inr (inl m)) = m
            less_than (inr (inr m)) =
                let q = L.grows a t.rank s m (omega (arith, is, rn)) in
                absurd (omega (arith, q, is, rw, rn, out (omega (arith, q, is, rn))))

    -- one more term
    pub one_term : f < R.p → (u u' : Vector) (at : ℕ) → R.times a t.rank ≡ at → at < R.n → at < w → IsSubtracted (take k ts) u →
        ((r : ℕ) → u' r ≡ cond (eqb at r) ((u r + ((R.p - f) % R.p * t.coef) % R.p) % R.p) (u r)) → IsSubtracted (take (k + 1) ts) u'
    one_term fp u u' at is an aw h step = record { value = λ r rw rn. go r rw rn (eqb at r) refl; rest = λ r m. step r ∙ ap (λ b. cond b ((u r + ((R.p - f) % R.p * t.coef) % R.p) % R.p) (u r)) (eqb_not r m) ∙ h.rest r m }
      where
        c : ℕ
        c = t.coef

        eqb_not : (r : ℕ) → w ≤ r → eqb at r ≡ false
        eqb_not r m = ne_eqb at r (λ e. omega (arith, e, m, aw))

        added : Same R.p (((R.p - f) % R.p * c) % R.p) ((R.p - 1) * f * c)
        added = same_trans (same_mod R.p _) (same_mul (same_trans (same_mod R.p (R.p - f)) (same_minus R.p f fp)) (same_refl R.p c))

        go : (r : ℕ) → r < w → r < R.n → (b : Bool) → eqb at r ≡ b → Same R.p (u' r) (less R f (shift R a (vector_of_terms (take (k + 1) ts))) v r)
        go r rw rn true e =
            let z : at ≡ r = eqb-true at r e in
            let q : R.quotient r a ≡ Some t.rank = quotient_eq R L r a t.rank rn (is ∙ z) in
            let now : shift R a (vector_of_terms (take (k + 1) ts)) r ≡ c = ap (coef_at (vector_of_terms (take (k + 1) ts))) q ∙ taken_new ts rising k t there in
            let then : shift R a (vector_of_terms (take k ts)) r ≡ 0 = ap (coef_at (vector_of_terms (take k ts))) q ∙ taken_none ts rising k t there in
            let old : Same R.p (u r) (v r) = same_trans (h.value r rw rn) (same_of R.p _ _ (ap (λ x. v r + (R.p - 1) * f * x) then ∙ (let g : v r + (R.p - 1) * f * 0 ≡ v r = omega arith in g))) in
            same_trans (same_of R.p _ _ (step r ∙ ap (λ b. cond b ((u r + ((R.p - f) % R.p * c) % R.p) % R.p) (u r)) e))
            (same_trans (same_mod R.p _) (same_trans (same_add old added) (same_of R.p _ _ (ap (λ x. v r + (R.p - 1) * f * x) (sym now)))))
        go r rw rn false e =
            same_trans (same_of R.p _ _ (step r ∙ ap (λ b. cond b ((u r + ((R.p - f) % R.p * c) % R.p) % R.p) (u r)) e))
            (same_trans (h.value r rw rn) (same_of R.p _ _ (ap (λ x. v r + (R.p - 1) * f * x) (other (R.quotient r a) refl))))
          where
            other : (o : Option ℕ) → R.quotient r a ≡ o → coef_at (vector_of_terms (take k ts)) o ≡ coef_at (vector_of_terms (take (k + 1) ts)) o
            other None g = refl
            other (Some s) g = sym (taken_other ts rising k t there s (λ z. eqb-false at r e (sym is ∙ ap (R.times a) (sym z) ∙ L.quotient_times r a s g)))
