-- A vector and the list of its terms: the terms have its residues, and begin with its lead. The monic multiple of a vector.
-- By induction on the ranks that are left.
use Rattle.std.proofs.Common.{List, [], ◌∷◌, None, ℕ, zero, suc, ◌+◌, ◌%◌, ◌<◌, ◌≤◌, ◌≡◌, Bool, true, false, cond, eqb, Some, refl, sym, ◌∙◌, ap, ap₂, subst, arith, ◌⊎◌, inl, inr}
use Rattle.std.proofs.Math.Nat
use Rattle.std.proofs.lemmas.Bool.{cases_lt, eq-eqb, ne_eqb}
use Rattle.std.specs.Prelude.{filter_map}
use Rattle.std.specs.List.{range_with_len, cons_option}
use Rattle.rank_algebra.specs.Ranks.{Ranks, IsRanks}
use Rattle.rank_algebra.specs.Vector.{Same, Vector, nothing, scale, Agree}
use Rattle.rank_algebra.specs.Ideal.{IsLead}
use Rattle.mora_law.specs.Lead.{is_none_at, lead}
use Rattle.entry_code.specs.declared.term.Term.{Term}
use Rattle.mora_law.specs.Entries.{term_at, terms_of, monic_by, monic, lead_rank}
use Rattle.entry_code.specs.Terms.{vector_of_terms}
use Rattle.rank_algebra.proofs.Residues.{same_of, same_sym, same_trans, same_times, same_mod}
use Rattle.rank_algebra.proofs.Linear.{agree_refl, agree_trans, inverse_same}
use Rattle.mora_law.proofs.Choice.{lead_some, none_same, some_same, lead_is}

-- the term of rank r in front of later ones, where there is one
abbrev pub term_by : ℕ → ℕ → List Term → Bool → List Term
term_by r c later true = later
term_by r c later false = record { rank = r; coef = c } ∷ later

-- the terms of `left` ranks from r on, one by one
abbrev pub terms_from : Ranks → ℕ → ℕ → Vector → List Term
terms_from R zero r v = []
terms_from R (suc left) r v = term_by r (v r % R.p) (terms_from R left (suc r) v) (is_none_at R v r)

-- they are what a search among these ranks gives
walk : (R : Ranks) (v : Vector) (left r : ℕ) → filter_map (term_at R v) (range_with_len r left) ≡ terms_from R left r v
walk R v zero r = refl
walk R v (suc left) r =
    ap (λ ts. cons_option (term_at R v r) ts) ((let z : r + 1 ≡ suc r = omega arith in ap (λ k. filter_map (term_at R v) (range_with_len k left)) z) ∙ walk R v left (suc r))
    ∙ go (is_none_at R v r)
  where
    go : (b : Bool) → cons_option (cond b None (Some (record { rank = r; coef = v r % R.p }))) (terms_from R left (suc r) v) ≡ term_by r (v r % R.p) (terms_from R left (suc r) v) b
    go true = refl
    go false = refl

-- so the terms are those of all ranks from 0 on
pub terms_walk : (R : Ranks) (v : Vector) → terms_of R v ≡ terms_from R R.n 0 v
unfolding terms_of
terms_walk R v = walk R v R.n 0

-- no term before r
terms_before : (R : Ranks) (v : Vector) (left r x : ℕ) → x < r → vector_of_terms (terms_from R left r v) x ≡ 0
terms_before R v zero r x l = refl
terms_before R v (suc left) r x l = go (is_none_at R v r) (terms_before R v left (suc r) x (omega arith))
  where
    go : (b : Bool) → vector_of_terms (terms_from R left (suc r) v) x ≡ 0 → vector_of_terms (term_by r (v r % R.p) (terms_from R left (suc r) v) b) x ≡ 0
    go true h = h
    go false h = ap (λ b. cond b (v r % R.p) (vector_of_terms (terms_from R left (suc r) v) x)) (ne_eqb r x (λ e. omega (arith, e, l))) ∙ h

-- at its own rank a term has the residue
terms_at : (R : Ranks) (v : Vector) (left r x : ℕ) → r ≤ x → x < r + left → Same R.p (vector_of_terms (terms_from R left r v) x) (v x)
terms_at R v zero r x l m = absurd (omega (arith, l, m))
terms_at R v (suc left) r x l m = go (is_none_at R v r) refl (cases_lt r x) (λ n. terms_at R v left (suc r) x n (omega arith))
  where
    go : (b : Bool) → is_none_at R v r ≡ b → (r < x) ⊎ (x ≤ r) → (suc r ≤ x → Same R.p (vector_of_terms (terms_from R left (suc r) v) x) (v x)) → Same R.p (vector_of_terms (term_by r (v r % R.p) (terms_from R left (suc r) v) b) x) (v x)
    go true e (inl n) up = up n
    go true e (inr n) up = let z : r ≡ x = omega arith in subst (λ y. Same R.p (vector_of_terms (terms_from R left (suc r) v) y) (v y)) z (same_trans (same_of _ _ _ (terms_before R v left (suc r) r (omega arith))) (same_sym (none_same R.p (v r) e)))
    go false e (inl n) up = same_trans (same_of _ _ _ (ap (λ b. cond b (v r % R.p) (vector_of_terms (terms_from R left (suc r) v) x)) (ne_eqb r x (λ e. omega (arith, e, n))))) (up n)
    go false e (inr n) up = let z : r ≡ x = omega arith in subst (λ y. Same R.p (cond (eqb r y) (v r % R.p) (vector_of_terms (terms_from R left (suc r) v) y)) (v y)) z (same_trans (same_of _ _ _ (ap (λ b. cond b (v r % R.p) (vector_of_terms (terms_from R left (suc r) v) r)) (eq-eqb r r refl))) (same_mod R.p (v r)))

-- so the terms have the vector
pub terms_agree : (R : Ranks) (v : Vector) → Agree R R.n (vector_of_terms (terms_of R v)) v
terms_agree R v = subst (λ ts. Agree R R.n (vector_of_terms ts) v) (sym (terms_walk R v)) (record { at = λ r l. terms_at R v R.n 0 r (omega arith) (omega arith) })

-- the terms from a rank up to the lead on begin with the lead
terms_lead : (R : Ranks) (v : Vector) (r : ℕ) → IsLead R v r → (left k : ℕ) → k ≤ r → r < k + left → lead_rank (terms_from R left k v) ≡ r
terms_lead R v r h zero k l m = absurd (omega (arith, l, m))
terms_lead R v r h (suc left) k l m = go (is_none_at R v k) refl (cases_lt k r) (λ n. terms_lead R v r h left (suc k) n (omega arith))
  where
    go : (b : Bool) → is_none_at R v k ≡ b → (k < r) ⊎ (r ≤ k) → (suc k ≤ r → lead_rank (terms_from R left (suc k) v) ≡ r) → lead_rank (term_by k (v k % R.p) (terms_from R left (suc k) v) b) ≡ r
    go true e (inl n) up = up n
    go true e (inr n) up = let z : k ≡ r = omega arith in absurd (h.some (none_same R.p (v r) (subst (λ y. is_none_at R v y ≡ true) z e)))
    go false e (inl n) up = absurd (some_same R.p (v k) e (h.low.at k n))
    go false e (inr n) up = omega (arith, l, n)

-- so the first term has the rank of the lead
pub first_is_lead : (R : Ranks) (v : Vector) (r : ℕ) → lead R v ≡ Some r → lead_rank (terms_of R v) ≡ r
first_is_lead R v r e = let i = lead_some R v r e in ap lead_rank (terms_walk R v) ∙ terms_lead R v r i R.n 0 (omega arith) (omega (arith, i.small))

-- the monic multiple of v, whose lead is r
pub record IsMonicOf (R : Ranks) (v g : Vector) (r : ℕ) : Type 0 where
  pub low : Agree R r g nothing
  pub one : Same R.p (g r) 1
  pub of : Agree R R.n g (scale (R.inverse_of (v r)) v)
  pub back : Agree R R.n v (scale (v r) g)

module _ (R : Ranks) (L : IsRanks R) where
  -- the terms of the monic multiple are it
  pub monic_is : (v : Vector) (r : ℕ) → lead R v ≡ Some r → IsMonicOf R v (vector_of_terms (terms_of R (monic R v))) r
  monic_is v r e = record {
    low = record { at = λ x l. same_trans (here.at x (omega (arith, l, i.small))) (same_trans (same_times (R.inverse_of (v r)) (i.low.at x l)) (same_of _ _ _ (omega arith))) };
    one = same_trans (here.at r i.small) (inverse_same R L (v r) i.some);
    of = here;
    back = record { at = λ x l. same_sym (same_trans (same_times (v r) (here.at x l)) (same_trans (same_of _ _ _ (omega arith)) (same_trans (same_times (v x) (inverse_same R L (v r) i.some)) (same_of _ _ _ (omega arith))))) };
  }
    where
      i : IsLead R v r
      i = lead_some R v r e

      here : Agree R R.n (vector_of_terms (terms_of R (monic R v))) (scale (R.inverse_of (v r)) v)
      here = agree_trans (terms_agree R (monic R v)) (subst (λ o. Agree R R.n (monic_by R v o) (scale (R.inverse_of (v r)) v)) (sym e) (agree_refl R R.n _))

  -- 1 isn't 0 where there is a lead
  pub one_is : (v : Vector) (r : ℕ) → IsLead R v r → Same R.p 1 0 → ⊥
  one_is v r i z = i.some (same_trans (same_of _ _ _ (omega arith)) (same_trans (same_times (v r) z) (same_of _ _ _ (omega arith))))

  -- and begin with the lead
  pub monic_first : (v : Vector) (r : ℕ) → lead R v ≡ Some r → lead_rank (terms_of R (monic R v)) ≡ r
  monic_first v r e = first_is_lead R (monic R v) r (subst (λ o. lead R (monic_by R v o) ≡ Some r) (sym e) (lead_is R (scale (R.inverse_of (v r)) v) r (record {
    small = i.small;
    low = record { at = λ x l. same_trans (same_times (R.inverse_of (v r)) (i.low.at x l)) (same_of _ _ _ (omega arith)) };
    some = λ z. one_is v r i (same_trans (same_sym (inverse_same R L (v r) i.some)) z);
  })))
    where
      i : IsLead R v r
      i = lead_some R v r e

-- vectors that agree have the same terms of some ranks
same_from : (R : Ranks) (v u : Vector) (left r : ℕ) → r + left ≤ R.n → Agree R R.n v u → terms_from R left r v ≡ terms_from R left r u
same_from R v u zero r l h = refl
same_from R v u (suc left) r l h =
    ap (λ b. term_by r (v r % R.p) (terms_from R left (suc r) v) b) (ap (λ z. eqb z 0) (h.at r (omega arith)).eq)
    ∙ ap₂ (λ c ts. term_by r c ts (is_none_at R u r)) (h.at r (omega arith)).eq (same_from R v u left (suc r) (omega arith) h)

-- so they have the same terms
pub terms_same : (R : Ranks) (v u : Vector) → Agree R R.n v u → terms_of R v ≡ terms_of R u
terms_same R v u h = terms_walk R v ∙ same_from R v u R.n 0 (omega arith) h ∙ sym (terms_walk R u)

-- the terms of a list of terms by rank are these terms
pub terms_again : (R : Ranks) (v : Vector) → terms_of R (vector_of_terms (terms_of R v)) ≡ terms_of R v
terms_again R v = terms_same R (vector_of_terms (terms_of R v)) v (terms_agree R v)
