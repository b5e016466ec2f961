-- Whether terms are those of a vector made monic: subtracting their multiple leaves nothing exactly then.
-- A vector is its monic multiple times its leading coefficient, and the inverse of that takes it back.
use Rattle.std.proofs.Common.{◌≡◌, ℕ, ◌+◌, ◌*◌, ◌-◌, ◌%◌, ◌<◌, ◌≤◌, ◌⊎◌, List, [], length, Option, Some, None, refl, sym, ◌∙◌, ap, subst, arith, inl, inr}
use Rattle.std.proofs.Math.Nat
use Rattle.std.proofs.lemmas.Bool.{cases_lt}
use Rattle.sparse_poly.specs.Ideal.{Problem}
use Rattle.entry_code.specs.declared.term.Term.{Term}
use Rattle.rank_algebra.specs.Ranks.{Ranks}
use Rattle.rank_algebra.specs.Vector.{Same, Vector, nothing, scale, shift, less, Agree}
use Rattle.rank_algebra.specs.Ideal.{IsLead}
use Rattle.rank_algebra.proofs.Residues.{same_refl, same_of, same_sym, same_trans, same_add, same_times, same_mul, same_less}
use Rattle.rank_algebra.proofs.Linear.{agree_of, agree_sym, agree_trans, inverse_same, shift_unit}
use Rattle.rank_algebra.proofs.Echelon.{less_back}
use Rattle.mora_law.specs.Ring.{ranks_of_problem, IsAdmissible}
use Rattle.mora_law.specs.Lead.{lead}
use Rattle.mora_law.specs.Entries.{terms_of, monic, monic_by}
use Rattle.entry_code.specs.Terms.{vector_of_terms}
use Rattle.prime_field.specs.Inverse.{inverse}
use Rattle.mora_law.proofs.Ring.{ranks_p, ranks_inverse, ranks_are}
use Rattle.mora_law.proofs.Alike.{same_lead}
use Rattle.mora_law.proofs.Choice.{lead_some, lead_is}
use Rattle.mora_law.proofs.Terms.{monic_is, terms_same}
use Rattle.cert_check.specs.Sparse.{IsClean, AreInRing, AreStored}
use Rattle.cert_check.proofs.WrittenTerms.{terms_back}
use Rattle.cert_check.proofs.Stepping.{no_lead}

-- a vector of residues that agrees with 0 is 0
pub zero_of_nothing : (P : Problem) (v : Vector) → IsClean P v → Agree (ranks_of_problem P) (ranks_of_problem P).n v nothing → (r : ℕ) → v r ≡ 0
zero_of_nothing P v clean a r = go (cases_lt r (ranks_of_problem P).n)
  where
    go : (r < (ranks_of_problem P).n) ⊎ ((ranks_of_problem P).n ≤ r) → v r ≡ 0
    go (inl l) =
        let e : v r % P.p ≡ 0 % P.p = subst (λ p. v r % p ≡ 0 % p) (ranks_p P) (a.at r l).eq in
        sym (Nat.mod-eq_of_lt (clean.residue r)) ∙ e ∙ Nat.zero-mod P.p
    go (inr l) = clean.within r l

-- and 0 agrees with it
pub nothing_of_zero : (R : Ranks) (v : Vector) → ((r : ℕ) → v r ≡ 0) → Agree R R.n v nothing
nothing_of_zero R v z = agree_of R R.n v nothing (λ r l. z r)

module _ (P : Problem) (h : IsAdmissible P) (ts : List Term) (s : AreStored P ts) (v : Vector) where
  -- terms are some, where a vector of zeros has none
  pub zero_has_none : ((r : ℕ) → v r ≡ 0) → ts ≡ terms_of (ranks_of_problem P) (monic (ranks_of_problem P) v) → ⊥
  zero_has_none z e = absurd (omega (arith, s.some, ap length (e ∙ none)))
    where
      R : Ranks
      R = ranks_of_problem P

      empty : AreInRing P []
      empty = record { rising = tt; ranks = λ k d l. absurd (omega (arith, l)); residues = λ k d l. absurd (omega (arith, l)) }

      none : terms_of (ranks_of_problem P) (monic (ranks_of_problem P) v) ≡ []
      none =
          ap (λ o. terms_of (ranks_of_problem P) (monic_by (ranks_of_problem P) v o)) (no_lead (ranks_of_problem P) v z)
          ∙ terms_same (ranks_of_problem P) v (vector_of_terms []) (agree_of (ranks_of_problem P) (ranks_of_problem P).n v nothing (λ r l. z r))
          ∙ terms_back P [] empty

  module _ (t : Term) (i : IsLead (ranks_of_problem P) v t.rank) (first : v t.rank ≡ t.coef) (u : Vector)
      (a : Agree (ranks_of_problem P) (ranks_of_problem P).n u (less (ranks_of_problem P) t.coef (shift (ranks_of_problem P) 0 (vector_of_terms ts)) v)) where
    -- the multiple of the terms themselves
    unit : Agree (ranks_of_problem P) (ranks_of_problem P).n u (less (ranks_of_problem P) t.coef (vector_of_terms ts) v)
    unit = agree_trans a (record { at = λ r l. same_of _ _ _ (ap (λ x. v r + ((ranks_of_problem P).p - 1) * t.coef * x) (shift_unit (ranks_of_problem P) (ranks_are P h) (vector_of_terms ts) r l)) })

    positive : 0 < (ranks_of_problem P).p
    positive = (ranks_are P h).prime_pos

    -- where they are those of the monic multiple, nothing is left
    pub monic_leaves : ts ≡ terms_of (ranks_of_problem P) (monic (ranks_of_problem P) v) → Agree (ranks_of_problem P) (ranks_of_problem P).n u nothing
    monic_leaves e = agree_trans unit (record { at = λ r l. same_trans (same_add (back r l) (same_refl _ _)) (gone (vector_of_terms ts r)) })
      where
        back : (r : ℕ) → r < (ranks_of_problem P).n → Same (ranks_of_problem P).p (v r) (t.coef * vector_of_terms ts r)
        back r l = same_trans ((monic_is (ranks_of_problem P) (ranks_are P h) v t.rank (lead_is (ranks_of_problem P) v t.rank i)).back.at r l)
            (same_of _ _ _ (ap (λ us. v t.rank * vector_of_terms us r) (sym e) ∙ ap (λ x. x * vector_of_terms ts r) first))

        gone : (x : ℕ) → Same (ranks_of_problem P).p (t.coef * x + ((ranks_of_problem P).p - 1) * t.coef * x) 0
        gone x = same_trans (same_of _ _ _ (let q : t.coef * x + ((ranks_of_problem P).p - 1) * t.coef * x ≡ t.coef * x + ((ranks_of_problem P).p - 1) * (t.coef * x) = omega arith in q)) (same_less (ranks_of_problem P).p (t.coef * x) positive)

    -- and where nothing is left they are
    pub leaves_monic : Agree (ranks_of_problem P) (ranks_of_problem P).n u nothing → ts ≡ terms_of (ranks_of_problem P) (monic (ranks_of_problem P) v)
    leaves_monic z = sym (terms_back P ts s.terms) ∙ terms_same (ranks_of_problem P) (vector_of_terms ts) (monic (ranks_of_problem P) v) is
      where
        whole : Agree (ranks_of_problem P) (ranks_of_problem P).n v (scale t.coef (vector_of_terms ts))
        whole = agree_trans (less_back (ranks_of_problem P) (ranks_are P h) (ranks_of_problem P).n t.coef (vector_of_terms ts) v)
            (record { at = λ r l. same_trans (same_add ((agree_trans (agree_sym unit) z).at r l) (same_refl _ _)) (same_of _ _ _ (let q : 0 + t.coef * vector_of_terms ts r ≡ t.coef * vector_of_terms ts r = omega arith in q)) })

        turn : (r : ℕ) → r < (ranks_of_problem P).n → Same (ranks_of_problem P).p (vector_of_terms ts r) ((ranks_of_problem P).inverse_of (v t.rank) * v r)
        turn r l = same_sym (same_trans (same_times ((ranks_of_problem P).inverse_of (v t.rank)) (whole.at r l))
            (same_trans (same_of _ _ _ (swap ((ranks_of_problem P).inverse_of (v t.rank)) t.coef (v t.rank) (vector_of_terms ts r) first))
            (same_trans (same_times (vector_of_terms ts r) (inverse_same (ranks_of_problem P) (ranks_are P h) (v t.rank) i.some)) (same_of _ _ _ (let q : vector_of_terms ts r * 1 ≡ vector_of_terms ts r = omega arith in q)))))
          where
            swap : (x c y z : ℕ) → y ≡ c → x * (c * z) ≡ z * (x * y)
            swap x c y z e = ap (λ w. x * (w * z)) (sym e) ∙ omega arith

        is : Agree (ranks_of_problem P) (ranks_of_problem P).n (vector_of_terms ts) (monic (ranks_of_problem P) v)
        is = subst (λ o. Agree (ranks_of_problem P) (ranks_of_problem P).n (vector_of_terms ts) (monic_by (ranks_of_problem P) v o)) (sym (lead_is (ranks_of_problem P) v t.rank i)) (record { at = turn })

-- vectors that agree have the same terms when they are made monic
pub monic_alike : (P : Problem) (v u : Vector) → Agree (ranks_of_problem P) (ranks_of_problem P).n v u → terms_of (ranks_of_problem P) (monic (ranks_of_problem P) v) ≡ terms_of (ranks_of_problem P) (monic (ranks_of_problem P) u)
monic_alike P v u a = terms_same (ranks_of_problem P) (monic (ranks_of_problem P) v) (monic (ranks_of_problem P) u)
    (subst (λ o. Agree (ranks_of_problem P) (ranks_of_problem P).n (monic_by (ranks_of_problem P) v (lead (ranks_of_problem P) v)) (monic_by (ranks_of_problem P) u o)) (same_lead (ranks_of_problem P) v u a) (go (lead (ranks_of_problem P) v) refl))
  where
    go : (o : Option ℕ) → lead (ranks_of_problem P) v ≡ o → Agree (ranks_of_problem P) (ranks_of_problem P).n (monic_by (ranks_of_problem P) v o) (monic_by (ranks_of_problem P) u o)
    go None e = a
    go (Some r) e = record { at = λ x l. same_mul (same_of _ _ _ inverse_same_of) (a.at x l) }
      where
        inverse_same_of : (ranks_of_problem P).inverse_of (v r) ≡ (ranks_of_problem P).inverse_of (u r)
        inverse_same_of =
            ranks_inverse P (v r)
            ∙ ap (inverse P.p) (subst (λ p. v r % p ≡ u r % p) (ranks_p P) (a.at r (lead_some (ranks_of_problem P) v r e).small).eq)
            ∙ sym (ranks_inverse P (u r))
