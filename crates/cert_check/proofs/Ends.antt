-- The lead and the ecart of a vector by the ranks of its first and its last term.
-- Ranks go by degree, so the last term has the greatest degree.
use Rattle.std.proofs.Common.{◌≡◌, ℕ, suc, ◌-◌, ◌%◌, ◌<◌, ◌≤◌, ◌⊎◌, List, [], ◌∷◌, length, get_or, slice_get, Some, Bool, true, false, refl, sym, ◌∙◌, ap, subst, arith, inl, inr}
use Rattle.std.specs.Prelude.{not}
use Rattle.std.specs.Option.{unwrap_or, option_map}
use Rattle.std.proofs.lemmas.Bool.{cases_lt}
use Rattle.std.proofs.lemmas.Option.{get_or_from_slice_get}
use Rattle.std.proofs.Math.Nat
use Rattle.sparse_poly.specs.Ideal.{Problem}
use Rattle.entry_code.specs.declared.term.Term.{Term}
use Rattle.mono_rank.proofs.Numbers.{ds_is_degree_order}
use Rattle.rank_algebra.specs.Ranks.{Ranks}
use Rattle.rank_algebra.specs.Vector.{Same, Vector, nothing}
use Rattle.rank_algebra.specs.Ideal.{IsLead}
use Rattle.rank_algebra.proofs.Residues.{same_of}
use Rattle.rank_algebra.proofs.Linear.{agree_of}
use Rattle.rank_algebra.proofs.Searches.{greatest_low, greatest_high}
use Rattle.mora_law.specs.Ring.{numbering_of, ranks_of_problem, IsAdmissible}
use Rattle.mora_law.specs.Lead.{is_none_at, top_degree, ecart}
use Rattle.mora_law.specs.Entries.{lead_rank}
use Rattle.entry_code.specs.Terms.{vector_of_terms}
use Rattle.mora_law.proofs.Ring.{ranks_p, ranks_count, ranks_degree}
use Rattle.mora_law.proofs.Choice.{lead_is, none_same, some_same}
use Rattle.mora_law.proofs.Divisors.{above_by_rank}
use Rattle.cert_check.specs.Sparse.{IsFirstTerm, IsLastRank, IsClean, AreStored}
use Rattle.cert_check.proofs.TermVectors.{coef_there, past_last, first_none}

-- v has a lead and a last term at these ranks
pub record HasEnds (R : Ranks) (v : Vector) (low last : ℕ) : Type 0 where
  pub lead : IsLead R v low
  pub within : last < R.n
  pub some : Same R.p (v last) 0 → ⊥
  pub past : (x : ℕ) → last < x → x < R.n → Same R.p (v x) 0

module _ (P : Problem) (h : IsAdmissible P) where
  -- degrees don't fall as ranks rise
  degree_rises : (x y : ℕ) → x ≤ y → y < (ranks_of_problem P).n → (ranks_of_problem P).degree x ≤ (ranks_of_problem P).degree y
  degree_rises x y l m = go (cases_lt x y)
    where
      go : (x < y) ⊎ (y ≤ x) → (ranks_of_problem P).degree x ≤ (ranks_of_problem P).degree y
      go (inl k) =
          let above = above_by_rank P h x y k (omega (arith, m, ranks_count P)) in
          let low = (ds_is_degree_order P.n).degrees ((numbering_of P).mono x) ((numbering_of P).mono y) above in
          omega (arith, low, ranks_degree P x, ranks_degree P y)
      go (inr k) = let z : x ≡ y = omega (arith, l, k) in omega (arith, ap (ranks_of_problem P).degree z)

  -- the greatest degree is that of the last term
  top_is : (v : Vector) (low last : ℕ) → HasEnds (ranks_of_problem P) v low last → top_degree (ranks_of_problem P) v ≡ (ranks_of_problem P).degree last
  top_is v low last e = omega (arith, below, above)
    where
      R : Ranks
      R = ranks_of_problem P

      test : ℕ → Bool
      test k = not (is_none_at (ranks_of_problem P) v k)

      bound : (k : ℕ) → k < (ranks_of_problem P).n → not (is_none_at (ranks_of_problem P) v k) ≡ true → (last < k) ⊎ (k ≤ last) → (ranks_of_problem P).degree k ≤ (ranks_of_problem P).degree last
      bound k l f (inl m) = absurd (go (is_none_at (ranks_of_problem P) v k) refl f)
        where
          go : (b : Bool) → is_none_at (ranks_of_problem P) v k ≡ b → not b ≡ true → ⊥
          go true g z = absurd (cc z)
          go false g z = some_same (ranks_of_problem P).p (v k) g (e.past k m l)
      bound k l f (inr m) = degree_rises k last m e.within

      below : top_degree (ranks_of_problem P) v ≤ (ranks_of_problem P).degree last
      below = greatest_low (λ k. not (is_none_at (ranks_of_problem P) v k)) (ranks_of_problem P).degree ((ranks_of_problem P).degree last) 0 0 (ranks_of_problem P).n (omega arith)
          (λ k l m f. bound k (omega (arith, m)) f (cases_lt last k))

      there : (b : Bool) → is_none_at (ranks_of_problem P) v last ≡ b → not b ≡ true
      there true g = absurd (e.some (none_same (ranks_of_problem P).p (v last) g))
      there false g = refl

      above : (ranks_of_problem P).degree last ≤ top_degree (ranks_of_problem P) v
      above = greatest_high (λ k. not (is_none_at (ranks_of_problem P) v k)) (ranks_of_problem P).degree 0 0 (ranks_of_problem P).n last (omega arith) (omega (arith, e.within)) (there (is_none_at (ranks_of_problem P) v last) refl)

  -- the ecart is the difference of the degrees at both ends
  pub ecart_by_ends : (v : Vector) (low last : ℕ) → HasEnds (ranks_of_problem P) v low last → ecart (ranks_of_problem P) v ≡ (ranks_of_problem P).degree last - (ranks_of_problem P).degree low
  unfolding ecart
  ecart_by_ends v low last e =
      ap (λ o. unwrap_or (option_map (λ r. top_degree (ranks_of_problem P) v - (ranks_of_problem P).degree r) o) 0) (lead_is (ranks_of_problem P) v low e.lead)
      ∙ ap (λ t. t - (ranks_of_problem P).degree low) (top_is v low last e)

  -- the lead has no greater degree than the last term
  pub ends_rise : (v : Vector) (low last : ℕ) → HasEnds (ranks_of_problem P) v low last → (ranks_of_problem P).degree low ≤ (ranks_of_problem P).degree last
  ends_rise v low last e = go (cases_lt last low)
    where
      go : (last < low) ⊎ (low ≤ last) → (ranks_of_problem P).degree low ≤ (ranks_of_problem P).degree last
      go (inl l) = absurd (e.some (e.lead.low.at last l))
      go (inr l) = degree_rises low last l e.within

  -- a residue that isn't 0 doesn't stand for 0
  pub residue_some : (c : ℕ) → 0 < c → c < P.p → Same (ranks_of_problem P).p c 0 → ⊥
  residue_some c l m z =
      let e : c % P.p ≡ 0 % P.p = subst (λ p. c % p ≡ 0 % p) (ranks_p P) z.eq in
      absurd (omega (arith, l, e, Nat.mod-eq_of_lt m, Nat.zero-mod P.p))

  -- the ends of stored terms
  pub stored_ends : (ts : List Term) → AreStored P ts → (k : ℕ) (last : Term) → suc k ≡ length ts → slice_get ts k ≡ Some last → HasEnds (ranks_of_problem P) (vector_of_terms ts) (lead_rank ts) last.rank
  stored_ends [] s k last q e = absurd (omega (arith, s.some))
  stored_ends (t ∷ ts) s k last q e = record {
    lead = record {
      small = s.terms.ranks 0 t (omega arith);
      low = agree_of (ranks_of_problem P) t.rank (vector_of_terms (t ∷ ts)) nothing (λ r l. first_none (t ∷ ts) r s.terms.rising l);
      some = λ z. term_some 0 t (omega arith) z;
    };
    within = subst (λ (x : Term). x.rank < (ranks_of_problem P).n) there (s.terms.ranks k last (omega (arith, q)));
    some = subst (λ (x : Term). Same (ranks_of_problem P).p (vector_of_terms (t ∷ ts) x.rank) 0 → ⊥) there (term_some k last (omega (arith, q)));
    past = λ x l m. same_of (ranks_of_problem P).p _ 0 (past_last (t ∷ ts) k last x s.terms.rising q e l);
  }
    where
      there : get_or (t ∷ ts) k last ≡ last
      there = get_or_from_slice_get (t ∷ ts) k last last e

      term_some : (k : ℕ) (d : Term) → k < length (t ∷ ts) → Same (ranks_of_problem P).p (vector_of_terms (t ∷ ts) (get_or (t ∷ ts) k d).rank) 0 → ⊥
      term_some k d l z =
          let c = coef_there (t ∷ ts) k d s.terms.rising l in
          let b = s.terms.residues k d l in
          residue_some (get_or (t ∷ ts) k d).coef b.0 b.1 (subst (λ x. Same (ranks_of_problem P).p x 0) c z)

  -- a place of a vector of residues that isn't 0 is within the ring
  clean_within : (v : Vector) → IsClean P v → (r : ℕ) → (v r ≡ 0 → ⊥) → r < (ranks_of_problem P).n
  clean_within v clean r n = go (cases_lt r (ranks_of_problem P).n)
    where
      go : (r < (ranks_of_problem P).n) ⊎ ((ranks_of_problem P).n ≤ r) → r < (ranks_of_problem P).n
      go (inl l) = l
      go (inr l) = absurd (n (clean.within r l))

  -- and stands for some residue
  clean_some : (v : Vector) → IsClean P v → (r : ℕ) → (v r ≡ 0 → ⊥) → Same (ranks_of_problem P).p (v r) 0 → ⊥
  clean_some v clean r n = residue_some (v r) (omega (arith, n)) (clean.residue r)

  -- the first term of a vector of residues is its lead
  pub clean_lead : (v : Vector) → IsClean P v → (first : Term) → IsFirstTerm v first → IsLead (ranks_of_problem P) v first.rank
  clean_lead v clean first f = record {
    small = clean_within v clean first.rank (λ z. f.some (sym f.coef ∙ z));
    low = agree_of (ranks_of_problem P) first.rank v nothing f.first;
    some = clean_some v clean first.rank (λ z. f.some (sym f.coef ∙ z));
  }

  -- the ends of a vector of residues whose first and last term are told
  pub clean_ends : (v : Vector) → IsClean P v → (first : Term) (last : ℕ) → IsFirstTerm v first → IsLastRank v last → HasEnds (ranks_of_problem P) v first.rank last
  clean_ends v clean first last f g = record {
    lead = clean_lead v clean first f;
    within = clean_within v clean last g.some;
    some = clean_some v clean last g.some;
    past = λ x l m. same_of (ranks_of_problem P).p _ 0 (g.last x l);
  }
