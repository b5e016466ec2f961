-- The choice of a reducer, from the last candidate to the first.
-- A candidate is chosen over what is chosen behind it unless that has a lesser ecart.
use Rattle.std.proofs.Common.{◌≡◌, ℕ, suc, ◌-◌, ◌<◌, ◌≤◌, List, [], ◌∷◌, length, get_or, drop, slice_get, nat_le, ◌⊎◌, inl, inr, Option, Some, None, refl, sym, ◌∙◌, ap, arith}
use Rattle.std.proofs.Math.Seq.{drop-cons}
use Rattle.std.proofs.lemmas.Bool.{cases_lt, le-leb, lt-leb}
use Rattle.std.proofs.lemmas.Option.{slice_get-get_or}
use Rattle.sparse_poly.specs.Ideal.{Problem}
use Rattle.entry_code.specs.declared.term.Term.{Term}
use Rattle.entry_code.specs.Placed.{Placed}
use Rattle.rank_algebra.specs.Vector.{Vector}
use Rattle.rank_algebra.specs.Ideal.{IsLead}
use Rattle.mora_law.specs.Ring.{ranks_of_problem, IsAdmissible}
use Rattle.mora_law.specs.Lead.{ecart}
use Rattle.mora_law.specs.Step.{Reducer, reducer, reducer_at, reducer_by, better, better_by, firsts}
use Rattle.mora_law.specs.Entries.{lead_rank}
use Rattle.entry_code.specs.Terms.{vector_of_terms}
use Rattle.mora_law.proofs.Choice.{lead_is}
use Rattle.cert_check.specs.declared.choice.Place.{Place}
use Rattle.cert_check.specs.declared.choice.Choice.{Choice}
use Rattle.cert_check.specs.Sparse.{AreStored}
use Rattle.cert_check.specs.Replay.{no_terms, vectors_of, reducer_with, IsChosen, HasLessEcart}
use Rattle.cert_check.proofs.Ends.{stored_ends}

-- the first term has the rank of the lead
pub first_rank : (ts : List Term) (t : Term) → slice_get ts 0 ≡ Some t → lead_rank ts ≡ t.rank
first_rank [] t e = absurd (cc e)
first_rank (u ∷ ts) t e = let z : u ≡ t = cc e in ap (λ (x : Term). x.rank) z

module _ (P : Problem) (h : IsAdmissible P) where
  -- the first term of stored terms is their lead
  pub stored_lead : (ts : List Term) → AreStored P ts → IsLead (ranks_of_problem P) (vector_of_terms ts) (lead_rank ts)
  stored_lead [] s = absurd (omega (arith, s.some))
  stored_lead (t ∷ ts) s = (stored_ends P h (t ∷ ts) s (length ts) (get_or (t ∷ ts) (length ts) t) refl (slice_get-get_or (t ∷ ts) (length ts) t (omega arith))).lead

  module _ (r : ℕ) (ts : List Term) (s : AreStored P ts) where
    -- stored terms are a reducer where their lead divides
    by_lead : reducer (ranks_of_problem P) r (vector_of_terms ts) ≡ reducer_by (vector_of_terms ts) (lead_rank ts) ((ranks_of_problem P).quotient r (lead_rank ts))
    by_lead = ap (reducer_at (ranks_of_problem P) r (vector_of_terms ts)) (lead_is (ranks_of_problem P) (vector_of_terms ts) (lead_rank ts) (stored_lead ts s))

    -- with the quotient as cofactor
    pub reducer_is : (q : ℕ) → (ranks_of_problem P).quotient r (lead_rank ts) ≡ Some q → reducer (ranks_of_problem P) r (vector_of_terms ts) ≡ Some (reducer_with ts q)
    reducer_is q e = by_lead ∙ ap (reducer_by (vector_of_terms ts) (lead_rank ts)) e

    -- else what was chosen behind them stays
    pub better_none : (c : Option Reducer) → (ranks_of_problem P).quotient r (lead_rank ts) ≡ None → better (ranks_of_problem P) (reducer (ranks_of_problem P) r (vector_of_terms ts)) c ≡ c
    better_none c e = ap (λ o. better (ranks_of_problem P) o c) (by_lead ∙ ap (reducer_by (vector_of_terms ts) (lead_rank ts)) e)

    module _ (q : ℕ) (e : (ranks_of_problem P).quotient r (lead_rank ts) ≡ Some q) (known kept : ℕ) (at : Place → List Term) where
      -- the two compared, where both are told
      compared : (b : Reducer) → better (ranks_of_problem P) (reducer (ranks_of_problem P) r (vector_of_terms ts)) (Some b)
          ≡ better_by (reducer_with ts q) b (nat_le (ecart (ranks_of_problem P) (vector_of_terms ts)) (ecart (ranks_of_problem P) b.poly))
      compared b = ap (λ o. better (ranks_of_problem P) o (Some b)) (reducer_is q e)

      -- what was chosen behind them stays where it has a lesser ecart
      pub better_behind : (best : Option Choice) (c : Option Reducer) → HasLessEcart best (ecart (ranks_of_problem P) (vector_of_terms ts)) → IsChosen (ranks_of_problem P) known kept at best c
          → better (ranks_of_problem P) (reducer (ranks_of_problem P) r (vector_of_terms ts)) c ≡ c
      better_behind None c less x = absurd less
      better_behind (Some y) c less x =
          ap (better (ranks_of_problem P) (reducer (ranks_of_problem P) r (vector_of_terms ts))) x.0
          ∙ compared (reducer_with (at y.place) y.cofactor)
          ∙ ap (better_by (reducer_with ts q) (reducer_with (at y.place) y.cofactor)) (lt-leb _ _ (omega (arith, less, x.1.ecart)))
          ∙ sym x.0

      -- and else they are chosen
      pub better_front : (best : Option Choice) (c : Option Reducer) → (HasLessEcart best (ecart (ranks_of_problem P) (vector_of_terms ts)) → ⊥) → IsChosen (ranks_of_problem P) known kept at best c
          → better (ranks_of_problem P) (reducer (ranks_of_problem P) r (vector_of_terms ts)) c ≡ Some (reducer_with ts q)
      better_front None c more x = ap (better (ranks_of_problem P) (reducer (ranks_of_problem P) r (vector_of_terms ts))) x ∙ ap (λ o. better (ranks_of_problem P) o None) (reducer_is q e)
      better_front (Some y) c more x =
          ap (better (ranks_of_problem P) (reducer (ranks_of_problem P) r (vector_of_terms ts))) x.0
          ∙ compared (reducer_with (at y.place) y.cofactor)
          ∙ ap (better_by (reducer_with ts q) (reducer_with (at y.place) y.cofactor)) (le-leb _ _ (not_less (cases_lt y.ecart (ecart (ranks_of_problem P) (vector_of_terms ts)))))
        where
          not_less : (y.ecart < ecart (ranks_of_problem P) (vector_of_terms ts)) ⊎ (ecart (ranks_of_problem P) (vector_of_terms ts) ≤ y.ecart) → ecart (ranks_of_problem P) (vector_of_terms ts) ≤ ecart (ranks_of_problem P) (vector_of_terms (at y.place))
          not_less (inl l) = absurd (more l)
          not_less (inr l) = omega (arith, l, x.1.ecart)

-- ---- candidates one by one
-- the intermediates from a place on
pub kept_from : (kept : List (Placed Term)) (k : ℕ) → k < length kept → vectors_of (drop k kept) ≡ vector_of_terms (get_or kept k no_terms).list ∷ vectors_of (drop (suc k) kept)
kept_from kept k l = ap vectors_of (drop-cons kept k no_terms l)

-- all of them are those from the first place on
pub kept_all : (kept : List (Placed Term)) → drop 0 kept ≡ kept
kept_all [] = refl
kept_all (x ∷ kept) = refl

-- there are none past the last
pub kept_none : (kept : List (Placed Term)) → drop (length kept) kept ≡ []
kept_none [] = refl
kept_none (x ∷ kept) = kept_none kept

-- the vectors from place k on
pub firsts_from : (known k : ℕ) (v : ℕ → Vector) → k < known → firsts (known - k) k v ≡ v k ∷ firsts (known - suc k) (suc k) v
firsts_from known k v l = ap (λ n. firsts n k v) (let z : known - k ≡ suc (known - suc k) = omega (arith, l) in z)
