-- What holds between the terms of a subtraction: the laws of subtracting term by term, at the ranks of a problem.
-- Coefficients stay residues, since each sum is taken modulo p.
use Rattle.std.proofs.Common.{ℕ, List, [], slice_get, Some, take, cond, eqb, Bool, true, false, ◌+◌, ◌*◌, ◌-◌, ◌%◌, ◌<◌, ◌≤◌, ◌≡◌, refl, sym, ◌∙◌, ap, ap₂, subst, arith}
use Rattle.std.proofs.Math.Nat.{mod-lt}
use Rattle.std.proofs.lemmas.Bool.{ne_eqb}
use Rattle.sparse_poly.specs.Ideal.{Problem}
use Rattle.entry_code.specs.declared.term.Term.{Term}
use Rattle.rank_algebra.specs.Vector.{Same, Vector, shift, less}
use Rattle.mora_law.specs.Ring.{ranks_of_problem, IsAdmissible}
use Rattle.mora_law.proofs.Ring.{ranks_are, ranks_p}
use Rattle.entry_code.specs.Terms.{vector_of_terms}
use Rattle.cert_check.specs.Sparse.{AreRisingTerms, IsClean}
use Rattle.cert_check.proofs.Subtracted.{IsSubtracted, none_yet, rest_out, one_term}

-- u is clean; below w it is v less the multiple of these terms, and from w on it is v
pub record IsSoFar (P : Problem) (f a w : ℕ) (v : Vector) (ts : List Term) (u : Vector) : Type 0 where
  pub clean : IsClean P u
  pub value : (r : ℕ) → r < w → r < (ranks_of_problem P).n → Same P.p (u r) (less (ranks_of_problem P) f (shift (ranks_of_problem P) a (vector_of_terms ts)) v r)
  pub rest : (r : ℕ) → w ≤ r → u r ≡ v r

module _ (P : Problem) (h : IsAdmissible P) (f a w : ℕ) (v : Vector) where
  -- by the ranks of the problem
  to_ranks : (ts : List Term) (u : Vector) → IsSoFar P f a w v ts u → IsSubtracted (ranks_of_problem P) (ranks_are P h) f a w v ts u
  to_ranks ts u s = record { value = λ r rw rn. subst (λ p. Same p (u r) (less (ranks_of_problem P) f (shift (ranks_of_problem P) a (vector_of_terms ts)) v r)) (sym (ranks_p P)) (s.value r rw rn); rest = s.rest }

  -- and the other way round
  from_ranks : (ts : List Term) (u : Vector) → IsClean P u → IsSubtracted (ranks_of_problem P) (ranks_are P h) f a w v ts u → IsSoFar P f a w v ts u
  from_ranks ts u clean s = record { clean = clean; value = λ r rw rn. subst (λ p. Same p (u r) (less (ranks_of_problem P) f (shift (ranks_of_problem P) a (vector_of_terms ts)) v r)) (ranks_p P) (s.value r rw rn); rest = s.rest }

  -- at the beginning nothing is subtracted
  pub none_so_far : IsClean P v → IsSoFar P f a w v [] v
  none_so_far clean = from_ranks [] v clean (none_yet (ranks_of_problem P) (ranks_are P h) f a w v v (λ r. refl))

  module _ (ts : List Term) (rising : AreRisingTerms ts) (k : ℕ) (t : Term) (there : slice_get ts k ≡ Some t) where
    -- the rest is left out
    pub rest_left_out : (u : Vector) → IsSoFar P f a w v (take k ts) u →
        ((ranks_of_problem P).times a t.rank < (ranks_of_problem P).n → w ≤ (ranks_of_problem P).times a t.rank) → IsSoFar P f a w v ts u
    rest_left_out u s out = from_ranks ts u s.clean (rest_out (ranks_of_problem P) (ranks_are P h) f a w v ts rising k t there u (to_ranks (take k ts) u s) out)

    -- one more term
    pub one_more_term : f < P.p → (u u' : Vector) (x at : ℕ) → (ranks_of_problem P).times a t.rank ≡ at → at < (ranks_of_problem P).n → at < w →
        IsSoFar P f a w v (take k ts) u → x ≡ ((P.p - f) % P.p * t.coef) % P.p →
        ((r : ℕ) → u' r ≡ cond (eqb at r) ((u r + x) % P.p) (u r)) → IsSoFar P f a w v (take (k + 1) ts) u'
    one_more_term fp u u' x at is an aw s e step = from_ranks (take (k + 1) ts) u' clean
        (one_term (ranks_of_problem P) (ranks_are P h) f a w v ts rising k t there (omega (arith, fp, ranks_p P)) u u' at is an aw (to_ranks (take k ts) u s)
        (λ r. step r ∙ ap₂ (λ p y. cond (eqb at r) ((u r + y) % p) (u r)) (sym (ranks_p P)) (e ∙ ap (λ p. ((p - f) % p * t.coef) % p) (sym (ranks_p P)))))
      where
        residue : (r : ℕ) (b : Bool) → cond b ((u r + x) % P.p) (u r) < P.p
        residue r true = mod-lt (u r + x) (omega (arith, h.prime.two_up))
        residue r false = s.clean.residue r

        clean : IsClean P u'
        clean = record {
          residue = λ r. subst (λ y. y < P.p) (sym (step r)) (residue r (eqb at r));
          within = λ r m. step r ∙ ap (λ b. cond b ((u r + x) % P.p) (u r)) (ne_eqb at r (λ z. omega (arith, z, m, an))) ∙ s.clean.within r m;
        }
