-- A member of the basis by its map: the terms of the entry, without the lead, divided, and with the lead again.
-- One coefficient changes by a number, and the vector changes there by the same.
use Rattle.std.proofs.Common.{◌≡◌, ℕ, ◌+◌, ◌*◌, ◌-◌, ◌%◌, ◌<◌, List, Bool, true, false, cond, eqb, refl, sym, ◌∙◌, ap, subst, arith}
use Rattle.std.proofs.Math.Nat
use Rattle.std.proofs.lemmas.Bool.{eq-eqb, ne_eqb, eqb-true, eqb-false}
use Rattle.sparse_poly.specs.Ideal.{Problem, IsProblem}
use Rattle.entry_code.specs.declared.term.Term.{Term}
use Rattle.entry_code.specs.Terms.{vector_of_terms}
use Rattle.rank_algebra.specs.Vector.{Same, Vector, nothing, monomial, add, shift, less, Agree}
use Rattle.rank_algebra.specs.Division.{remainder, corner_of}
use Rattle.rank_algebra.proofs.Residues.{same_refl, same_of, same_trans, same_add, same_mod}
use Rattle.rank_algebra.proofs.Linear.{agree_of, agree_trans, shift_unit}
use Rattle.rank_algebra.proofs.Division.{remainder_agree}
use Rattle.mora_law.specs.Ring.{ranks_of_problem}
use Rattle.mora_law.specs.Entries.{terms_of, basis_of}
use Rattle.mora_law.specs.Basis.{tidied}
use Rattle.entry_code.specs.Entry.{Entry}
use Rattle.mora_law.proofs.Ring.{ranks_p, ranks_are, problem_is_admissible}
use Rattle.mora_law.proofs.Terms.{terms_same}
use Rattle.cert_check.specs.Sparse.{IsClean, AreInRing}
use Rattle.cert_check.proofs.Leaves.{corner_within}
use Rattle.cert_check.proofs.Starts.{positive, pair_is}
use Rattle.cert_check.proofs.WrittenTerms.{terms_back}

-- u' is u with c added at the rank l
pub record IsAdded (P : Problem) (l c : ℕ) (u u' : Vector) : Type 0 where
  pub is : (r : ℕ) → u' r ≡ cond (eqb l r) ((u r + c) % P.p) (u r)

-- as a map adds it
pub added_by : (P : Problem) (l c p : ℕ) (u u' : Vector) → p ≡ P.p → ((r : ℕ) → u' r ≡ cond (eqb l r) ((u r + c) % p) (u r)) → IsAdded P l c u u'
added_by P l c p u u' e s = record { is = λ r. s r ∙ ap (λ q. cond (eqb l r) ((u r + c) % q) (u r)) e }

module _ (P : Problem) (h : IsProblem P) where
  -- the multiple by the monomial of rank 0 is the vector itself
  pub unit_agree : (v : Vector) → Agree (ranks_of_problem P) (ranks_of_problem P).n (shift (ranks_of_problem P) 0 v) v
  unit_agree v = agree_of (ranks_of_problem P) (ranks_of_problem P).n (shift (ranks_of_problem P) 0 v) v (λ r l. shift_unit (ranks_of_problem P) (ranks_are P (problem_is_admissible P h)) v r l)

  -- 0 less -1 times f is f
  pub copied : (f h0 h1 : Vector) (c : ℕ) → c ≡ (P.p - 1) % P.p → ((r : ℕ) → h0 r ≡ 0) → Agree (ranks_of_problem P) (ranks_of_problem P).n h1 (less (ranks_of_problem P) c f h0) → Agree (ranks_of_problem P) (ranks_of_problem P).n h1 f
  copied f h0 h1 c e z a =
      agree_trans (pair_is P h (ranks_of_problem P).n f nothing h0 h1 h1 c e z a (agree_of (ranks_of_problem P) (ranks_of_problem P).n h1 (less (ranks_of_problem P) 1 nothing h1) (λ r l. gone (h1 r) ((ranks_of_problem P).p - 1))))
      (agree_of (ranks_of_problem P) (ranks_of_problem P).n (less (ranks_of_problem P) 1 nothing f) f (λ r l. sym (gone (f r) ((ranks_of_problem P).p - 1))))
    where
      gone : (x m : ℕ) → x ≡ x + m * 1 * 0
      gone x m = omega arith

  -- coefficients stay residues of the ring
  pub added_clean : (l c : ℕ) (u u' : Vector) → l < (ranks_of_problem P).n → IsAdded P l c u u' → IsClean P u → IsClean P u'
  added_clean l c u u' m s clean = record {
    residue = λ r. subst (λ x. x < P.p) (sym (s.is r)) (choice r (eqb l r));
    within = λ r k. s.is r ∙ ap (λ b. cond b ((u r + c) % P.p) (u r)) (ne_eqb l r (λ z. omega (arith, z, k, m))) ∙ clean.within r k;
  }
    where
      choice : (r : ℕ) (b : Bool) → cond b ((u r + c) % P.p) (u r) < P.p
      choice r true = Nat.mod-lt (u r + c) (positive P h)
      choice r false = clean.residue r

  -- what is added at the rank is added to the vector
  added_agree : (l c : ℕ) (u u' v w : Vector) → IsAdded P l c u u' → Agree (ranks_of_problem P) (ranks_of_problem P).n u v → ((r : ℕ) → v r + cond (eqb l r) c 0 ≡ w r) → Agree (ranks_of_problem P) (ranks_of_problem P).n u' w
  added_agree l c u u' v w s a e = record { at = λ r m. same_trans (same_of _ _ _ (s.is r)) (same_trans (by r m (eqb l r)) (same_of _ _ _ (e r))) }
    where
      by_mod : (x : ℕ) → Same (ranks_of_problem P).p (x % P.p) x
      by_mod x = subst (λ p. Same (ranks_of_problem P).p (x % p) x) (ranks_p P) (same_mod (ranks_of_problem P).p x)

      by : (r : ℕ) → r < (ranks_of_problem P).n → (b : Bool) → Same (ranks_of_problem P).p (cond b ((u r + c) % P.p) (u r)) (v r + cond b c 0)
      by r m true = same_trans (by_mod (u r + c)) (same_add (a.at r m) (same_refl _ c))
      by r m false = same_trans (a.at r m) (same_of _ _ _ (let z : v r ≡ v r + 0 = omega arith in z))

  -- the lead is taken out
  pub taken_out : (l c : ℕ) (u u' v : Vector) → c ≡ (P.p - 1) % P.p → IsAdded P l c u u' → Agree (ranks_of_problem P) (ranks_of_problem P).n u v → Agree (ranks_of_problem P) (ranks_of_problem P).n u' (less (ranks_of_problem P) 1 (monomial l) v)
  taken_out l c u u' v e s a = added_agree l c u u' v (less (ranks_of_problem P) 1 (monomial l) v) s a (λ r. by r (eqb l r) refl)
    where
      minus : c ≡ (ranks_of_problem P).p - 1
      minus = e ∙ Nat.mod-eq_of_lt (let z = positive P h in omega (arith, z)) ∙ ap (λ p. p - 1) (sym (ranks_p P))

      there : (x c m : ℕ) → c ≡ m → x + c ≡ x + m * 1 * 1
      there x c m e = omega (arith, e)

      gone : (x m : ℕ) → x + 0 ≡ x + m * 1 * 0
      gone x m = omega arith

      by : (r : ℕ) (b : Bool) → eqb l r ≡ b → v r + cond b c 0 ≡ v r + ((ranks_of_problem P).p - 1) * 1 * cond (eqb r l) 1 0
      by r true g = there (v r) c ((ranks_of_problem P).p - 1) minus ∙ ap (λ b. v r + ((ranks_of_problem P).p - 1) * 1 * cond b 1 0) (sym (eq-eqb r l (sym (eqb-true l r g))))
      by r false g = gone (v r) ((ranks_of_problem P).p - 1) ∙ ap (λ b. v r + ((ranks_of_problem P).p - 1) * 1 * cond b 1 0) (sym (ne_eqb r l (λ z. eqb-false l r g (sym z))))

  -- and put in
  pub put_in : (l : ℕ) (u u' v : Vector) → IsAdded P l 1 u u' → Agree (ranks_of_problem P) (ranks_of_problem P).n u v → Agree (ranks_of_problem P) (ranks_of_problem P).n u' (add (monomial l) v)
  put_in l u u' v s a = added_agree l 1 u u' v (add (monomial l) v) s a (λ r. by r (eqb l r) refl)
    where
      by : (r : ℕ) (b : Bool) → eqb l r ≡ b → v r + cond b 1 0 ≡ cond (eqb r l) 1 0 + v r
      by r true g = (let z : v r + 1 ≡ 1 + v r = omega arith in z) ∙ ap (λ b. cond b 1 0 + v r) (sym (eq-eqb r l (sym (eqb-true l r g))))
      by r false g = (let z : v r + 0 ≡ 0 + v r = omega arith in z) ∙ ap (λ b. cond b 1 0 + v r) (sym (ne_eqb r l (λ z. eqb-false l r g (sym z))))

  module _ (entries : List Entry) (k l w : ℕ) (lead : l ≡ (basis_of entries).lead k) (lowest : w ≡ corner_of (ranks_of_problem P) (basis_of entries)) where
    -- without the lead, divided, and with it again it is the member of the basis
    pub tidied_is : (u2 u3 u4 : Vector) → Agree (ranks_of_problem P) (ranks_of_problem P).n u2 (less (ranks_of_problem P) 1 (monomial l) ((basis_of entries).member k))
        → Agree (ranks_of_problem P) (ranks_of_problem P).n u3 (remainder (ranks_of_problem P) (basis_of entries) w u2) → IsAdded P l 1 u3 u4
        → Agree (ranks_of_problem P) (ranks_of_problem P).n u4 (tidied (ranks_of_problem P) (basis_of entries) k)
    tidied_is u2 u3 u4 a d s = subst (λ x. Agree (ranks_of_problem P) (ranks_of_problem P).n u4 (add (monomial x) (remainder (ranks_of_problem P) (basis_of entries) (corner_of (ranks_of_problem P) (basis_of entries)) (less (ranks_of_problem P) 1 (monomial x) ((basis_of entries).member k))))) lead
        (put_in l u3 u4 _ s (agree_trans (subst (λ x. Agree (ranks_of_problem P) (ranks_of_problem P).n u3 (remainder (ranks_of_problem P) (basis_of entries) x u2)) lowest d)
        (remainder_agree (ranks_of_problem P) (basis_of entries) (corner_of (ranks_of_problem P) (basis_of entries)) 0 u2 _ (let z = corner_within P (problem_is_admissible P h) entries in omega (arith, z)) a)))

-- so its terms are those of the member
pub terms_are : (P : Problem) (ts : List Term) (u v : Vector) → AreInRing P ts → ((r : ℕ) → vector_of_terms ts r ≡ u r) → Agree (ranks_of_problem P) (ranks_of_problem P).n u v → ts ≡ terms_of (ranks_of_problem P) v
terms_are P ts u v s e a = sym (terms_back P ts s) ∙ terms_same (ranks_of_problem P) (vector_of_terms ts) v (agree_trans (agree_of (ranks_of_problem P) (ranks_of_problem P).n (vector_of_terms ts) u (λ r l. e r)) a)
