-- Division goes over the ranks below the corner upwards: at each a row keeps the residues of what the definition has there.
-- Where nothing is to be removed nothing changes; from the corner on all is dropped in the end.
use Rattle.std.proofs.Common.{◌≡◌, ℕ, zero, suc, ◌+◌, ◌-◌, ◌<◌, ◌≤◌, ◌⊎◌, List, get_or, Option, Some, None, cond, sym, ◌∙◌, ap, subst, arith, inl, inr}
use Rattle.std.proofs.lemmas.Bool.{cases_lt, lt-ltb, le-ltb}
use Rattle.local_order.specs.Shape.{Shape, count}
use Rattle.sparse_poly.specs.Shape.{shape_of}
use Rattle.sparse_poly.specs.Ideal.{Problem}
use Rattle.mono_rank.specs.Rows.{SubtractsMultiple}
use Rattle.rank_algebra.specs.Ranks.{Ranks}
use Rattle.rank_algebra.specs.Rows.{IsCutAt, vector_of_row}
use Rattle.rank_algebra.specs.Vector.{Same, Vector, cut_at, shift, less, Agree}
use Rattle.rank_algebra.specs.Division.{Basis, Hit, first_lead, remove, remove_by, remainder, remainder_from}
use Rattle.rank_algebra.proofs.Residues.{same_refl, same_of, same_sym, same_trans, same_add, same_mul, same_times}
use Rattle.entry_code.specs.declared.term.Term.{Term}
use Rattle.entry_code.specs.Terms.{vector_of_terms}
use Rattle.mora_law.specs.Ring.{ranks_of_problem}
use Rattle.trunc_row.specs.Rows.{IsRowOfTerms}
use Rattle.trunc_row.proofs.Vectors.{subtract_terms}
use Rattle.tail_reduce.specs.Terms.{AreTerms}
use Rattle.tail_reduce.proofs.Ranked.{ring_is}

-- v without its terms at the ranks below r that are multiples of leads
abbrev pub removed : Ranks → Basis → ℕ → Vector → Vector
removed R B zero v = v
removed R B (suc r) v = remove R B r (removed R B r v)

-- division goes on from there
goes_on : (R : Ranks) (B : Basis) (left r w : ℕ) (v : Vector) → r + left ≡ w → remainder_from R B left r (removed R B r v) ≡ cut_at w (removed R B w v)
goes_on R B zero r w v e = let z : r ≡ w = omega arith in ap (λ x. cut_at x (removed R B x v)) z
goes_on R B (suc left) r w v e = goes_on R B left (suc r) w v (omega arith)

-- so at the corner what is left is to drop what lies behind
pub remainder_removed : (R : Ranks) (B : Basis) (corner : ℕ) (v : Vector) → remainder R B corner v ≡ cut_at corner (removed R B corner v)
remainder_removed R B corner v = goes_on R B corner 0 corner v (omega arith)

-- the ranks below r are divided
pub record DividedTo (R : Ranks) (B : Basis) (r : ℕ) (old new : List ℕ) : Type 0 where
  pub is : (v : Vector) → Agree R R.n (vector_of_row old) v → Agree R R.n (vector_of_row new) (removed R B r v)

-- none is yet
pub divided_start : (R : Ranks) (B : Basis) (row : List ℕ) → DividedTo R B 0 row row
divided_start R B row = record { is = λ v h. h }

-- as a loop counts
next : (R : Ranks) (B : Basis) (r : ℕ) (v : Vector) (row : List ℕ) → Agree R R.n (vector_of_row row) (removed R B (suc r) v) → Agree R R.n (vector_of_row row) (removed R B (r + 1) v)
next R B r v row h = let z : suc r ≡ r + 1 = omega arith in subst (λ x. Agree R R.n (vector_of_row row) (removed R B x v)) z h

-- a residue of 0 needs no division
pub divided_zero : (R : Ranks) (B : Basis) (r : ℕ) (old new : List ℕ) → r < R.n → get_or new r 0 ≡ 0 → DividedTo R B r old new → DividedTo R B (r + 1) old new
divided_zero R B r old new l z s = record { is = λ v h. next R B r v new (go (removed R B r v) (s.is v h)) }
  where
    go : (u : Vector) → Agree R R.n (vector_of_row new) u → Agree R R.n (vector_of_row new) (remove R B r u)
    go u h = by_hit (first_lead R B r)
      where
        gone : Same R.p (u r) 0
        gone = same_trans (same_sym (h.at r l)) (same_of _ _ _ z)

        by_hit : (o : Option Hit) → Agree R R.n (vector_of_row new) (remove_by R B r u o)
        by_hit None = h
        by_hit (Some hit) = record {
          at = λ k m. same_trans (h.at k m) (same_sym (same_trans
              (same_add (same_refl R.p (u k)) (same_mul (same_times (R.p - 1) gone) (same_refl R.p (shift R hit.cofactor (B.member hit.place) k))))
              (same_of R.p _ _ (omega arith))));
        }

-- nor does a monomial that is no multiple of a lead
pub divided_none : (R : Ranks) (B : Basis) (r : ℕ) (old new : List ℕ) → first_lead R B r ≡ None → DividedTo R B r old new → DividedTo R B (r + 1) old new
divided_none R B r old new e s = record {
  is = λ v h. next R B r v new (subst (λ o. Agree R R.n (vector_of_row new) (remove_by R B r (removed R B r v) o)) (sym e) (s.is v h));
}

-- of another the multiple of the first divisor is subtracted
pub divided_by : (R : Ranks) (B : Basis) (r : ℕ) (old middle new : List ℕ) (hit : Hit) → r < R.n → first_lead R B r ≡ Some hit →
    Agree R R.n (vector_of_row new) (less R (get_or middle r 0) (shift R hit.cofactor (B.member hit.place)) (vector_of_row middle)) →
    DividedTo R B r old middle → DividedTo R B (r + 1) old new
divided_by R B r old middle new hit l f taken s = record {
  is = λ v h. next R B r v new (subst (λ o. Agree R R.n (vector_of_row new) (remove_by R B r (removed R B r v) o)) (sym f) (go (removed R B r v) (s.is v h)));
}
  where
    go : (u : Vector) → Agree R R.n (vector_of_row middle) u → Agree R R.n (vector_of_row new) (less R (u r) (shift R hit.cofactor (B.member hit.place)) u)
    go u h = record {
      at = λ k m. same_trans (taken.at k m) (same_add (h.at k m) (same_mul (same_times (R.p - 1) (h.at r l)) (same_refl R.p _)));
    }

-- what a table's multiple of terms takes from a row, by the ranks of the problem
pub terms_taken : (P : Problem) (p : ℕ) (T : Shape) → p ≡ P.p → T ≡ shape_of P → 1 ≤ P.n → (c a : ℕ) (ts : List Term) (r s : List ℕ) → c < P.p → a < count (shape_of P) → AreTerms P ts →
    ((g : List ℕ) → IsRowOfTerms (count T) ts g → SubtractsMultiple p T c a g r s) →
    Agree (ranks_of_problem P) (ranks_of_problem P).n (vector_of_row s) (less (ranks_of_problem P) c (shift (ranks_of_problem P) a (vector_of_terms ts)) (vector_of_row r))
terms_taken P p T e f some c a ts r s lc la w h =
    subtract_terms P.p (shape_of P) (ranks_of_problem P) (ring_is P) some c a ts r s lc la w.ranks
    (subst (λ (U : Shape). (g : List ℕ) → IsRowOfTerms (count U) ts g → SubtractsMultiple P.p U c a g r s) f
    (subst (λ q. (g : List ℕ) → IsRowOfTerms (count T) ts g → SubtractsMultiple q T c a g r s) e h))

-- ---- what lies from the corner on
-- with them dropped it is the remainder
pub divided_all : (R : Ranks) (B : Basis) (corner : ℕ) (old middle new : List ℕ) (v : Vector) → IsCutAt corner middle new → DividedTo R B corner old middle →
    Agree R R.n (vector_of_row old) v → Agree R R.n (vector_of_row new) (remainder R B corner v)
divided_all R B corner old middle new v cut s h =
    subst (Agree R R.n (vector_of_row new)) (sym (remainder_removed R B corner v)) (record { at = λ k l. go k l (cases_lt k corner) })
  where
    go : (k : ℕ) → k < R.n → (k < corner) ⊎ (corner ≤ k) → Same R.p (get_or new k 0) (cut_at corner (removed R B corner v) k)
    go k l (inl m) = same_trans (same_of _ _ _ (cut.kept k m)) (same_trans ((s.is v h).at k l) (same_of _ _ _ (sym (ap (λ b. cond b (removed R B corner v k) 0) (lt-ltb k corner m)))))
    go k l (inr m) = same_of _ _ _ (cut.dropped k m ∙ sym (ap (λ b. cond b (removed R B corner v k) 0) (le-ltb k corner m)))
