-- The lead of an entry is taken out of its row before the division, and put back in after it.
-- One residue changes by a number, and the vector changes there by the same.
use Rattle.std.proofs.Common.{◌≡◌, ℕ, ◌+◌, ◌-◌, ◌*◌, ◌%◌, ◌<◌, ◌⊎◌, List, length, get_or, set, cond, refl, sym, ◌∙◌, ap, subst, arith, inl, inr, get_or-set_other, get_or-set_same}
use Rattle.std.proofs.lemmas.Bool.{cases_eq, eq-eqb, ne_eqb}
use Rattle.rank_algebra.specs.Ranks.{Ranks}
use Rattle.rank_algebra.specs.Rows.{vector_of_row}
use Rattle.rank_algebra.specs.Vector.{Same, Vector, monomial, add, less, Agree}
use Rattle.rank_algebra.proofs.Residues.{same_refl, same_of, same_sym, same_trans, same_add, same_mod}

-- a residue changed by a number, where a vector changes by the same
changed : (R : Ranks) (u w : Vector) (r : List ℕ) (l x value : ℕ) → l < length r → value ≡ (get_or r l 0 + x) % R.p →
    Same R.p (w l) (u l + x) → ((k : ℕ) → (k ≡ l → ⊥) → Same R.p (w k) (u k)) → Agree R R.n (vector_of_row r) u → Agree R R.n (vector_of_row (set r l value)) w
changed R u w r l x value low e own others h = record { at = λ k m. go k m (cases_eq k l) }
  where
    go : (k : ℕ) → k < R.n → (k ≡ l) ⊎ (k ≡ l → ⊥) → Same R.p (get_or (set r l value) k 0) (w k)
    go k m (inl q) =
        subst (λ y. y < R.n → Same R.p (get_or (set r l value) y 0) (w y)) (sym q) (λ n.
        same_trans (same_of R.p _ _ (get_or-set_same r l value 0 low ∙ e))
        (same_trans (same_mod R.p (get_or r l 0 + x)) (same_trans (same_add (h.at l n) (same_refl R.p x)) (same_sym own)))) m
    go k m (inr q) = same_trans (same_of R.p _ _ (get_or-set_other r l k value 0 q)) (same_trans (h.at k m) (same_sym (others k q)))

-- the lead is taken out
pub taken_out : (R : Ranks) (u : Vector) (r : List ℕ) (l value : ℕ) → l < length r → value ≡ (get_or r l 0 + (R.p - 1)) % R.p → Agree R R.n (vector_of_row r) u →
    Agree R R.n (vector_of_row (set r l value)) (less R 1 (monomial l) u)
taken_out R u r l value low e h = changed R u (less R 1 (monomial l) u) r l (R.p - 1) value low e
    (same_of R.p _ _ (ap (λ b. u l + (R.p - 1) * 1 * cond b 1 0) (eq-eqb l l refl) ∙ omega arith))
    (λ k n. same_of R.p _ _ (ap (λ b. u k + (R.p - 1) * 1 * cond b 1 0) (ne_eqb k l n) ∙ omega arith))
    h

-- the lead is put in
pub put_in : (R : Ranks) (u : Vector) (r : List ℕ) (l value : ℕ) → l < length r → value ≡ (get_or r l 0 + 1) % R.p → Agree R R.n (vector_of_row r) u →
    Agree R R.n (vector_of_row (set r l value)) (add (monomial l) u)
put_in R u r l value low e h = changed R u (add (monomial l) u) r l 1 value low e
    (same_of R.p _ _ (ap (λ b. cond b 1 0 + u l) (eq-eqb l l refl) ∙ omega arith))
    (λ k n. same_of R.p _ _ (ap (λ b. cond b 1 0 + u k) (ne_eqb k l n) ∙ omega arith))
    h
