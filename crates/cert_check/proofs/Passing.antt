-- What is known of the corners while entries are passed one by one.
-- No entries have the number of ranks as corner, and one more lead covers no less.
use Rattle.std.proofs.Common.{◌≡◌, ℕ, suc, ◌+◌, ◌<◌, ◌≤◌, ◌⊎◌, List, [], ◌∷◌, ◌++◌, length, get_or, sym, ◌∙◌, ap, subst, arith, inl, inr}
use Rattle.std.proofs.lemmas.Bool.{cases_lt}
use Rattle.std.proofs.lemmas.List.{length-append, get_or_append_left, get_or_push}
use Rattle.sparse_poly.specs.Ideal.{Problem}
use Rattle.entry_code.specs.Entry.{Entry}
use Rattle.rank_algebra.specs.Ranks.{Ranks, IsRanks}
use Rattle.rank_algebra.specs.Division.{Basis, first_of, IsCover, corner_of}
use Rattle.rank_algebra.proofs.Corner.{corner_is}
use Rattle.mora_law.specs.Ring.{ranks_of_problem}
use Rattle.mora_law.specs.Entries.{basis_of}
use Rattle.cert_check.specs.Answers.{AreCorners}
use Rattle.cert_check.proofs.Dividing.{cover_next}

module _ (R : Ranks) (L : IsRanks R) (B : Basis) where
  -- no entries cover nothing
  pub corner_none : corner_of R (first_of 0 B) ≡ R.n
  corner_none = go (cases_lt (corner_of R (first_of 0 B)) R.n)
    where
      go : (corner_of R (first_of 0 B) < R.n) ⊎ (R.n ≤ corner_of R (first_of 0 B)) → corner_of R (first_of 0 B) ≡ R.n
      go (inl l) = absurd (let z = ((corner_is R L (first_of 0 B)).covers (corner_of R (first_of 0 B)) (omega arith) l).known in omega (arith, z))
      go (inr l) = let z = (corner_is R L (first_of 0 B)).within in omega (arith, l, z)

  -- the corner of some entries covers with one more
  pub covers_more : (i w : ℕ) → w ≡ corner_of R (first_of i B) → IsCover R (first_of (i + 1) B) w
  covers_more i w e = subst (λ k. IsCover R (first_of k B) w) (let z : suc i ≡ i + 1 = omega arith in z) (subst (IsCover R (first_of (suc i) B)) (sym e) (cover_next R L B i (corner_of R (first_of i B)) (corner_is R L (first_of i B))))

module _ (P : Problem) (entries : List Entry) where
  -- the corner of no entries
  pub corners_first : (old new : List ℕ) (n : ℕ) → old ≡ [] → new ≡ old ++ n ∷ [] → n ≡ corner_of (ranks_of_problem P) (first_of 0 (basis_of entries)) → AreCorners P entries 0 new
  corners_first old new n o e c = λ k l.
      let z : k ≡ 0 = omega (arith, l) in
      let s : new ≡ n ∷ [] = e ∙ ap (λ (xs : List ℕ). xs ++ n ∷ []) o in
      (omega (arith, z, ap length s), ap (λ (xs : List ℕ). get_or xs k 0) s ∙ ap (λ j. get_or (n ∷ []) j 0) z ∙ c ∙ ap (λ j. corner_of (ranks_of_problem P) (first_of j (basis_of entries))) (sym z))

  -- the corner of one entry more
  pub corners_more : (i c : ℕ) (old new : List ℕ) → length old ≡ i + 1 → new ≡ old ++ c ∷ [] → c ≡ corner_of (ranks_of_problem P) (first_of (i + 1) (basis_of entries)) → AreCorners P entries i old → AreCorners P entries (i + 1) new
  corners_more i c old new o e q h = λ k l. go k l (cases_lt k (i + 1))
    where
      long : length new ≡ i + 1 + 1
      long = ap length e ∙ length-append old (c ∷ []) ∙ ap (λ n. n + 1) o

      go : (k : ℕ) → k ≤ i + 1 → (k < i + 1) ⊎ (i + 1 ≤ k) → (k < length new) × (get_or new k 0 ≡ corner_of (ranks_of_problem P) (first_of k (basis_of entries)))
      go k l (inl m) = (omega (arith, m, long), ap (λ (xs : List ℕ). get_or xs k 0) e ∙ get_or_append_left old (c ∷ []) 0 k (omega (arith, m, o)) ∙ (h k (omega (arith, m))).1)
      go k l (inr m) =
          let z : k ≡ i + 1 = omega (arith, l, m) in
          (omega (arith, z, long), ap (λ (xs : List ℕ). get_or xs k 0) e ∙ get_or_push old c 0 k (omega (arith, o, z)) ∙ q ∙ ap (λ j. corner_of (ranks_of_problem P) (first_of j (basis_of entries))) (sym z))
