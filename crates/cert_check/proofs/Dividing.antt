-- Plain division below the corner: what is at the corner or behind it is never seen.
-- Each rank is removed in turn; the corner is the last rank whose monomial before it no lead divides.
use Rattle.std.proofs.Common.{◌≡◌, ℕ, zero, suc, ◌+◌, ◌-◌, ◌<◌, ◌≤◌, ◌⊎◌, cond, ltb, Option, Some, None, sym, ◌∙◌, ap, subst, arith, inl, inr}
use Rattle.std.proofs.lemmas.Bool.{cases_lt, lt-ltb, le-ltb}
use Rattle.rank_algebra.specs.Ranks.{Ranks, IsRanks}
use Rattle.rank_algebra.specs.Vector.{Same, Vector, shift, less, cut_at, Agree}
use Rattle.rank_algebra.specs.Division.{Basis, Hit, first_lead, remove_by, remove, remainder_from, remainder, first_of, IsMultiple, IsCover, corner_of}
use Rattle.rank_algebra.proofs.Residues.{same_refl, same_of}
use Rattle.rank_algebra.proofs.Linear.{agree_refl, agree_of, agree_sym, agree_trans, agree_below}
use Rattle.rank_algebra.proofs.First.{first_is, first_none}
use Rattle.rank_algebra.proofs.Division.{less_agree, remove_none}
use Rattle.rank_algebra.proofs.Corner.{corner_is, corner_least}

module _ (R : Ranks) (B : Basis) (corner : ℕ) where
  -- a term is removed in the same way of what agrees below the corner
  remove_below : (r : ℕ) (v u : Vector) → r < corner → Agree R corner v u → Agree R corner (remove R B r v) (remove R B r u)
  remove_below r v u l h = go (first_lead R B r)
    where
      go : (o : Option Hit) → Agree R corner (remove_by R B r v o) (remove_by R B r u o)
      go None = h
      go (Some x) = less_agree R corner (v r) (u r) (shift R x.cofactor (B.member x.place)) v u (h.at r l) h

  -- cuts at the corner agree
  cut_below : (v u : Vector) → Agree R corner v u → Agree R R.n (cut_at corner v) (cut_at corner u)
  cut_below v u h = record { at = λ r l. go r (cases_lt r corner) }
    where
      go : (r : ℕ) → (r < corner) ⊎ (corner ≤ r) → Same R.p (cond (ltb r corner) (v r) 0) (cond (ltb r corner) (u r) 0)
      go r (inl l) = subst (λ b. Same R.p (cond b (v r) 0) (cond b (u r) 0)) (sym (lt-ltb r corner l)) (h.at r l)
      go r (inr l) = subst (λ b. Same R.p (cond b (v r) 0) (cond b (u r) 0)) (sym (le-ltb r corner l)) (same_refl R.p 0)

  -- so remainders agree
  pub remainder_below : (k r : ℕ) (v u : Vector) → r + k ≡ corner → Agree R corner v u → Agree R R.n (remainder_from R B k r v) (remainder_from R B k r u)
  remainder_below zero r v u e h = subst (λ w. Agree R R.n (cut_at w v) (cut_at w u)) (let z : corner ≡ r = omega (arith, e) in z) (cut_below v u h)
  remainder_below (suc k) r v u e h = remainder_below k (suc r) (remove R B r v) (remove R B r u) (omega (arith, e)) (remove_below r v u (omega (arith, e)) h)

  -- u is what is left after the ranks before r, and the remainder of it is z
  pub record IsDividedTo (r : ℕ) (u z : Vector) : Type 0 where
    pub rest : (x : ℕ) → corner ≤ x → u x ≡ 0
    pub value : Agree R R.n (remainder_from R B (corner - r) r u) z

  -- at the beginning u is the cut
  pub none_divided : (v u : Vector) → ((r : ℕ) → u r ≡ cut_at corner v r) → IsDividedTo 0 u (remainder R B corner v)
  none_divided v u e = record {
    rest = λ x l. e x ∙ ap (λ b. cond b (v x) 0) (le-ltb x corner l);
    value = subst (λ k. Agree R R.n (remainder_from R B k 0 u) (remainder R B corner v)) (let z : corner ≡ corner - 0 = omega arith in z)
        (remainder_below corner 0 u v (omega arith) (agree_of R corner u v (λ r l. e r ∙ ap (λ b. cond b (v r) 0) (lt-ltb r corner l))));
  }

  -- one more rank
  pub one_divided : (r : ℕ) (u u' z : Vector) → r < corner → Agree R corner u' (remove R B r u) → ((x : ℕ) → corner ≤ x → u' x ≡ u x) → IsDividedTo r u z → IsDividedTo (r + 1) u' z
  one_divided r u u' z l a same h = record {
    rest = λ x m. same x m ∙ h.rest x m;
    value = subst (λ (x : ℕ). Agree R R.n (remainder_from R B (corner - x) x u') z) (let q : suc r ≡ r + 1 = omega arith in q)
        (agree_trans (remainder_below (corner - suc r) (suc r) u' (remove R B r u) (omega (arith, l)) a)
        (subst (λ k. Agree R R.n (remainder_from R B k r u) z) (let q : corner - r ≡ suc (corner - suc r) = omega (arith, l) in q) h.value));
  }

  -- at the corner u is the remainder
  pub all_divided : (r : ℕ) (u z : Vector) → corner ≤ r → IsDividedTo r u z → Agree R R.n u z
  all_divided r u z e h = agree_trans (agree_of R R.n u (cut_at r u) (λ x l. uncut x (cases_lt x r)))
      (subst (λ k. Agree R R.n (remainder_from R B k r u) z) (let q : corner - r ≡ 0 = omega (arith, e) in q) h.value)
    where
      uncut : (x : ℕ) → (x < r) ⊎ (r ≤ x) → u x ≡ cond (ltb x r) (u x) 0
      uncut x (inl l) = sym (ap (λ b. cond b (u x) 0) (lt-ltb x r l))
      uncut x (inr l) = h.rest x (omega (arith, l, e)) ∙ sym (ap (λ b. cond b (u x) 0) (le-ltb x r l))

  -- where there is no term nothing is removed
  pub removed_zero : (r : ℕ) (v : Vector) → corner ≤ R.n → v r ≡ 0 → Agree R corner v (remove R B r v)
  removed_zero r v l e = agree_sym (agree_below l (remove_none R B r v (same_of R.p (v r) 0 e)))

  -- where no lead divides neither
  pub removed_none : (r : ℕ) (v : Vector) → first_lead R B r ≡ None → Agree R corner v (remove R B r v)
  removed_none r v e = subst (λ o. Agree R corner v (remove_by R B r v o)) (sym e) (agree_refl R corner v)

  -- and else the multiple of the first is
  pub removed_by : (r place cofactor : ℕ) (v u g : Vector) → first_lead R B r ≡ Some (record { place = place; cofactor = cofactor }) → g ≡ B.member place
      → Agree R corner u (less R (v r) (shift R cofactor g) v) → Agree R corner u (remove R B r v)
  removed_by r place cofactor v u g e f a =
      subst (λ o. Agree R corner u (remove_by R B r v o)) (sym e) (subst (λ x. Agree R corner u (less R (v r) (shift R cofactor x) v)) f a)

module _ (R : Ranks) (L : IsRanks R) (B : Basis) where
  -- the first lead that divides is one of the leads, and its cofactor is within the ring
  pub hit_within : (r place cofactor : ℕ) → r < R.n → first_lead R B r ≡ Some (record { place = place; cofactor = cofactor }) → (place < B.size) × (cofactor < R.n)
  hit_within r place cofactor l e =
      let f = first_is R L B r (record { place = place; cofactor = cofactor }) l e in
      let low = L.le (B.lead place) cofactor (let z : R.times (B.lead place) cofactor < R.n = omega (arith, L.comm (B.lead place) cofactor, f.is, l) in z) in
      (f.known, omega (arith, low, L.comm (B.lead place) cofactor, f.is, l))

  -- a rank that a lead divides may be added to a cover
  pub cover_more : (w place cofactor : ℕ) → 0 < w → IsCover R B w → first_lead R B (w - 1) ≡ Some (record { place = place; cofactor = cofactor }) → IsCover R B (w - 1)
  cover_more w place cofactor l c e = record { within = omega (arith, c.within); covers = λ r m n. go r m n (cases_lt (w - 1) r) }
    where
      go : (r : ℕ) → w - 1 ≤ r → r < R.n → (w - 1 < r) ⊎ (r ≤ w - 1) → IsMultiple R B r
      go r m n (inl o) = c.covers r (omega (arith, o, l)) n
      go r m n (inr o) =
          let z : w - 1 ≡ r = omega (arith, m, o) in
          let f = first_is R L B (w - 1) (record { place = place; cofactor = cofactor }) (omega (arith, z, n)) e in
          record { place = place; cofactor = cofactor; known = f.known; is = f.is ∙ z }

  -- a cover before which no lead divides is the corner
  pub corner_here : (w : ℕ) → 0 < w → IsCover R B w → first_lead R B (w - 1) ≡ None → w ≡ corner_of R B
  corner_here w l c e = go (cases_lt (corner_of R B) w) (corner_least R L B w c)
    where
      go : (corner_of R B < w) ⊎ (w ≤ corner_of R B) → corner_of R B ≤ w → w ≡ corner_of R B
      go (inl m) k = let n : w - 1 < R.n = omega (arith, l, c.within) in
          absurd (first_none R L B (w - 1) n e ((corner_is R L B).covers (w - 1) (let z : corner_of R B ≤ w - 1 = omega (arith, m) in z) n))
      go (inr m) k = omega (arith, m, k)

  -- and 0 is the corner where it covers
  pub corner_zero : (w : ℕ) → w ≡ 0 → IsCover R B w → w ≡ corner_of R B
  corner_zero w e c = let k = corner_least R L B w c in omega (arith, e, k)

  -- the corner of some entries covers with one more
  pub cover_next : (k w : ℕ) → IsCover R (first_of k B) w → IsCover R (first_of (suc k) B) w
  cover_next k w c = record { within = c.within; covers = λ r l m. let x = c.covers r l m in record { place = x.place; cofactor = x.cofactor; known = omega (arith, x.known); is = x.is } }

  -- all ranks together cover nothing
  pub cover_none : (k : ℕ) → IsCover R (first_of k B) R.n
  cover_none k = record { within = omega arith; covers = λ r l m. absurd (omega (arith, l, m)) }
