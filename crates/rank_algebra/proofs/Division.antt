-- Plain division: its remainder is linear, and nothing is left of any multiple of a member where each S-pair lies below its lcm.
-- From the corner back: at a rank the first lead that divides it is used, and the S-pair of it and the other member is below.
use Rattle.std.proofs.Common.{ℕ, zero, suc, ◌+◌, ◌*◌, ◌-◌, ◌<◌, ◌≤◌, ◌≡◌, max, Bool, true, false, cond, ltb, Option, Some, None, refl, sym, ◌∙◌, ap, ap₂, subst, arith, ◌⊎◌, inl, inr}
use Rattle.std.proofs.lemmas.Bool.{cases_lt, lt-ltb}
use Rattle.rank_algebra.specs.Ranks.{Ranks, IsRanks}
use Rattle.rank_algebra.specs.Vector.{Same, Vector, nothing, add, scale, shift, Agree, less, cut_at}
use Rattle.rank_algebra.specs.Combination.{Part, IsSpace}
use Rattle.rank_algebra.specs.Division.{Basis, Hit, first_lead, remove_by, remove, remainder_from, IsMonic, IsMultiple, IsCover, IsBelow, Below, IsFrom, pair, lcm_of}
use Rattle.rank_algebra.proofs.Residues.{same_refl, same_of, same_sym, same_trans, same_add, same_mul, same_times, same_less, same_minus_minus}
use Rattle.rank_algebra.proofs.Linear.{agree_refl, agree_of, agree_sym, agree_trans, agree_add, agree_scale, agree_below, span_in, span_shift, part_shift, shift_add, shift_scale, shift_shift}
use Rattle.rank_algebra.proofs.Echelon.{Pivot, echelon, less_in, in_from_less}
use Rattle.rank_algebra.proofs.First.{IsFirst, first_is, first_none, shift_lowest, shift_at, times_cancel}

-- a difference sees what agrees alone
pub less_agree : (R : Ranks) (w c d : ℕ) (g v u : Vector) → Same R.p c d → Agree R w v u → Agree R w (less R c g v) (less R d g u)
less_agree R w c d g v u e h = record { at = λ r l. same_add (h.at r l) (same_mul (same_times (R.p - 1) e) (same_refl R.p (g r))) }

module _ (R : Ranks) (B : Basis) where
  -- taking a term away sees what agrees alone
  remove_agree : (r : ℕ) (v u : Vector) → r < R.n → Agree R R.n v u → Agree R R.n (remove R B r v) (remove R B r u)
  remove_agree r v u l h = go (first_lead R B r)
    where
      go : (o : Option Hit) → Agree R R.n (remove_by R B r v o) (remove_by R B r u o)
      go None = h
      go (Some f) = less_agree R R.n (v r) (u r) (shift R f.cofactor (B.member f.place)) v u (h.at r l) h

  -- it goes over sums
  remove_add : (r : ℕ) (v u : Vector) (x : ℕ) → remove R B r (add v u) x ≡ add (remove R B r v) (remove R B r u) x
  remove_add r v u x = go (first_lead R B r)
    where
      go : (o : Option Hit) → remove_by R B r (add v u) o x ≡ remove_by R B r v o x + remove_by R B r u o x
      go None = refl
      go (Some f) = omega arith

  -- and over constant multiples
  remove_scale : (r c : ℕ) (v : Vector) (x : ℕ) → remove R B r (scale c v) x ≡ scale c (remove R B r v) x
  remove_scale r c v x = go (first_lead R B r)
    where
      go : (o : Option Hit) → remove_by R B r (scale c v) o x ≡ c * remove_by R B r v o x
      go None = refl
      go (Some f) = omega arith

  -- a cut sees what agrees alone
  cut_agree : (w : ℕ) (v u : Vector) → Agree R R.n v u → Agree R R.n (cut_at w v) (cut_at w u)
  cut_agree w v u h = record { at = λ r l. go (ltb r w) r l }
    where
      go : (b : Bool) (r : ℕ) → r < R.n → Same R.p (cond b (v r) 0) (cond b (u r) 0)
      go true r l = h.at r l
      go false r l = same_refl _ _

  -- the remainder sees what agrees alone
  pub remainder_agree : (k r : ℕ) (v u : Vector) → r + k ≤ R.n → Agree R R.n v u → Agree R R.n (remainder_from R B k r v) (remainder_from R B k r u)
  remainder_agree zero r v u l h = cut_agree r v u h
  remainder_agree (suc k) r v u l h = remainder_agree k (suc r) (remove R B r v) (remove R B r u) (omega arith) (remove_agree r v u (omega arith) h)

  -- the remainder of a sum is the sum of the remainders
  pub remainder_add : (k r : ℕ) (v u : Vector) → r + k ≤ R.n → Agree R R.n (remainder_from R B k r (add v u)) (add (remainder_from R B k r v) (remainder_from R B k r u))
  remainder_add zero r v u l = agree_of R R.n _ _ (λ x m. go (ltb x r) x)
    where
      go : (b : Bool) (x : ℕ) → cond b (v x + u x) 0 ≡ cond b (v x) 0 + cond b (u x) 0
      go true x = refl
      go false x = refl
  remainder_add (suc k) r v u l = agree_trans (remainder_agree k (suc r) _ _ (omega arith) (agree_of R R.n _ _ (λ x m. remove_add r v u x))) (remainder_add k (suc r) (remove R B r v) (remove R B r u) (omega arith))

  -- that of a constant multiple is the constant multiple
  pub remainder_scale : (k r c : ℕ) (v : Vector) → r + k ≤ R.n → Agree R R.n (remainder_from R B k r (scale c v)) (scale c (remainder_from R B k r v))
  remainder_scale zero r c v l = agree_of R R.n _ _ (λ x m. go (ltb x r) x)
    where
      go : (b : Bool) (x : ℕ) → cond b (c * v x) 0 ≡ c * cond b (v x) 0
      go true x = refl
      go false x = omega arith
  remainder_scale (suc k) r c v l = agree_trans (remainder_agree k (suc r) _ _ (omega arith) (agree_of R R.n _ _ (λ x m. remove_scale r c v x))) (remainder_scale k (suc r) c (remove R B r v) (omega arith))

  -- nothing is left of v
  pub record Gone (k r : ℕ) (v : Vector) : Type 0 where
    pub gone : Agree R R.n (remainder_from R B k r v) nothing

  -- with r in place of the first rank, what leaves nothing is a space
  pub gone_space : (k r : ℕ) → r + k ≤ R.n → IsSpace R (Gone k r)
  gone_space k r l = record {
    alike = λ v u a h. record { gone = agree_trans (remainder_agree k r v u l a) h.gone };
    empty = record { gone = agree_trans (remainder_agree k r nothing (scale 0 nothing) l (agree_of R R.n _ _ (λ x m. omega arith))) (agree_trans (remainder_scale k r 0 nothing l) (agree_of R R.n _ _ (λ x m. omega arith))) };
    plus = λ v u h j. record { gone = agree_trans (remainder_add k r v u l) (agree_trans (agree_add h.gone j.gone) (agree_of R R.n _ _ (λ x m. omega arith))) };
    multiple = λ c v h. record { gone = agree_trans (remainder_scale k r c v l) (agree_trans (agree_scale c h.gone) (agree_of R R.n _ _ (λ x m. omega arith))) };
  }

  -- a step at a rank where v has no term
  pub remove_none : (r : ℕ) (v : Vector) → Same R.p (v r) 0 → Agree R R.n (remove R B r v) v
  remove_none r v h = go (first_lead R B r)
    where
      go : (o : Option Hit) → Agree R R.n (remove_by R B r v o) v
      go None = agree_refl R R.n v
      go (Some f) = record { at = λ x l. same_trans (same_add (same_refl _ (v x)) (same_mul (same_times (R.p - 1) h) (same_refl R.p (shift R f.cofactor (B.member f.place) x)))) (same_of _ _ _ (omega arith)) }

  -- a vector without a term of rank r is gone where division from the next rank on leaves nothing
  gone_later : (k r : ℕ) (v : Vector) → r + suc k ≤ R.n → Same R.p (v r) 0 → Gone k (suc r) v → Gone (suc k) r v
  gone_later k r v l h g = record { gone = agree_trans (remainder_agree k (suc r) _ _ (omega arith) (remove_none r v h)) g.gone }

  -- v begins at w
  gone_down : (j k r : ℕ) (v : Vector) → r + j + k ≤ R.n → Agree R (r + j) v nothing → Gone k (r + j) v → Gone (j + k) r v
  gone_down zero k r v l h g = subst (λ x. Gone x r v) (omega arith) (subst (λ x. Gone k x v) (omega arith) g)
  gone_down (suc j) k r v l h g =
      subst (λ x. Gone x r v) (omega arith)
      (gone_later (j + k) r v (omega arith) (h.at r (omega arith))
      (gone_down j k (suc r) v (omega arith) (agree_below (omega arith) h) (subst (λ x. Gone k x v) (omega arith) g)))

  -- for a vector from w on it is enough to begin at w
  pub gone_from : (corner w : ℕ) (v : Vector) → w ≤ corner → corner ≤ R.n → Agree R w v nothing → Gone (corner - w) w v → Gone corner 0 v
  gone_from corner w v l m h g = subst (λ x. Gone x 0 v) (omega arith) (gone_down w (corner - w) 0 v (omega arith) (agree_below (omega arith) h) (subst (λ x. Gone (corner - w) x v) (omega arith) g))

  -- v begins past the corner
  pub gone_past : (corner : ℕ) (v : Vector) → corner ≤ R.n → Agree R corner v nothing → Gone corner 0 v
  gone_past corner v m h = gone_from corner corner v (omega arith) m h (let z : 0 ≡ corner - corner = omega arith in subst (λ x. Gone x corner v) z (record { gone = record { at = λ x l. go x l (ltb x corner) refl } }))
    where
      go : (x : ℕ) → x < R.n → (b : Bool) → ltb x corner ≡ b → Same R.p (cond b (v x) 0) 0
      go x l true e = h.at x (grind (arith, lt-ltb))
      go x l false e = same_refl _ _

module _ (R : Ranks) (L : IsRanks R) (B : Basis) (M : IsMonic R B) where
  -- the multiple of a member by q is monic at the multiple of its lead
  pub multiple_lowest : (r k q : ℕ) → k < B.size → r < R.n → R.times q (B.lead k) ≡ r → Agree R r (shift R q (B.member k)) nothing
  multiple_lowest r k q l m e = record { at = λ x n. shift_lowest R L q (B.lead k) (B.member k) (M.lowest k l) x (omega arith) (subst (λ z. x < z) (sym e) n) }

  -- and it has there the coefficient 1
  pub multiple_one : (r k q : ℕ) → k < B.size → r < R.n → R.times q (B.lead k) ≡ r → Same R.p (shift R q (B.member k) r) 1
  multiple_one r k q l m e = subst (λ z. Same R.p (shift R q (B.member k) z) 1) e (same_trans (same_of _ _ _ (shift_at R L q (B.lead k) (B.member k) (subst (λ z. z < R.n) (sym e) m))) (M.one k l))

  -- the first multiple at its rank leaves nothing
  first_gone : (corner r : ℕ) (h : Hit) → r < corner → corner ≤ R.n → first_lead R B r ≡ Some h → Gone R B corner 0 (shift R h.cofactor (B.member h.place))
  first_gone corner r h l m e = gone_from R B corner r b (omega arith) m low (subst (λ x. Gone R B x r b) (omega arith) step)
    where
      f : IsFirst R B r h
      f = first_is R L B r h (omega arith) e

      b : Vector
      b = shift R h.cofactor (B.member h.place)

      low : Agree R r b nothing
      low = multiple_lowest r h.place h.cofactor f.known (omega arith) f.is

      one : Same R.p (b r) 1
      one = multiple_one r h.place h.cofactor f.known (omega arith) f.is

      step : Gone R B (suc (corner - suc r)) r b
      step = record { gone = agree_trans (remainder_agree R B (corner - suc r) (suc r) _ nothing (omega arith) removed) (gone_space R B (corner - suc r) (suc r) (omega arith)).empty.gone }
        where
          removed : Agree R R.n (remove R B r b) nothing
          removed = subst (λ o. Agree R R.n (remove_by R B r b o) nothing) (sym e) (record {
            at = λ x j.
                same_trans (same_add (same_refl R.p (b x)) (same_mul (same_times (R.p - 1) one) (same_refl R.p (b x))))
                (same_trans (same_of _ _ _ (omega arith)) (same_less R.p (b x) L.prime_pos));
          })

-- x is b less the pair
turned : (p x b : ℕ) → 0 < p → Same p x (b + (p - 1) * 1 * (b + (p - 1) * 1 * x))
turned p x b h = same_sym (same_trans (same_of p _ (b + (p - 1) * b + (p - 1) * ((p - 1) * x)) (omega arith)) (same_trans (same_add (same_less p b h) (same_minus_minus p x h)) (same_of p _ _ (omega arith))))

-- The start of each pair that no earlier lead makes needless lies below the pair's least common multiple.
pub record Settles (R : Ranks) (B : Basis) : Type 0 where
  pub pairs : (i j : ℕ) → i < j → j < B.size → lcm_of R B i j < R.n → ((k q : ℕ) → k < i → R.times q (B.lead k) ≡ lcm_of R B i j → ⊥) → Below R B (lcm_of R B i j) (pair R B i j)

-- a part below l is, times c, a part below the c-fold of l
pub below_shift : (R : Ranks) → IsRanks R → (B : Basis) (c l r : ℕ) → r < R.n → R.times c l ≡ r → (t : Part) → IsBelow R B l t → IsBelow R B r (part_shift R c t)
below_shift R L B c l r m e t h = record { known = h.known; below = subst (λ z. r < z) (sym (L.assoc c t.mono (B.lead t.place))) (go (cases_lt (R.times c (R.times t.mono (B.lead t.place))) R.n)) }
  where
    go : (R.times c (R.times t.mono (B.lead t.place)) < R.n) ⊎ (R.n ≤ R.times c (R.times t.mono (B.lead t.place))) → r < R.times c (R.times t.mono (B.lead t.place))
    go (inl n) = subst (λ z. z < R.times c (R.times t.mono (B.lead t.place))) e (L.grows c l (R.times t.mono (B.lead t.place)) h.below n)
    go (inr n) = omega (arith, m, n)

module _ (R : Ranks) (L : IsRanks R) (B : Basis) (M : IsMonic R B) (corner : ℕ) (C : IsCover R B corner) (T : Settles R B) where
  -- division of v leaves nothing
  abbrev Leaves : Vector → Type 0
  Leaves v = Gone R B corner 0 v

  -- what leaves nothing is a space
  space : IsSpace R Leaves
  space = gone_space R B corner 0 (omega (arith, C.within))

  -- the multiple by c of the pair's start
  pair_shift : (i j q a c : ℕ) → R.times c (R.cofactor (B.lead i) (B.lead j)) ≡ q → R.times c (R.cofactor (B.lead j) (B.lead i)) ≡ a
      → (x : ℕ) → x < R.n → shift R c (pair R B i j) x ≡ shift R q (B.member i) x + (R.p - 1) * 1 * shift R a (B.member j) x
  pair_shift i j q a c cq ca x l =
      shift_add R L c (shift R (R.cofactor (B.lead i) (B.lead j)) (B.member i)) (scale ((R.p - 1) * 1) (shift R (R.cofactor (B.lead j) (B.lead i)) (B.member j))) x
      ∙ ap₂ ◌+◌ (one (R.cofactor (B.lead i) (B.lead j)) q (B.member i) cq)
      (shift_scale R L c ((R.p - 1) * 1) (shift R (R.cofactor (B.lead j) (B.lead i)) (B.member j)) x ∙ ap (λ z. (R.p - 1) * 1 * z) (one (R.cofactor (B.lead j) (B.lead i)) a (B.member j) ca))
    where
      one : (d y : ℕ) (v : Vector) → R.times c d ≡ y → shift R c (shift R d v) x ≡ shift R y v x
      one d y v e = shift_shift R L c d v x l ∙ ap (λ z. shift R z v x) e

  -- a multiple of two leads i < j, of which i is the first that divides it
  by_pair : (r i j q a c : ℕ) → r < R.n → IsFirst R B r (record { place = i; cofactor = q }) → i < j → j < B.size
      → R.times c (R.cofactor (B.lead i) (B.lead j)) ≡ q → R.times c (R.cofactor (B.lead j) (B.lead i)) ≡ a
      → Leaves (shift R q (B.member i))
      → ((t : Part) → IsBelow R B r t → Leaves (shift R t.mono (B.member t.place)))
      → Leaves (shift R a (B.member j))
  by_pair r i j q a c l f m n cq ca g later = space.alike _ _ same (less_in R Leaves space 1 _ _ shifted g)
    where
      at_lcm : R.times c (lcm_of R B i j) ≡ r
      at_lcm = ap (R.times c) (L.comm (B.lead i) (R.cofactor (B.lead i) (B.lead j))) ∙ sym (L.assoc c (R.cofactor (B.lead i) (B.lead j)) (B.lead i)) ∙ ap (λ z. R.times z (B.lead i)) cq ∙ f.is

      lcm_small : lcm_of R B i j < R.n
      lcm_small = omega (arith, l, at_lcm, L.le c (lcm_of R B i j) (omega (arith, l, at_lcm)))

      unneeded : (k x : ℕ) → k < i → R.times x (B.lead k) ≡ lcm_of R B i j → ⊥
      unneeded k x o d = f.first k (R.times c x) o (L.assoc c x (B.lead k) ∙ ap (R.times c) d ∙ at_lcm)

      shifted : Leaves (shift R c (pair R B i j))
      shifted = span_in R L B.member Leaves space (IsBelow R B r) later _
          (span_shift R L B.member (IsBelow R B (lcm_of R B i j)) (IsBelow R B r) c (below_shift R L B c (lcm_of R B i j) r l at_lcm) _ (T.pairs i j m n lcm_small unneeded))

      same : Agree R R.n (shift R a (B.member j)) (less R 1 (shift R c (pair R B i j)) (shift R q (B.member i)))
      same = record {
        at = λ x k. same_trans (turned R.p (shift R a (B.member j) x) (shift R q (B.member i) x) L.prime_pos)
            (same_of _ _ _ (ap (λ z. shift R q (B.member i) x + (R.p - 1) * 1 * z) (sym (pair_shift i j q a c cq ca x k))));
      }

  -- a multiple of an entry that begins past the corner
  past : (j a : ℕ) → j < B.size → corner ≤ R.times a (B.lead j) → Leaves (shift R a (B.member j))
  past j a l m = gone_past R B corner _ C.within (record { at = λ x n. shift_lowest R L a (B.lead j) (B.member j) (M.lowest j l) x (omega (arith, n, C.within)) (omega (arith, n, m)) })

  -- one rank, where all later ones are done
  at_rank : (r : ℕ) → r < corner → ((t : Part) → IsBelow R B r t → Leaves (shift R t.mono (B.member t.place)))
      → (j a : ℕ) → j < B.size → R.times a (B.lead j) ≡ r → Leaves (shift R a (B.member j))
  at_rank r l later j a m e = go (first_lead R B r) refl
    where
      within : r < R.n
      within = omega (arith, C.within)

      go : (o : Option Hit) → first_lead R B r ≡ o → Leaves (shift R a (B.member j))
      go None f = absurd (first_none R L B r within f (record { place = j; cofactor = a; known = m; is = e }))
      go (Some h) f = go2 (first_is R L B r h within f) (cases_lt h.place j) (cases_lt j h.place)
        where
          own : Leaves (shift R h.cofactor (B.member h.place))
          own = first_gone R L B M corner r h l C.within f

          go2 : IsFirst R B r h → (h.place < j) ⊎ (j ≤ h.place) → (j < h.place) ⊎ (h.place ≤ j) → Leaves (shift R a (B.member j))
          go2 i (inl n) c =
              let both : R.times (B.lead h.place) h.cofactor ≡ R.times (B.lead j) a = L.comm (B.lead h.place) h.cofactor ∙ i.is ∙ sym e ∙ L.comm a (B.lead j) in
              let z = L.least (B.lead h.place) (B.lead j) h.cofactor a (subst (λ z. z < R.n) (sym (L.comm (B.lead h.place) h.cofactor ∙ i.is)) within) both in
              by_pair r h.place j h.cofactor a z.0 within i n m z.1 z.2 own later
          go2 i (inr n) (inl o) = absurd (i.first j a o e)
          go2 i (inr n) (inr o) =
              let k : h.place ≡ j = omega arith in
              let lead : R.times h.cofactor (B.lead j) ≡ r = subst (λ z. R.times h.cofactor (B.lead z) ≡ r) k i.is in
              let q : h.cofactor ≡ a = times_cancel R L (B.lead j) h.cofactor a (subst (λ z. z < R.n) (sym (L.comm (B.lead j) h.cofactor ∙ lead)) within) (L.comm (B.lead j) h.cofactor ∙ lead ∙ sym e ∙ L.comm a (B.lead j)) in
              subst (λ z. Leaves (shift R z (B.member j))) q (subst (λ z. Leaves (shift R h.cofactor (B.member z))) k own)

  -- nothing is left of a multiple of a member that begins at rank r or later, by induction from the corner back
  go_all : (k r : ℕ) → r + k ≡ corner → (j a : ℕ) → j < B.size → r ≤ R.times a (B.lead j) → Leaves (shift R a (B.member j))
  go_all zero r e j a l m = past j a l (omega arith)
  go_all (suc k) r e j a l m = go (cases_lt r (R.times a (B.lead j))) (λ j a n o. go_all k (suc r) (omega arith) j a n o)
    where
      go : (r < R.times a (B.lead j)) ⊎ (R.times a (B.lead j) ≤ r) → ((j a : ℕ) → j < B.size → suc r ≤ R.times a (B.lead j) → Leaves (shift R a (B.member j))) → Leaves (shift R a (B.member j))
      go (inl n) all = all j a l n
      go (inr n) all = at_rank r (omega arith) (λ t h. all t.place t.mono h.known h.below) j a l (omega arith)

  -- nothing is left of a multiple of an entry
  pub all_gone : (j a : ℕ) → j < B.size → Leaves (shift R a (B.member j))
  all_gone j a l = go_all corner 0 (omega arith) j a l (omega arith)

-- the term at the rank r of the lead is kept, where it is a multiple of no lead
module _ (R : Ranks) (L : IsRanks R) (B : Basis) (M : IsMonic R B) where
  -- taking a term away keeps the terms of lesser ranks
  pub keeps_one : (j x : ℕ) (v : Vector) → x < j → j < R.n → Same R.p (remove R B j v x) (v x)
  keeps_one j x v l n = go (first_lead R B j) refl
    where
      go : (o : Option Hit) → first_lead R B j ≡ o → Same R.p (remove_by R B j v o x) (v x)
      go None e = same_refl _ _
      go (Some h) e = let f = first_is R L B j h n e in
          same_trans (same_add (same_refl R.p (v x)) (same_times ((R.p - 1) * v j) ((multiple_lowest R L B M j h.place h.cofactor f.known n f.is).at x l))) (same_of _ _ _ (omega arith))

  -- division keeps the terms of ranks that it has passed
  keeps : (k j x : ℕ) (v : Vector) → x < j → j + k ≤ R.n → Same R.p (remainder_from R B k j v x) (v x)
  keeps zero j x v l n = same_of _ _ _ (ap (λ b. cond b (v x) 0) (lt-ltb x j l))
  keeps (suc k) j x v l n = same_trans (keeps k (suc j) x (remove R B j v) (omega arith) (omega arith)) (keeps_one j x v l (omega arith))

  -- v begins at x, which is a multiple of no lead
  kept : (i k j x : ℕ) (v : Vector) → j + i ≡ x → x + suc k ≤ R.n → first_lead R B x ≡ None → Agree R x v nothing → Same R.p (remainder_from R B (i + suc k) j v x) (v x)
  kept zero k j x v e n f h = let z : suc k ≡ 0 + suc k = omega arith in subst (λ z. Same R.p (remainder_from R B z j v x) (v x)) z (same_trans (keeps k (suc j) x (remove R B j v) (omega arith) (omega arith)) here)
    where
      here : Same R.p (remove R B j v x) (v x)
      here = subst (λ o. Same R.p (remove_by R B j v o x) (v x)) (sym f ∙ ap (first_lead R B) (omega arith)) (same_refl _ _)
  kept (suc i) k j x v e n f h = let z : suc (i + suc k) ≡ suc i + suc k = omega arith in subst (λ z. Same R.p (remainder_from R B z j v x) (v x)) z
      (same_trans ((remainder_agree R B (i + suc k) (suc j) _ _ (omega arith) (remove_none R B j v (h.at j (omega arith)))).at x (omega arith)) (kept i k (suc j) x v (omega arith) n f h))

  -- The lead of what leaves nothing is a multiple of a lead.
  pub lead_multiple : (corner : ℕ) → IsCover R B corner → (v : Vector) → Gone R B corner 0 v → (x : ℕ) → x < R.n → Agree R x v nothing → (Same R.p (v x) 0 → ⊥) → IsMultiple R B x
  lead_multiple corner C v g x l low not0 = go (cases_lt x corner)
    where
      go : (x < corner) ⊎ (corner ≤ x) → IsMultiple R B x
      go (inr m) = C.covers x m l
      go (inl m) = go2 (first_lead R B x) refl
        where
          go2 : (o : Option Hit) → first_lead R B x ≡ o → IsMultiple R B x
          go2 (Some h) e = let f = first_is R L B x h l e in record { place = h.place; cofactor = h.cofactor; known = f.known; is = f.is }
          go2 None e = absurd (not0 (same_trans (same_sym (let y : x + suc (corner - suc x) ≡ corner = omega arith in subst (λ z. Same R.p (remainder_from R B z 0 v x) (v x)) y (kept x (corner - suc x) 0 x v (omega arith) (omega (arith, C.within)) e low))) (g.gone.at x l)))

  -- taking a term away adds no term before a rank
  pub remove_past : (m j : ℕ) (v : Vector) → m ≤ R.n → j < R.n → Agree R m v nothing → Agree R m (remove R B j v) nothing
  remove_past m j v l n h = go (cases_lt j m)
    where
      go : (j < m) ⊎ (m ≤ j) → Agree R m (remove R B j v) nothing
      go (inl k) = agree_trans (agree_below l (remove_none R B j v (h.at j k))) h
      go (inr k) = record { at = λ x o. same_trans (keeps_one j x v (omega arith) n) (h.at x o) }

  -- v begins at m or later, and nothing is left of it: it is in each space of the multiples of entries that do so.
  pub gone_span : (corner : ℕ) → IsCover R B corner → (S : Vector → Type 0) → IsSpace R S → (m : ℕ) → m ≤ R.n → ((t : Part) → IsFrom R B B.size m t → S (shift R t.mono (B.member t.place)))
      → (k j : ℕ) → j + k ≡ corner → (v : Vector) → Agree R m v nothing → Gone R B k j v → S v
  gone_span corner C S I m mn up zero j e v h g = echelon R L S I (max corner m) pivots v (record { at = λ x o. go x o (cases_lt x corner) })
    where
      pivots : (r : ℕ) → max corner m ≤ r → r < R.n → Pivot R S r
      pivots r l n = let c = C.covers r (omega arith) n in record {
        poly = shift R c.cofactor (B.member c.place);
        member = up (record { coef = 1; mono = c.cofactor; place = c.place }) (record { earlier = c.known; from = omega (arith, c.is) });
        lowest = multiple_lowest R L B M r c.place c.cofactor c.known n c.is;
        one = multiple_one R L B M r c.place c.cofactor c.known n c.is;
      }

      go : (x : ℕ) → x < max corner m → (x < corner) ⊎ (corner ≤ x) → Same R.p (v x) 0
      go x o (inr n) = h.at x (omega arith)
      go x o (inl n) = same_trans (same_of _ _ _ (sym (ap (λ b. cond b (v x) 0) (lt-ltb x j (omega arith))))) (g.gone.at x (omega (arith, C.within)))
  gone_span corner C S I m mn up (suc k) j e v h g = go (λ u x y. gone_span corner C S I m mn up k (suc j) (omega arith) u x y)
    where
      jn : j < R.n
      jn = omega (arith, C.within)

      less_gone : Gone R B k (suc j) (remove R B j v)
      less_gone = record { gone = g.gone }

      go : ((u : Vector) → Agree R m u nothing → Gone R B k (suc j) u → S u) → S v
      go step = go2 (first_lead R B j) refl (step (remove R B j v) (remove_past m j v mn jn h) less_gone) (cases_lt j m)
        where
          go2 : (o : Option Hit) → first_lead R B j ≡ o → S (remove_by R B j v o) → (j < m) ⊎ (m ≤ j) → S v
          go2 None f s c = s
          go2 (Some x) f s (inr n) = let y = first_is R L B j x jn f in
              in_from_less R L S I (v j) _ v (up (record { coef = 1; mono = x.cofactor; place = x.place }) (record { earlier = y.known; from = omega (arith, y.is, n) })) s
          go2 (Some x) f s (inl n) = I.alike _ _ (agree_sym (subst (λ o. Agree R R.n (remove_by R B j v o) v) f (remove_none R B j v (h.at j n)))) s
