-- The first lead that divides a monomial, and multiples of vectors that begin at a rank.
-- What a search finds is the first, and the first is found; products grow with their factors.
use Rattle.std.proofs.Common.{ℕ, ◌<◌, ◌≤◌, ◌≡◌, true, false, Option, Some, None, refl, sym, ◌∙◌, ap, subst, arith, ◌⊎◌, inl, inr}
use Rattle.std.specs.Prelude.{find, is_some, option_map, option_and_then}
use Rattle.std.specs.List.{range_with_len}
use Rattle.std.proofs.lemmas.Bool.{cases_lt}
use Rattle.rank_algebra.specs.Ranks.{Ranks, IsRanks}
use Rattle.rank_algebra.specs.Vector.{Same, Vector, nothing, coef_at, shift, Agree}
use Rattle.rank_algebra.specs.Division.{Basis, Hit, divides_at, hit_at, first_lead, IsMultiple}
use Rattle.rank_algebra.proofs.Residues.{same_refl}
use Rattle.rank_algebra.proofs.Linear.{quotient_eq}
use Rattle.rank_algebra.proofs.Searches.{found, found_first, not_found, first_found}

-- the first lead that divides r
pub record IsFirst (R : Ranks) (B : Basis) (r : ℕ) (h : Hit) : Type 0 where
  pub known : h.place < B.size
  pub is : R.times h.cofactor (B.lead h.place) ≡ r
  pub first : (j q : ℕ) → j < h.place → R.times q (B.lead j) ≡ r → ⊥

module _ (R : Ranks) (L : IsRanks R) (B : Basis) where
  -- a multiple of a lead has the cofactor as quotient
  pub quotient_lead : (r j q : ℕ) → r < R.n → R.times q (B.lead j) ≡ r → R.quotient r (B.lead j) ≡ Some q
  quotient_lead r j q l e = quotient_eq R L r (B.lead j) q l (L.comm (B.lead j) q ∙ e)

  -- what is found is the first lead that divides
  pub first_is : (r : ℕ) (h : Hit) → r < R.n → first_lead R B r ≡ Some h → IsFirst R B r h
  unfolding first_lead
  first_is r h l e = go (find (divides_at R B r) (range_with_len 0 B.size)) refl e
    where
      at : (k : ℕ) → find (divides_at R B r) (range_with_len 0 B.size) ≡ Some k → (o : Option ℕ) → R.quotient r (B.lead k) ≡ o → is_some o ≡ true
          → option_map {U = Hit} (λ q. record { place = k; cofactor = q }) o ≡ Some h → IsFirst R B r h
      at k f None g t e = absurd (cc t)
      at k f (Some q) g t e = let z : record { place = k; cofactor = q } ≡ h = cc e in subst (IsFirst R B r) z (record {
        known = omega (arith, (found (divides_at R B r) 0 B.size k f).0);
        is = L.comm q (B.lead k) ∙ L.quotient_times r (B.lead k) q g;
        first = λ j y m d. absurd (cc (sym (ap is_some (quotient_lead r j y l d)) ∙ found_first (divides_at R B r) 0 B.size k f j (omega arith) m));
      })

      go : (o : Option ℕ) → find (divides_at R B r) (range_with_len 0 B.size) ≡ o → option_and_then (hit_at R B r) o ≡ Some h → IsFirst R B r h
      go None f e = absurd (cc e)
      go (Some k) f e = at k f (R.quotient r (B.lead k)) refl (found (divides_at R B r) 0 B.size k f).1 e

  -- where nothing is found there is no multiple of a lead
  pub first_none : (r : ℕ) → r < R.n → first_lead R B r ≡ None → IsMultiple R B r → ⊥
  unfolding first_lead
  first_none r l e m = go (find (divides_at R B r) (range_with_len 0 B.size)) refl e
    where
      at : (k : ℕ) (o : Option ℕ) → R.quotient r (B.lead k) ≡ o → is_some o ≡ true → option_map {U = Hit} (λ q. record { place = k; cofactor = q }) o ≡ None → ⊥
      at k None g t e = absurd (cc t)
      at k (Some q) g t e = absurd (cc e)

      go : (o : Option ℕ) → find (divides_at R B r) (range_with_len 0 B.size) ≡ o → option_and_then (hit_at R B r) o ≡ None → ⊥
      go None f e = absurd (cc (sym (ap is_some (quotient_lead r m.place m.cofactor l m.is)) ∙ not_found (divides_at R B r) 0 B.size f m.place (omega arith) (omega (arith, m.known))))
      go (Some k) f e = at k (R.quotient r (B.lead k)) refl (found (divides_at R B r) 0 B.size k f).1 e

  -- the first lead that divides is found
  pub first_found_is : (r : ℕ) (h : Hit) → r < R.n → IsFirst R B r h → first_lead R B r ≡ Some h
  unfolding first_lead
  first_found_is r h l f =
      ap (option_and_then (hit_at R B r)) (first_found (divides_at R B r) 0 B.size h.place (omega arith) (omega (arith, f.known)) (ap is_some quotient) (λ j m n. none j n (R.quotient r (B.lead j)) refl))
      ∙ ap (option_map {U = Hit} (λ q. record { place = h.place; cofactor = q })) quotient
    where
      quotient : R.quotient r (B.lead h.place) ≡ Some h.cofactor
      quotient = quotient_lead r h.place h.cofactor l f.is

      none : (j : ℕ) → j < h.place → (o : Option ℕ) → R.quotient r (B.lead j) ≡ o → is_some o ≡ false
      none j n None e = refl
      none j n (Some q) e = absurd (f.first j q n (L.comm q (B.lead j) ∙ L.quotient_times r (B.lead j) q e))

  -- where no lead divides nothing is found
  pub none_first : (r : ℕ) → r < R.n → (IsMultiple R B r → ⊥) → first_lead R B r ≡ None
  none_first r l n = go (first_lead R B r) refl
    where
      go : (o : Option Hit) → first_lead R B r ≡ o → o ≡ None
      go None e = refl
      go (Some h) e = let f = first_is r h l e in absurd (n (record { place = h.place; cofactor = h.cofactor; known = f.known; is = f.is }))

-- the multiples of polynomials that begin at w
module _ (R : Ranks) (L : IsRanks R) where
  -- a lesser product has a lesser factor
  times_less : (a w s : ℕ) → R.times a s < R.n → R.times a s < R.times a w → s < w
  times_less a w s l h = go (cases_lt s w)
    where
      go : (s < w) ⊎ (w ≤ s) → s < w
      go (inl k) = k
      go (inr k) = go2 (cases_lt w s)
        where
          go2 : (w < s) ⊎ (s ≤ w) → s < w
          go2 (inl m) = absurd (omega (arith, h, L.grows a w s m l))
          go2 (inr m) = let z : w ≡ s = omega arith in absurd (omega (arith, h, ap (R.times a) z))

  -- the multiple of a vector from w on begins no earlier than the multiple of w
  pub shift_lowest : (a w : ℕ) (v : Vector) → Agree R w v nothing → (r : ℕ) → r < R.n → r < R.times a w → Same R.p (shift R a v r) 0
  shift_lowest a w v h r l m = go (R.quotient r a) refl
    where
      go : (o : Option ℕ) → R.quotient r a ≡ o → Same R.p (coef_at v o) 0
      go None e = same_refl _ _
      go (Some s) e = let z = L.quotient_times r a s e in h.at s (times_less a w s (subst (λ x. x < R.n) (sym z) l) (subst (λ x. x < R.times a w) (sym z) m))

  -- and has there the coefficient at w
  pub shift_at : (a w : ℕ) (v : Vector) → R.times a w < R.n → shift R a v (R.times a w) ≡ v w
  shift_at a w v l = ap (coef_at v) (L.times_quotient a w l)

  -- a factor may be cancelled
  pub times_cancel : (a x y : ℕ) → R.times a x < R.n → R.times a x ≡ R.times a y → x ≡ y
  times_cancel a x y l e = go (cases_lt x y) (cases_lt y x)
    where
      go : (x < y) ⊎ (y ≤ x) → (y < x) ⊎ (x ≤ y) → x ≡ y
      go (inl k) c = absurd (omega (arith, L.grows a x y k (subst (λ z. z < R.n) e l), e))
      go (inr k) (inl m) = absurd (omega (arith, L.grows a y x m l, e))
      go (inr k) (inr m) = omega arith
