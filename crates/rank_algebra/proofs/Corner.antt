-- The corner of some leads is the least rank that covers, and sees the leads alone.
-- A rank passes the test of the definition exactly where it covers; the last one is n, where nothing is left to cover.
use Rattle.std.proofs.Common.{ℕ, ◌-◌, ◌<◌, ◌≤◌, ◌≡◌, Bool, true, Option, Some, None, refl, sym, ◌∙◌, ap, arith, ◌⊎◌, inl, inr}
use Rattle.std.specs.Prelude.{find, is_some, option_map, option_and_then, unwrap_or}
use Rattle.std.specs.List.{range_with_len}
use Rattle.std.proofs.lemmas.Bool.{cases_lt}
use Rattle.rank_algebra.specs.Ranks.{Ranks, IsRanks}
use Rattle.rank_algebra.specs.Division.{Basis, Hit, divides_at, hit_at, first_lead, first_of, IsMultiple, IsCover, covers_from, corner_of}
use Rattle.rank_algebra.proofs.First.{first_is, first_none}
use Rattle.rank_algebra.proofs.Searches.{found, found_first, not_found, find_same, each_passes, all_pass, all_same}

module _ (R : Ranks) (L : IsRanks R) (B : Basis) where
  -- where a lead is found the rank is that of a multiple
  multiple_by_test : (r : ℕ) → r < R.n → is_some (first_lead R B r) ≡ true → IsMultiple R B r
  multiple_by_test r l t = go (first_lead R B r) refl t
    where
      go : (o : Option Hit) → first_lead R B r ≡ o → is_some o ≡ true → IsMultiple R B r
      go None e t = absurd (cc t)
      go (Some h) e t = let f = first_is R L B r h l e in record { place = h.place; cofactor = h.cofactor; known = f.known; is = f.is }

  -- and where it is, a lead is found
  test_by_multiple : (r : ℕ) → r < R.n → IsMultiple R B r → is_some (first_lead R B r) ≡ true
  test_by_multiple r l m = go (first_lead R B r) refl
    where
      go : (o : Option Hit) → first_lead R B r ≡ o → is_some o ≡ true
      go None e = absurd (first_none R L B r l e m)
      go (Some h) e = refl

  -- a rank that passes the test covers
  cover_by_test : (w : ℕ) → w ≤ R.n → covers_from R B w ≡ true → IsCover R B w
  cover_by_test w l t = record { within = l; covers = λ r m n. multiple_by_test r n (each_passes (λ x. is_some (first_lead R B x)) w (R.n - w) t r m (omega arith)) }

  -- and one that covers passes it
  test_by_cover : (w : ℕ) → IsCover R B w → covers_from R B w ≡ true
  test_by_cover w c = all_pass (λ x. is_some (first_lead R B x)) w (R.n - w) (λ r m n. test_by_multiple r (omega (arith, c.within, n)) (c.covers r m (omega (arith, c.within, n))))

  -- the corner covers
  pub corner_is : IsCover R B (corner_of R B)
  unfolding corner_of
  corner_is = go (find (covers_from R B) (range_with_len 0 R.n)) refl
    where
      go : (o : Option ℕ) → find (covers_from R B) (range_with_len 0 R.n) ≡ o → IsCover R B (unwrap_or o R.n)
      go None e = record { within = omega arith; covers = λ r m n. absurd (omega (arith, m, n)) }
      go (Some w) e = let f = found (covers_from R B) 0 R.n w e in cover_by_test w (omega (arith, f.0)) f.1

  -- no lesser rank covers
  pub corner_least : (w : ℕ) → IsCover R B w → corner_of R B ≤ w
  unfolding corner_of
  corner_least w c = go (find (covers_from R B) (range_with_len 0 R.n)) refl
    where
      go : (o : Option ℕ) → find (covers_from R B) (range_with_len 0 R.n) ≡ o → unwrap_or o R.n ≤ w
      go None e = least (cases_lt w R.n)
        where
          least : (w < R.n) ⊎ (R.n ≤ w) → R.n ≤ w
          least (inl l) = absurd (cc (sym (test_by_cover w c) ∙ not_found (covers_from R B) 0 R.n e w (omega arith) (omega arith)))
          least (inr l) = l
      go (Some x) e = least (cases_lt w x)
        where
          least : (w < x) ⊎ (x ≤ w) → x ≤ w
          least (inl l) = absurd (cc (sym (test_by_cover w c) ∙ found_first (covers_from R B) 0 R.n x e w (omega arith) l))
          least (inr l) = l

-- a later rank is a corner too
pub corner_later : (R : Ranks) (B : Basis) (c w : ℕ) → IsCover R B c → c ≤ w → w ≤ R.n → IsCover R B w
corner_later R B c w h l m = record { within = m; covers = λ r n o. h.covers r (omega (arith, l, n)) o }

-- B' begins as B does
pub record Begins (s : ℕ) (B B' : Basis) : Type 0 where
  pub member : (k : ℕ) → k < s → B'.member k ≡ B.member k
  pub lead : (k : ℕ) → k < s → B'.lead k ≡ B.lead k

-- searches among the same leads find the same
first_same : (R : Ranks) (B B' : Basis) (s i : ℕ) → i ≤ s → Begins s B B' → (r : ℕ) → first_lead R (first_of i B') r ≡ first_lead R (first_of i B) r
unfolding first_lead
first_same R B B' s i l b r =
    ap (option_and_then (hit_at R (first_of i B') r)) (find_same (divides_at R (first_of i B') r) (divides_at R (first_of i B) r) 0 i (λ k m. ap (λ x. is_some (R.quotient r x)) (b.lead k (omega arith))))
    ∙ go (find (divides_at R (first_of i B) r) (range_with_len 0 i)) refl
  where
    go : (o : Option ℕ) → find (divides_at R (first_of i B) r) (range_with_len 0 i) ≡ o → option_and_then (hit_at R (first_of i B') r) o ≡ option_and_then (hit_at R (first_of i B) r) o
    go None e = refl
    go (Some k) e = let f = found (divides_at R (first_of i B) r) 0 i k e in
        ap (λ x. option_map {U = Hit} (λ q. record { place = k; cofactor = q }) (R.quotient r x)) (b.lead k (omega (arith, l, f.0)))

-- the corner of the first leads sees these alone
pub corner_of_same : (R : Ranks) (B B' : Basis) (s i : ℕ) → i ≤ s → Begins s B B' → corner_of R (first_of i B') ≡ corner_of R (first_of i B)
unfolding corner_of
corner_of_same R B B' s i l b = ap (λ o. unwrap_or o R.n)
    (find_same (covers_from R (first_of i B')) (covers_from R (first_of i B)) 0 R.n (λ w m. all_same (λ r. is_some (first_lead R (first_of i B') r)) (λ r. is_some (first_lead R (first_of i B) r)) w (R.n - w) (λ r. ap is_some (first_same R B B' s i l b r))))
