-- Whether a monomial is a multiple of a lead can be tested, lead by lead: each lead is the rank of one monomial at most.
-- So the last rank of a staircase is that before the corner, and there is none where the corner is 0.
use Rattle.std.proofs.Common.{◌≡◌, ◌≢◌, ℕ, ◌+◌, ◌-◌, ◌<◌, ◌≤◌, ◌↔◌, ◌⊎◌, List, [], ◌∷◌, length, get_or, refl, ap, sym, ◌∙◌, subst, inl, inr, arith}
use Rattle.std.specs.Prelude.{slice_get, Some}
use Rattle.std.specs.List.{Contains}
use Rattle.std.proofs.lemmas.Bool.{cases_lt}
use Rattle.std.proofs.lemmas.List.{get_or_default}
use Rattle.std.proofs.lemmas.List.Elements.{Contains-get_or}
use Rattle.std.proofs.lemmas.Option.{slice_get_within, get_or_from_slice_get}
use Rattle.local_order.specs.Mono.{mono_times, Divides}
use Rattle.local_order.specs.Shape.{Shape, count}
use Rattle.local_order.proofs.Order.{divides_cases}
use Rattle.mono_rank.specs.Rank.{HasRank}
use Rattle.mono_rank.specs.Cover.{IsMultipleOfRanks, Covers, IsCorner}
use Rattle.mono_rank.proofs.Walk.{walk}
use Rattle.mono_rank.proofs.Members.{first_or_rest, in_rest}
use Rattle.mono_rank.proofs.Ranks.{rank_low, rank_reached, one_of_rank}
use Rattle.staircase.specs.Stair.{IsRising, IsStairOf}

-- whether the lead l divides m
abbrev IsMultipleOf : Shape → ℕ → List ℕ → Type 0
IsMultipleOf T l m = (k : List ℕ) × HasRank T k l × Divides k m

-- a lead divides a monomial or not
one_decided : (T : Shape) (l : ℕ) (m : List ℕ) → 1 ≤ T.variables → length m ≡ T.variables → IsMultipleOf T l m ⊎ (¬ IsMultipleOf T l m)
one_decided T l m some e = go (cases_lt l (count T))
  where
    go : (l < count T) ⊎ (count T ≤ l) → IsMultipleOf T l m ⊎ (¬ IsMultipleOf T l m)
    go (inr f) = inr (λ M. absurd (omega (arith, rank_low T M.0 M.1.in_ring M.1.low, M.1.rank)))
    go (inl f) = at (divides_cases (walk T.variables l) m (h.in_ring ∙ sym e))
      where
        h : HasRank T (walk T.variables l) l
        h = rank_reached T l some f

        at : Divides (walk T.variables l) m ⊎ ((k : List ℕ) → length k ≡ length m → m ≢ mono_times (walk T.variables l) k) → IsMultipleOf T l m ⊎ (¬ IsMultipleOf T l m)
        at (inl D) = inl (walk T.variables l, h, D)
        at (inr none) = inr (λ M. wrong M)
          where
            wrong : IsMultipleOf T l m → ⊥
            wrong M = let D : Divides (walk T.variables l) m = subst (λ k. Divides k m) (one_of_rank T M.0 (walk T.variables l) l M.1 h) M.2 in none D.0 D.1 D.2

-- whether some lead does
pub multiple_decided : (T : Shape) (leads m : List ℕ) → 1 ≤ T.variables → length m ≡ T.variables → IsMultipleOfRanks T leads m ⊎ (¬ IsMultipleOfRanks T leads m)
multiple_decided T [] m some e = inr (λ M. absurd (let l : M.2.0 < 0 = M.2.1 in omega (arith, l)))
multiple_decided T (l ∷ leads) m some e = go (one_decided T l m some e) (multiple_decided T leads m some e)
  where
    go : IsMultipleOf T l m ⊎ (¬ IsMultipleOf T l m) → IsMultipleOfRanks T leads m ⊎ (¬ IsMultipleOfRanks T leads m) → IsMultipleOfRanks T (l ∷ leads) m ⊎ (¬ IsMultipleOfRanks T (l ∷ leads) m)
    go (inl M) o = inl (l, M.0, (0, omega arith, refl), M.1, M.2)
    go (inr never) (inl M) = inl (M.0, M.1, in_rest l M.0 leads M.2, M.3, M.4)
    go (inr never) (inr none) = inr (λ M. here M (first_or_rest l M.0 leads M.2))
      where
        here : (M : IsMultipleOfRanks T (l ∷ leads) m) → (l ≡ M.0) ⊎ Contains leads M.0 → ⊥
        here M (inl f) = never (M.1, subst (HasRank T M.1) (sym f) M.3, M.4)
        here M (inr c) = none (M.0, M.1, c, M.3, M.4)

-- ---- the corner
-- from a rank on that is behind all those of the staircase, each monomial is a multiple
covers_from : (T : Shape) (leads ranks : List ℕ) (v : ℕ) → 1 ≤ T.variables → IsStairOf T leads ranks → ((r : ℕ) → Contains ranks r → r < v) → Covers T leads v
covers_from T leads ranks v some S behind m r l h = go (multiple_decided T leads m some h.in_ring)
  where
    go : IsMultipleOfRanks T leads m ⊎ (¬ IsMultipleOfRanks T leads m) → IsMultipleOfRanks T leads m
    go (inl M) = M
    go (inr never) = absurd (omega (arith, behind r ((S.exactly r).1 (m, h, never))))

-- each rank of the staircase is below the corner
below_corner : (T : Shape) (leads ranks : List ℕ) (w r : ℕ) → IsStairOf T leads ranks → IsCorner T leads w → Contains ranks r → r < w
below_corner T leads ranks w r S C c = go (cases_lt r w)
  where
    has : (m : List ℕ) × HasRank T m r × (¬ IsMultipleOfRanks T leads m)
    has = (S.exactly r).0 c

    go : (r < w) ⊎ (w ≤ r) → r < w
    go (inl l) = l
    go (inr l) = absurd (has.2 (C.covers has.0 r l has.1))

-- none exactly where the corner is 0
pub none_at_zero : (M : Shape) (leads ranks : List ℕ) (w : ℕ) → 1 ≤ M.variables → IsStairOf M leads ranks → IsCorner M leads w → (ranks ≡ []) ↔ (w ≡ 0)
none_at_zero M leads ranks w some S C = (there, back ranks S)
  where
    there : ranks ≡ [] → w ≡ 0
    there e =
        let low : w ≤ 0 = C.least 0 (covers_from M leads ranks 0 some S (λ r c. absurd (omega (arith, c.1, ap length e)))) in
        omega arith

    back : (s : List ℕ) → IsStairOf M leads s → w ≡ 0 → s ≡ []
    back [] T e = refl
    back (x ∷ s) T e = absurd (omega (arith, below_corner M leads (x ∷ s) w x T C (0, omega arith, refl)))

-- a rising list has none above its last
last_greatest : (ranks : List ℕ) (r q : ℕ) → IsRising ranks → slice_get ranks (length ranks - 1) ≡ Some r → Contains ranks q → q ≤ r
last_greatest ranks r q R e c = go (cases_lt c.0 (length ranks - 1))
  where
    is : get_or ranks (length ranks - 1) 0 ≡ r
    is = get_or_from_slice_get ranks (length ranks - 1) r 0 e

    at : get_or ranks c.0 0 ≡ q
    at = get_or_default ranks c.0 0 q c.1 ∙ c.2

    go : (c.0 < length ranks - 1) ⊎ (length ranks - 1 ≤ c.0) → q ≤ r
    go (inl l) = omega (arith, is, at, R.rising c.0 (length ranks - 1) l (omega (arith, c.1)))
    go (inr l) = let same : c.0 ≡ length ranks - 1 = omega (arith, c.1) in omega (arith, is, at, ap (λ i. get_or ranks i 0) same)

-- the last is that before the corner
pub last_before : (T : Shape) (leads ranks : List ℕ) (w r : ℕ) → 1 ≤ T.variables → IsStairOf T leads ranks → IsCorner T leads w →
    slice_get ranks (length ranks - 1) ≡ Some r → r + 1 ≡ w
last_before T leads ranks w r some S C e =
    let last : Contains ranks r = subst (Contains ranks) (get_or_from_slice_get ranks (length ranks - 1) r 0 e) (Contains-get_or ranks (length ranks - 1) 0 (slice_get_within ranks (length ranks - 1) r e)) in
    omega (
      arith,
      below_corner T leads ranks w r S C last,
      C.least (r + 1) (covers_from T leads ranks (r + 1) some S (λ q c. omega (arith, last_greatest ranks r q S.rises e c))),
    )
