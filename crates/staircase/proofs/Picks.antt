-- The ranks are gone through in their order, and those of multiples are left out: what is picked rises, and is the staircase at the end.
-- The first of a rising list that is not below a number is the least such.
use Rattle.std.proofs.Common.{◌≡◌, ℕ, zero, suc, ◌+◌, ◌-◌, ◌<◌, ◌≤◌, ◌↔◌, ◌⊎◌, List, [], ◌∷◌, ◌++◌, length, get_or, All, Bool, true, false, IsTrue, refl, ap, sym, ◌∙◌, subst, inl, inr, arith}
use Rattle.std.specs.List.{Contains}
use Rattle.std.proofs.lemmas.Bool.{cases_lt}
use Rattle.std.proofs.lemmas.List.{length-append, get_or_default, get_or_append_left, get_or-append_right}
use Rattle.std.proofs.lemmas.List.Elements.{All-get_or, All-push, All-weaker, All-contains, Contains-get_or, Contains-append_left, Contains-push, Contains-push_cases}
use Rattle.local_order.specs.Mono.{Divides}
use Rattle.local_order.specs.Shape.{Shape, count}
use Rattle.mono_rank.specs.Rank.{HasRank, fewer}
use Rattle.mono_rank.specs.Cover.{IsMultipleOfRanks}
use Rattle.mono_rank.proofs.Walk.{walk}
use Rattle.mono_rank.proofs.Ranks.{rank_low, rank_reached}
use Rattle.mono_rank.specs.Stored.{HasLimits}
use Rattle.staircase.specs.Stair.{IsRising, IsStairOf, HasFirsts, IsStairKept}

-- ---- one rank
-- none of the leads before place i divides the monomial of the rank
abbrev pub NoneDivides : Shape → List ℕ → ℕ → ℕ → Type 0
NoneDivides T leads rank i = (j : ℕ) (k m : List ℕ) → j < i → HasRank T k (get_or leads j 0) → HasRank T m rank → ¬ Divides k m

-- one more doesn't
pub none_more : (T : Shape) (leads : List ℕ) (rank i l : ℕ) (b : Bool) → NoneDivides T leads rank i → l ≡ get_or leads i 0 → b ≡ false →
    ((x y : List ℕ) → HasRank T x l → HasRank T y rank → IsTrue b ↔ Divides x y) → NoneDivides T leads rank (i + 1)
none_more T leads rank i l b N e f says j k m g h r D = go (cases_lt j i)
  where
    go : (j < i) ⊎ (i ≤ j) → ⊥
    go (inl a) = N j k m a h r D
    go (inr a) =
        let same : j ≡ i = omega arith in
        let t : b ≡ true = (says k m (subst (HasRank T k) (ap (λ p. get_or leads p 0) same ∙ sym e) h) r).1 D in
        let no : false ≡ true = sym f ∙ t in
        absurd (cc (no))

-- where one does, the monomial is a multiple
pub one_divides : (T : Shape) (leads : List ℕ) (rank i l : ℕ) (b : Bool) → 1 ≤ T.variables → All (λ l. l < count T) leads → i < length leads → l ≡ get_or leads i 0 → b ≡ true →
    ((x y : List ℕ) → HasRank T x l → HasRank T y rank → IsTrue b ↔ Divides x y) →
    (m : List ℕ) → HasRank T m rank → IsTrue true ↔ IsMultipleOfRanks T leads m
one_divides T leads rank i l b some low there e f says m h = (λ t. (l, walk T.variables l, subst (Contains leads) (sym e) (Contains-get_or leads i 0 there), has, (says (walk T.variables l) m has h).0 f), λ M. refl)
  where
    has : HasRank T (walk T.variables l) l
    has = rank_reached T l some (subst (λ k. k < count T) (sym e) (All-get_or (λ l. l < count T) leads i 0 there low))

-- where none does, it is none
pub none_divides : (T : Shape) (leads : List ℕ) (rank i : ℕ) → NoneDivides T leads rank i → length leads ≤ i → (m : List ℕ) → HasRank T m rank →
    IsTrue false ↔ IsMultipleOfRanks T leads m
none_divides T leads rank i N all m h = (λ (t : IsTrue false). absurd (let w : false ≡ true = t in cc (w)), λ M. absurd (no M))
  where
    no : IsMultipleOfRanks T leads m → ⊥
    no M =
        let is : get_or leads M.2.0 0 ≡ M.0 = get_or_default leads M.2.0 0 M.0 M.2.1 ∙ M.2.2 in
        N M.2.0 M.1 m (omega (arith, M.2.1)) (subst (HasRank T M.1) (sym is) M.3) h M.4

-- ---- all ranks
-- the ranks below i of monomials that are no multiples
pub record IsStairUpTo (T : Shape) (leads : List ℕ) (ranks : List ℕ) (i : ℕ) : Type 0 where
  pub rises : IsRising ranks
  pub low : All (λ r. r < i) ranks
  pub exactly : (m : List ℕ) (r : ℕ) → r < i → HasRank T m r → Contains ranks r ↔ (¬ IsMultipleOfRanks T leads m)

-- at first there are none
pub stair_first : (T : Shape) (leads : List ℕ) → IsStairUpTo T leads [] 0
stair_first T leads = record {
  rises = record { rising = λ i j l k. absurd (omega (arith, k)) };
  low = λ k z l. absurd (omega (arith, l));
  exactly = λ m r l h. absurd (omega (arith, l));
}

-- a rising list goes on with a number above all
rising_push : (ranks : List ℕ) (r : ℕ) → IsRising ranks → All (λ k. k < r) ranks → IsRising (ranks ++ r ∷ [])
rising_push ranks r R low = record { rising = λ i j l k. go i j l (omega (arith, k, length-append ranks (r ∷ []))) (cases_lt j (length ranks)) }
  where
    left : (i : ℕ) → i < length ranks → get_or (ranks ++ r ∷ []) i 0 ≡ get_or ranks i 0
    left i l = get_or_append_left ranks (r ∷ []) 0 i l

    go : (i j : ℕ) → i < j → j < length ranks + 1 → (j < length ranks) ⊎ (length ranks ≤ j) → get_or (ranks ++ r ∷ []) i 0 < get_or (ranks ++ r ∷ []) j 0
    go i j l k (inl a) = omega (arith, left i (omega arith), left j a, R.rising i j l a)
    go i j l k (inr a) =
        let at : get_or (ranks ++ r ∷ []) j 0 ≡ r =
        get_or-append_right ranks (r ∷ []) (length ranks) j 0 refl a ∙ ap (λ p. get_or (r ∷ []) p 0) (let z : j - length ranks ≡ 0 = omega arith in z) in
        omega (arith, left i (omega arith), at, All-get_or (λ k. k < r) ranks i 0 (omega arith) low)

-- the next rank is that of no multiple, and joins
pub stair_joins : (T : Shape) (leads ranks u : List ℕ) (i : ℕ) → IsStairUpTo T leads ranks i → ((m : List ℕ) → HasRank T m i → IsTrue false ↔ IsMultipleOfRanks T leads m) →
    u ≡ ranks ++ i ∷ [] → IsStairUpTo T leads u (i + 1)
stair_joins T leads ranks u i S none e = subst (λ s. IsStairUpTo T leads s (i + 1)) (sym e) (record {
  rises = rising_push ranks i S.rises S.low;
  low = All-push (λ r. r < i + 1) ranks i (All-weaker (λ r. r < i) (λ r. r < i + 1) (λ r l. omega arith) ranks S.low) (omega arith);
  exactly = λ m r l h. go m r l h (cases_lt r i);
})
  where
    go : (m : List ℕ) (r : ℕ) → r < i + 1 → HasRank T m r → (r < i) ⊎ (i ≤ r) → Contains (ranks ++ i ∷ []) r ↔ (¬ IsMultipleOfRanks T leads m)
    go m r l h (inl a) = (λ c. old c (Contains-push_cases ranks i r c), λ no. Contains-append_left ranks (i ∷ []) r ((S.exactly m r a h).1 no))
      where
        old : Contains (ranks ++ i ∷ []) r → Contains ranks r ⊎ (i ≡ r) → ¬ IsMultipleOfRanks T leads m
        old c (inl b) = (S.exactly m r a h).0 b
        old c (inr b) = absurd (omega (arith, b))
    go m r l h (inr a) =
        let same : r ≡ i = omega arith in
        (λ c M. absurd (let w : false ≡ true = (none m (subst (HasRank T m) same h)).1 M in cc (w)), λ no. subst (Contains (ranks ++ i ∷ [])) (sym same) (Contains-push ranks i))

-- the next rank is that of a multiple, and is left out
pub stair_leaves : (T : Shape) (leads ranks u : List ℕ) (i : ℕ) → IsStairUpTo T leads ranks i → ((m : List ℕ) → HasRank T m i → IsTrue true ↔ IsMultipleOfRanks T leads m) →
    u ≡ ranks → IsStairUpTo T leads u (i + 1)
stair_leaves T leads ranks u i S some e = subst (λ s. IsStairUpTo T leads s (i + 1)) (sym e) (record {
  rises = S.rises;
  low = All-weaker (λ r. r < i) (λ r. r < i + 1) (λ r l. omega arith) ranks S.low;
  exactly = λ m r l h. go m r l h (cases_lt r i);
})
  where
    go : (m : List ℕ) (r : ℕ) → r < i + 1 → HasRank T m r → (r < i) ⊎ (i ≤ r) → Contains ranks r ↔ (¬ IsMultipleOfRanks T leads m)
    go m r l h (inl a) = S.exactly m r a h
    go m r l h (inr a) =
        let same : r ≡ i = omega arith in
        (λ c. absurd (omega (arith, All-contains (λ k. k < i) ranks r S.low c)), λ no. absurd (no ((some m (subst (HasRank T m) same h)).0 refl)))

-- at the end it is the staircase
pub stair_last : (T : Shape) (leads ranks : List ℕ) (i : ℕ) → 1 ≤ T.variables → i ≡ count T → IsStairUpTo T leads ranks i → IsStairOf T leads ranks
stair_last T leads ranks i some e S = record { rises = S.rises; exactly = λ r. (there r, back r) }
  where
    there : (r : ℕ) → Contains ranks r → (m : List ℕ) × HasRank T m r × (¬ IsMultipleOfRanks T leads m)
    there r c =
        let l : r < i = All-contains (λ k. k < i) ranks r S.low c in
        let h : HasRank T (walk T.variables r) r = rank_reached T r some (omega arith) in
        (walk T.variables r, h, (S.exactly (walk T.variables r) r l h).0 c)

    back : (r : ℕ) → (m : List ℕ) × HasRank T m r × (¬ IsMultipleOfRanks T leads m) → Contains ranks r
    back r M = (S.exactly M.0 r (omega (arith, e, rank_low T M.0 M.1.in_ring M.1.low, M.1.rank)) M.1).1 M.2

-- its ranks are below the number of monomials
stair_low : (T : Shape) (leads ranks : List ℕ) → IsStairOf T leads ranks → All (λ r. r < count T) ranks
stair_low T leads ranks S = λ k z l. at k z l
  where
    at : (k z : ℕ) → k < length ranks → get_or ranks k z < count T
    at k z l =
        let has = (S.exactly (get_or ranks k z)).0 (Contains-get_or ranks k z l) in
        omega (arith, rank_low T has.0 has.1.in_ring has.1.low, has.1.rank)

-- what is picked over a table can be kept
pub kept_over : (T M : Shape) (leads ranks firsts : List ℕ) → M ≡ T → HasLimits T → IsStairOf T leads ranks → HasFirsts T firsts → IsStairKept M ranks firsts
kept_over T M leads ranks firsts e L S F = subst (λ x. IsStairKept x ranks firsts) (sym e) (record { limits = L; rises = S.rises; low = stair_low T leads ranks S; starts = F })

-- rising numbers are at least as great as their places
rising_long : (ranks : List ℕ) → IsRising ranks → (i : ℕ) → i < length ranks → i ≤ get_or ranks i 0
rising_long ranks R zero l = omega arith
rising_long ranks R (suc i) l = omega (arith, rising_long ranks R i (omega arith), R.rising i (suc i) (omega arith) l)

-- so there are at most as many as the numbers below a bound
pub rising_few : (ranks : List ℕ) (N : ℕ) → IsRising ranks → All (λ r. r < N) ranks → length ranks ≤ N
rising_few ranks N R low = go (cases_lt 0 (length ranks))
  where
    go : (0 < length ranks) ⊎ (length ranks ≤ 0) → length ranks ≤ N
    go (inl l) =
        omega (arith, rising_long ranks R (length ranks - 1) (omega arith), All-get_or (λ r. r < N) ranks (length ranks - 1) 0 (omega arith) low)
    go (inr l) = omega arith

-- ---- first ranks
-- those of the degrees below i
pub record HasFirstsUpTo (n : ℕ) (firsts : List ℕ) (i : ℕ) : Type 0 where
  pub long : length firsts ≡ i
  pub each : (e : ℕ) → e < i → get_or firsts e 0 ≡ fewer n e

-- ---- the first from a number on
-- those before place i are below it
abbrev pub AllBelowUpTo : List ℕ → ℕ → ℕ → Type 0
AllBelowUpTo ranks low i = (j : ℕ) → j < i → get_or ranks j 0 < low
