-- Some staircase there is: the ranks are gone through in their order, and whether a monomial is a multiple of a lead can be tested.
-- A list of ranks has a least one of a degree, or none, so a degree fits, or a monomial of it is the first missing one.
use Rattle.std.proofs.Common.{◌≡◌, ℕ, zero, suc, ◌+◌, ◌<◌, ◌≤◌, ◌↔◌, ◌⊎◌, ◌≢◌, List, [], ◌∷◌, ◌++◌, length, map, get_or, Bool, true, false, IsTrue, refl, sym, ◌∙◌, ap, subst, inl, inr, add-one, arith}
use Rattle.std.specs.List.{Contains}
use Rattle.std.proofs.lemmas.Bool.{cases_lt, cases_eq}
use Rattle.std.proofs.lemmas.List.{get_or_default}
use Rattle.local_order.specs.Mono.{degree}
use Rattle.local_order.specs.Shape.{Shape, count}
use Rattle.sparse_poly.specs.Shape.{shape_of}
use Rattle.sparse_poly.specs.Ideal.{Problem, IsStaircase, Fits, IsFirstMissing}
use Rattle.mono_rank.specs.Rank.{HasRank, mono_of_rank}
use Rattle.mono_rank.specs.Cover.{IsMultipleOfRanks}
use Rattle.mono_rank.proofs.Members.{in_rest, first_or_rest}
use Rattle.mono_rank.proofs.Ranks.{rank_reached, one_of_rank}
use Rattle.mono_rank.proofs.Walk.{walk}
use Rattle.staircase.specs.Stair.{IsRising, IsStairOf, IsLeastOfDegree, ShowLeads}
use Rattle.staircase.proofs.Decided.{multiple_decided}
use Rattle.staircase.proofs.Picks.{IsStairUpTo, stair_first, stair_joins, stair_leaves, stair_last}
use Rattle.staircase.proofs.Shown.{rising_rest, ranked, stair_is, fits_by_ranks, missing_is}

module _ (T : Shape) (leads : List ℕ) (some : 1 ≤ T.variables) where
  -- Up to each rank there is a staircase of the leads.
  up_to : (i : ℕ) → i ≤ count T → (ranks : List ℕ) × IsStairUpTo T leads ranks i
  up_to zero low = ([], stair_first T leads)
  up_to (suc i) low = go (up_to i (omega (arith, low))) (multiple_decided T leads (walk T.variables i) some has.in_ring)
    where
      has : HasRank T (walk T.variables i) i
      has = rank_reached T i some (omega (arith, low))

      same : (m : List ℕ) → HasRank T m i → walk T.variables i ≡ m
      same m h = one_of_rank T (walk T.variables i) m i has h

      go : (ranks : List ℕ) × IsStairUpTo T leads ranks i → IsMultipleOfRanks T leads (walk T.variables i) ⊎ (¬ IsMultipleOfRanks T leads (walk T.variables i)) →
          (ranks : List ℕ) × IsStairUpTo T leads ranks (suc i)
      go (ranks, S) (inl M) = (
        ranks,
        subst (IsStairUpTo T leads ranks) (add-one i)
            (stair_leaves T leads ranks ranks i S (λ m h. (λ t. subst (IsMultipleOfRanks T leads) (same m h) M, λ N. refl)) refl),
      )
      go (ranks, S) (inr none) = (
        ranks ++ i ∷ [],
        subst (IsStairUpTo T leads (ranks ++ i ∷ [])) (add-one i)
            (stair_joins T leads ranks (ranks ++ i ∷ []) i S
            (λ m h. (λ (t : IsTrue false). absurd (let w : false ≡ true = t in cc (w)), λ N. absurd (none (subst (IsMultipleOfRanks T leads) (sym (same m h)) N)))) refl),
      )

  -- Some ranks are the staircase of the leads.
  pub some_stair : (ranks : List ℕ) × IsStairOf T leads ranks
  some_stair = let x = up_to (count T) (omega arith) in (x.0, stair_last T leads x.0 (count T) some refl x.1)

-- ---- a degree
module _ (T : Shape) (e : ℕ) where
  -- none of the ranks is that of a monomial of the degree
  abbrev pub HasNone : List ℕ → Type 0
  HasNone ranks = (r : ℕ) → Contains ranks r → degree (mono_of_rank T r) ≡ e → ⊥

  -- A rising list begins with its least.
  first_least : (r q : ℕ) (ranks : List ℕ) → IsRising (r ∷ ranks) → Contains ranks q → r ≤ q
  first_least r q ranks rises (k, l, is) = omega (arith, rises.rising 0 (suc k) (omega arith) (omega (arith, l)), get_or_default ranks k 0 q l, is)

  -- Rising ranks have a least one of the degree, or none.
  pub least_or_none : (ranks : List ℕ) → IsRising ranks → ((r : ℕ) × IsLeastOfDegree T e ranks r) ⊎ HasNone ranks
  least_or_none [] rises = inr (λ r c d. absurd (omega (arith, c.1)))
  least_or_none (r ∷ ranks) rises = go (cases_eq (degree (mono_of_rank T r)) e) (least_or_none ranks (rising_rest r ranks rises))
    where
      go : (degree (mono_of_rank T r) ≡ e) ⊎ (degree (mono_of_rank T r) ≢ e) → ((q : ℕ) × IsLeastOfDegree T e ranks q) ⊎ HasNone ranks →
          ((q : ℕ) × IsLeastOfDegree T e (r ∷ ranks) q) ⊎ HasNone (r ∷ ranks)
      go (inl here) rest = inl (r, record { there = (0, omega arith, refl); of_degree = here; least = λ q c d. before q (first_or_rest r q ranks c) })
        where
          before : (q : ℕ) → (r ≡ q) ⊎ Contains ranks q → r ≤ q
          before q (inl same) = omega (arith, same)
          before q (inr c) = first_least r q ranks rises c
      go (inr other) (inl (q, is)) = inl (q, record { there = in_rest r q ranks is.there; of_degree = is.of_degree; least = λ k c d. behind k d (first_or_rest r k ranks c) })
        where
          behind : (k : ℕ) → degree (mono_of_rank T k) ≡ e → (r ≡ k) ⊎ Contains ranks k → q ≤ k
          behind k d (inl same) = absurd (other (ap (λ x. degree (mono_of_rank T x)) same ∙ d))
          behind k d (inr c) = is.least k c d
      go (inr other) (inr none) = inr (λ q c d. neither q d (first_or_rest r q ranks c))
        where
          neither : (q : ℕ) → degree (mono_of_rank T q) ≡ e → (r ≡ q) ⊎ Contains ranks q → ⊥
          neither q d (inl same) = other (ap (λ x. degree (mono_of_rank T x)) same ∙ d)
          neither q d (inr c) = none q c d

-- ---- an ideal
module _ (P : Problem) (leads : List ℕ) (some : 1 ≤ P.n) (shown : ShowLeads P leads) where
  -- the staircase of the leads
  it : (ranks : List ℕ) × IsStairOf (shape_of P) leads ranks
  it = some_stair (shape_of P) leads some

  -- Where some leads show those of the ideal, the ideal has a staircase.
  pub some_staircase : (s : List (List ℕ)) × IsStaircase P s
  some_staircase = (map (mono_of_rank (shape_of P)) it.0, stair_is P leads it.0 some shown it.1)

  -- And the degree fits, or there is a first missing monomial.
  pub fits_or_first : Fits P ⊎ ((m : List ℕ) × IsFirstMissing P m)
  fits_or_first = go (least_or_none (shape_of P) P.d it.0 it.1.rises)
    where
      go : ((r : ℕ) × IsLeastOfDegree (shape_of P) P.d it.0 r) ⊎ HasNone (shape_of P) P.d it.0 → Fits P ⊎ ((m : List ℕ) × IsFirstMissing P m)
      go (inl (r, least)) = inr (mono_of_rank (shape_of P) r, missing_is P leads it.0 some shown it.1 r least)
      go (inr none) = inl ((fits_by_ranks P leads it.0 some shown it.1).0 (λ r c. lower r c (cases_lt (degree (mono_of_rank (shape_of P) r)) P.d)))
        where
          lower : (r : ℕ) → Contains it.0 r → (degree (mono_of_rank (shape_of P) r) < P.d) ⊎ (P.d ≤ degree (mono_of_rank (shape_of P) r)) → degree (mono_of_rank (shape_of P) r) < P.d
          lower r c (inl l) = l
          lower r c (inr l) = absurd (none r c (omega (arith, l, (ranked P leads it.0 some shown it.1 r c).0.low)))
