-- Ranks of the greatest degree: they are those from the number of monomials of lesser degree on, and the last rank is one.
use Rattle.std.proofs.Common.{◌≡◌, ℕ, zero, suc, ◌<◌, ◌≤◌, ◌⊎◌, List, ap, inl, inr, arith}
use Rattle.std.proofs.lemmas.Bool.{cases_lt}
use Rattle.local_order.specs.Mono.{degree}
use Rattle.local_order.specs.Count.{monomial_count}
use Rattle.local_order.specs.Shape.{Shape, count}
use Rattle.mono_rank.specs.Rank.{HasRank, fewer}
use Rattle.mono_rank.proofs.Pascal.{count_in_degree}
use Rattle.mono_rank.proofs.Looks.{fewer_small}
use Rattle.mono_rank.proofs.Ranks.{rank_from, rank_below, rank_reached}
use Rattle.mono_rank.proofs.Walk.{walk}

-- from the first rank of the greatest degree on, all monomials have this degree
pub top_rank : (T : Shape) (m : List ℕ) (r : ℕ) → 1 ≤ T.variables → HasRank T m r → fewer T.variables T.degree ≤ r → degree m ≡ T.degree
top_rank T m r some h = reached T.degree h.low
  where
    reached : (d : ℕ) → degree m ≤ d → fewer T.variables d ≤ r → degree m ≡ d
    reached zero low from = omega (arith, low)
    reached (suc e) low from = go (cases_lt e (degree m))
      where
        go : (e < degree m) ⊎ (degree m ≤ e) → degree m ≡ suc e
        go (inl g) = omega (arith, low)
        go (inr g) = absurd (omega (arith, from, rank_below T m r some h, count_in_degree T.variables (degree m) e g))

-- and all monomials of this degree have such ranks
pub rank_top : (T : Shape) (m : List ℕ) (r : ℕ) → 1 ≤ T.variables → HasRank T m r → degree m ≡ T.degree → fewer T.variables T.degree ≤ r
rank_top T m r some h e = omega (arith, rank_from T m r some h, ap (fewer T.variables) e)

-- the monomial of the last rank has the greatest degree
pub last_degree : (T : Shape) (e r : ℕ) → 1 ≤ T.variables → suc r ≡ count T → e ≤ T.degree → ((m : List ℕ) → HasRank T m r → e ≡ degree m) → e ≡ T.degree
last_degree T e r some l low is = go (cases_lt e T.degree)
  where
    h : HasRank T (walk T.variables r) r
    h = rank_reached T r some (omega arith)

    go : (e < T.degree) ⊎ (T.degree ≤ e) → e ≡ T.degree
    go (inl k) =
        let same : monomial_count T.variables e ≡ monomial_count T.variables (degree (walk T.variables r)) = ap (monomial_count T.variables) (is (walk T.variables r) h) in
        absurd (omega (arith, same, rank_below T (walk T.variables r) r some h, fewer_small T.variables T.degree (suc e) k some))
    go (inr k) = omega arith
