-- A walk over the ranks of a row, run by run: the products of a run with one monomial follow each other, and what is made of each residue stands at its product's rank.
-- Products with one monomial differ where the factors do, so each rank of the result is written once.
use Rattle.std.proofs.Common.{◌≡◌, ◌≢◌, ℕ, suc, ◌+◌, ◌-◌, ◌<◌, ◌≤◌, ◌⊎◌, List, get_or, refl, ap, sym, ◌∙◌, inl, inr, subst, arith}
use Rattle.std.proofs.lemmas.Bool.{cases_lt}
use Rattle.local_order.specs.Mono.{degree, mono_times}
use Rattle.local_order.specs.Shape.{Shape, count}
use Rattle.local_order.proofs.Order.{mono_times_cancel, degree-mono_times}
use Rattle.mono_rank.specs.Rank.{HasRank, mono_of_rank}
use Rattle.mono_rank.proofs.Pascal.{fewer_in_degree}
use Rattle.mono_rank.proofs.ByRank.{rank-mono_of_rank}
use Rattle.mono_rank.proofs.Ranks.{one_of_rank, one_rank, rank_small, rank_from, rank_below}

-- equal products with monomials of one rank have factors of one rank
pub same_factor : (T : Shape) (x u y v : List ℕ) (a j k : ℕ) → HasRank T x a → HasRank T u a → HasRank T y j → HasRank T v k → mono_times x y ≡ mono_times u v → j ≡ k
same_factor T x u y v a j k hx hu hy hv e =
    let same : u ≡ x = one_of_rank T u x a hu hx in
    one_rank T y v j k hy hv
    (mono_times_cancel x y v (hx.in_ring ∙ sym hy.in_ring) (hx.in_ring ∙ sym hv.in_ring) (e ∙ ap (λ z. mono_times z v) same))

-- the ranks of the products of a run are below the number of monomials
pub products_low : (T : Shape) (a s r run : ℕ) → 1 ≤ T.variables → a < count T → 0 < run → s + run ≤ count T →
    ((x y : List ℕ) → HasRank T x a → HasRank T y s → HasRank T (mono_times x y) r) →
    ((x y z : List ℕ) (a k r : ℕ) → k < run → HasRank T x a → HasRank T y s → HasRank T z (s + k) → HasRank T (mono_times x y) r → HasRank T (mono_times x z) (r + k)) →
    r + run ≤ count T
products_low T a s r run some la nonempty within product follow =
    omega (arith, nonempty, rank_small T (mono_times x z) (r + (run - 1)) (follow x y z a (run - 1) r (omega arith) hx hy hz (product x y hx hy)))
  where
    x : List ℕ
    x = mono_of_rank T a

    y : List ℕ
    y = mono_of_rank T s

    z : List ℕ
    z = mono_of_rank T (s + (run - 1))

    hx : HasRank T x a
    hx = rank-mono_of_rank T a some la

    hy : HasRank T y s
    hy = rank-mono_of_rank T s some (omega arith)

    hz : HasRank T z (s + (run - 1))
    hz = rank-mono_of_rank T (s + (run - 1)) some (omega arith)

-- m is no multiple by a monomial of rank below s
abbrev pub IsUntouched : Shape → ℕ → List ℕ → List ℕ → Type 0
IsUntouched T s x m = (y : List ℕ) (j : ℕ) → j < s → HasRank T y j → m ≢ mono_times x y

-- the residues of rank below s are walked: at the rank of a product stands what f makes of it and the residue, and at those of no product what h tells
pub record WalkedTo (T : Shape) (a s : ℕ) (f : ℕ → ℕ → ℕ) (h : ℕ → ℕ) (g new : List ℕ) : Type 0 where
  pub done : (x y : List ℕ) (j k : ℕ) → j < s → HasRank T x a → HasRank T y j → HasRank T (mono_times x y) k → get_or new k 0 ≡ f k (get_or g j 0)
  pub rest : (x m : List ℕ) (k : ℕ) → HasRank T x a → HasRank T m k → IsUntouched T s x m → get_or new k 0 ≡ h k

-- a run is walked whose ranks begin at s, and those of its products at r
pub record WalksRun (s r run : ℕ) (f : ℕ → ℕ → ℕ) (h : ℕ → ℕ) (g old new : List ℕ) : Type 0 where
  pub inside : (k : ℕ) → k < run → get_or old (r + k) 0 ≡ h (r + k) → get_or new (r + k) 0 ≡ f (r + k) (get_or g (s + k) 0)
  pub before : (j : ℕ) → j < r → get_or new j 0 ≡ get_or old j 0
  pub behind : (j : ℕ) → r + run ≤ j → get_or new j 0 ≡ get_or old j 0

-- what no product before the end of a run touches, no product before its beginning does
fewer_untouched : (T : Shape) (s t : ℕ) (x m : List ℕ) → s ≤ t → IsUntouched T t x m → IsUntouched T s x m
fewer_untouched T s t x m l u y j k hy = u y j (omega arith) hy

-- the product with a monomial of a rank from s on is no product with one before
later_untouched : (T : Shape) (a s j : ℕ) (x y : List ℕ) → HasRank T x a → HasRank T y j → s ≤ j → IsUntouched T s x (mono_times x y)
later_untouched T a s j x y hx hy l z i m hz e = omega (arith, same_factor T x x y z a j i hx hx hy hz e)

-- a later monomial has no lesser degree
pub later_degree : (T : Shape) (y z : List ℕ) (s j : ℕ) → 1 ≤ T.variables → HasRank T y s → HasRank T z j → s ≤ j → degree y ≤ degree z
later_degree T y z s j some hy hz l = go (cases_lt (degree z) (degree y))
  where
    go : (degree z < degree y) ⊎ (degree y ≤ degree z) → degree y ≤ degree z
    go (inl m) = absurd (omega (arith, l, rank_from T y s some hy, rank_below T z j some hz, fewer_in_degree T.variables (suc (degree z)) (degree y) m))
    go (inr m) = m

-- where a product is beyond the degree, it and all later ones have no rank
pub walked_beyond : (T : Shape) (a s t : ℕ) (f : ℕ → ℕ → ℕ) (h : ℕ → ℕ) (g new : List ℕ) → 1 ≤ T.variables → s ≤ t → WalkedTo T a s f h g new → s < count T →
    ((x y : List ℕ) → HasRank T x a → HasRank T y s → T.degree < degree (mono_times x y)) → WalkedTo T a t f h g new
walked_beyond T a s t f h g new some l w ls high = record {
  done = λ x y j k m hx hy hk. go x y j k hx hy hk (cases_lt j s);
  rest = λ x m k hx hm u. w.rest x m k hx hm (fewer_untouched T s t x m l u);
}
  where
    first : List ℕ
    first = mono_of_rank T s

    first_rank : HasRank T first s
    first_rank = rank-mono_of_rank T s some ls

    go : (x y : List ℕ) (j k : ℕ) → HasRank T x a → HasRank T y j → HasRank T (mono_times x y) k → (j < s) ⊎ (s ≤ j) → get_or new k 0 ≡ f k (get_or g j 0)
    go x y j k hx hy hk (inl m) = w.done x y j k m hx hy hk
    go x y j k hx hy hk (inr m) = absurd (omega (
      arith,
      high x first hx first_rank,
      later_degree T first y s j some first_rank hy m,
      degree-mono_times x first,
      degree-mono_times x y,
      hk.low,
    ))

-- at the ranks of the products of a run stand the products of its monomials
in_run : (T : Shape) (a s r run : ℕ) → 1 ≤ T.variables → s + run ≤ count T →
    ((x y : List ℕ) → HasRank T x a → HasRank T y s → HasRank T (mono_times x y) r) →
    ((x y z : List ℕ) (a k r : ℕ) → k < run → HasRank T x a → HasRank T y s → HasRank T z (s + k) → HasRank T (mono_times x y) r → HasRank T (mono_times x z) (r + k)) →
    0 < run → (x m : List ℕ) (k : ℕ) → HasRank T x a → HasRank T m k → r ≤ k → k < r + run → (y : List ℕ) × HasRank T y (s + (k - r)) × (m ≡ mono_times x y)
in_run T a s r run some within product follow nonempty x m k hx hm l o = (
  y,
  hy,
  one_of_rank T m (mono_times x y) (r + (k - r)) (subst (HasRank T m) (omega arith) hm) (follow x first y a (k - r) r (omega arith) hx first_rank hy (product x first hx first_rank)),
)
  where
    first : List ℕ
    first = mono_of_rank T s

    first_rank : HasRank T first s
    first_rank = rank-mono_of_rank T s some (omega arith)

    y : List ℕ
    y = mono_of_rank T (s + (k - r))

    hy : HasRank T y (s + (k - r))
    hy = rank-mono_of_rank T (s + (k - r)) some (omega arith)

-- a run more is walked
pub walked_run : (T : Shape) (a s r run : ℕ) (f : ℕ → ℕ → ℕ) (h : ℕ → ℕ) (g new after : List ℕ) → 1 ≤ T.variables → WalkedTo T a s f h g new → s + run ≤ count T →
    ((x y : List ℕ) → HasRank T x a → HasRank T y s → HasRank T (mono_times x y) r) →
    ((x y z : List ℕ) (a k r : ℕ) → k < run → HasRank T x a → HasRank T y s → HasRank T z (s + k) → HasRank T (mono_times x y) r → HasRank T (mono_times x z) (r + k)) →
    0 < run → WalksRun s r run f h g new after → WalkedTo T a (s + run) f h g after
walked_run T a s r run f h g new after some w within product follow nonempty step = record {
  done = λ x y j k l hx hy hk. go x y j k l hx hy hk (cases_lt j s);
  rest = λ x m k hx hm u. elsewhere k (λ l o.
      let q = in_run T a s r run some within product follow nonempty x m k hx hm l o in
      u q.0 (s + (k - r)) (omega (arith, l, o)) q.1 q.2) ∙ w.rest x m k hx hm (fewer_untouched T s (s + run) x m (omega arith) u);
}
  where
    -- outside of the products of the run nothing changes
    elsewhere : (k : ℕ) → (r ≤ k → k < r + run → ⊥) → get_or after k 0 ≡ get_or new k 0
    elsewhere k n = by (cases_lt k r) (cases_lt k (r + run))
      where
        by : (k < r) ⊎ (r ≤ k) → (k < r + run) ⊎ (r + run ≤ k) → get_or after k 0 ≡ get_or new k 0
        by (inl l) _ = step.before k l
        by (inr l) (inr o) = step.behind k o
        by (inr l) (inl o) = absurd (n l o)

    go : (x y : List ℕ) (j k : ℕ) → j < s + run → HasRank T x a → HasRank T y j → HasRank T (mono_times x y) k → (j < s) ⊎ (s ≤ j) → get_or after k 0 ≡ f k (get_or g j 0)
    go x y j k l hx hy hk (inl m) = elsewhere k (λ o q.
        let z = in_run T a s r run some within product follow nonempty x (mono_times x y) k hx hk o q in
        omega (arith, m, same_factor T x x y z.0 a j (s + (k - r)) hx hx hy z.1 z.2)) ∙ w.done x y j k m hx hy hk
    go x y j k l hx hy hk (inr m) =
        let i : ℕ = j - s in
        let first_rank = rank-mono_of_rank T s some (omega (arith, nonempty, within)) in
        let there : HasRank T y (s + i) = subst (HasRank T y) (omega arith) hy in
        let at : HasRank T (mono_times x y) (r + i) = follow x (mono_of_rank T s) y a i r (omega arith) hx first_rank there (product x (mono_of_rank T s) hx first_rank) in
        let rank : r + i ≡ k = one_rank T (mono_times x y) (mono_times x y) (r + i) k at hk refl in
        let place : s + i ≡ j = omega arith in
        let before : get_or new k 0 ≡ h k = w.rest x (mono_times x y) k hx hk (later_untouched T a s j x y hx hy m) in
        let there_before : get_or new (r + i) 0 ≡ h (r + i) = subst (λ k. get_or new k 0 ≡ h k) (sym rank) before in
        subst (λ k. get_or after k 0 ≡ f k (get_or g j 0)) rank
        (subst (λ j. get_or after (r + i) 0 ≡ f (r + i) (get_or g j 0)) place (step.inside i (omega arith) there_before))
