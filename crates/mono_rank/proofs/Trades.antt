-- Monomials that come from one another by trading powers of the first variable for powers of the second: each trade is a step
-- to the next monomial, and goes over to products. So their ranks follow each other, and so do those of their multiples.
use Rattle.std.proofs.Common.{◌≡◌, ℕ, zero, suc, ◌+◌, ◌-◌, ◌<◌, ◌≤◌, List, [], ◌∷◌, length, get_or, refl, sym, ◌∙◌, ap, ap₂, subst, arith}
use Rattle.local_order.specs.Mono.{degree, mono_times}
use Rattle.local_order.specs.Shape.{Shape, count}
use Rattle.local_order.proofs.Order.{length-mono_times}
use Rattle.mono_rank.specs.Rank.{HasRank}
use Rattle.mono_rank.specs.Next.{run_of}
use Rattle.mono_rank.proofs.Places.{place}
use Rattle.mono_rank.proofs.Steps.{next}
use Rattle.mono_rank.proofs.Walk.{place-next}
use Rattle.mono_rank.proofs.Ranks.{rank_is, rank_small, one_of_rank}

-- k powers of the first variable become powers of the second
abbrev pub traded : ℕ → List ℕ → List ℕ
traded k [] = []
traded k (x ∷ []) = x ∷ []
traded k (x ∷ y ∷ m) = (x - k) ∷ (y + k) ∷ m

-- a trade keeps the number of variables
length-traded : (k : ℕ) (m : List ℕ) → length (traded k m) ≡ length m
length-traded k [] = refl
length-traded k (x ∷ []) = refl
length-traded k (x ∷ y ∷ m) = refl

-- and the degree
degree-traded : (k : ℕ) (m : List ℕ) → k < run_of m → degree (traded k m) ≡ degree m
degree-traded k [] l = refl
degree-traded k (x ∷ []) l = refl
degree-traded k (x ∷ y ∷ m) l = omega arith

-- k trades are k steps
place-traded : (k : ℕ) (m : List ℕ) → k < run_of m → place (traded k m) ≡ place m + k
place-traded k [] l = omega arith
place-traded k (x ∷ []) l = omega arith
place-traded zero (x ∷ y ∷ m) l = ap₂ (λ a b. place (a ∷ b ∷ m)) (let e : x - 0 ≡ x = omega arith in e) (let e : y + 0 ≡ y = omega arith in e) ∙ (let e : place (x ∷ y ∷ m) ≡ place (x ∷ y ∷ m) + 0 = omega arith in e)
place-traded (suc k) (x ∷ y ∷ m) l =
    let z : ℕ = x - suc k in
    let front : x - k ≡ suc z = omega arith in
    let back : y + suc k ≡ suc (y + k) = omega arith in
    let step : place (z ∷ suc (y + k) ∷ m) ≡ suc (place (suc z ∷ (y + k) ∷ m)) = place-next (suc z ∷ (y + k) ∷ m) (omega arith) in
    let before : place ((x - k) ∷ (y + k) ∷ m) ≡ place (x ∷ y ∷ m) + k = place-traded k (x ∷ y ∷ m) (omega arith) in
    ap (λ b. place (z ∷ b ∷ m)) back ∙ step ∙ omega (arith, before, ap (λ a. place (a ∷ (y + k) ∷ m)) front)

-- a product has as many powers of the first variable to trade as a factor
run-times : (x y : List ℕ) → length x ≡ length y → run_of y ≤ run_of (mono_times x y)
run-times [] y e = omega arith
run-times (a ∷ x) [] e = absurd (omega arith)
run-times (a ∷ []) (b ∷ []) e = omega arith
run-times (a ∷ []) (b ∷ c ∷ y) e = absurd (omega arith)
run-times (a ∷ d ∷ x) (b ∷ []) e = absurd (omega arith)
run-times (a ∷ d ∷ x) (b ∷ c ∷ y) e = omega arith

-- a trade in a factor is a trade in the product
times-traded : (k : ℕ) (x y : List ℕ) → length x ≡ length y → k < run_of y → mono_times x (traded k y) ≡ traded k (mono_times x y)
times-traded k [] [] e l = refl
times-traded k [] (b ∷ y) e l = absurd (omega arith)
times-traded k (a ∷ x) [] e l = absurd (omega arith)
times-traded k (a ∷ []) (b ∷ []) e l = refl
times-traded k (a ∷ []) (b ∷ c ∷ y) e l = absurd (omega arith)
times-traded k (a ∷ d ∷ x) (b ∷ []) e l = absurd (omega arith)
times-traded k (a ∷ d ∷ x) (b ∷ c ∷ y) e l =
    ap₂ (λ v w. v ∷ w ∷ mono_times x y) (let f : a + (b - k) ≡ a + b - k = omega arith in f) (let f : d + (c + k) ≡ d + c + k = omega arith in f)

-- so k trades raise the rank by k
rank_traded : (T : Shape) (y : List ℕ) (r k : ℕ) → 1 ≤ T.variables → HasRank T y r → k < run_of y → HasRank T (traded k y) (r + k)
rank_traded T y r k some h l = record { in_ring = in_ring; low = low; rank = rank_is T (traded k y) some in_ring low ∙ omega (arith, place-traded k y l, rank_is T y some h.in_ring h.low, h.rank) }
  where
    in_ring : length (traded k y) ≡ T.variables
    in_ring = length-traded k y ∙ h.in_ring

    low : degree (traded k y) ≤ T.degree
    low = omega (arith, degree-traded k y l, h.low)

-- what stands in a run comes by trades from its first monomial
in_run : (T : Shape) (y z : List ℕ) (r k : ℕ) → 1 ≤ T.variables → HasRank T y r → HasRank T z (r + k) → k < run_of y → z ≡ traded k y
in_run T y z r k some h j l = one_of_rank T z (traded k y) (r + k) j (rank_traded T y r k some h l)

-- a run has a monomial
pub run_some : (m : List ℕ) → 1 ≤ run_of m
run_some [] = omega arith
run_some (x ∷ []) = omega arith
run_some (x ∷ y ∷ m) = omega arith

-- all of a run are monomials up to the degree
pub run_within : (T : Shape) (y : List ℕ) (r : ℕ) → 1 ≤ T.variables → HasRank T y r → r + run_of y ≤ count T
run_within T y r some h = omega (arith, rank_small T _ _ (rank_traded T y r (run_of y - 1) some h (omega (arith, run_some y))), run_some y)

-- the monomials of a run have one degree
pub run_degree : (T : Shape) (y z : List ℕ) (r k : ℕ) → 1 ≤ T.variables → HasRank T y r → HasRank T z (r + k) → k < run_of y → degree z ≡ degree y
run_degree T y z r k some h j l = ap degree (in_run T y z r k some h j l) ∙ degree-traded k y l

-- the multiples of a run by a monomial follow each other as the run does
pub run_products : (T : Shape) (x y z : List ℕ) (a r k p : ℕ) → 1 ≤ T.variables → HasRank T x a → HasRank T y r → HasRank T z (r + k) → k < run_of y → HasRank T (mono_times x y) p
    → HasRank T (mono_times x z) (p + k)
run_products T x y z a r k p some f h j l g =
    let same : length x ≡ length y = f.in_ring ∙ sym h.in_ring in
    subst (λ m. HasRank T m (p + k)) (sym (ap (mono_times x) (in_run T y z r k some h j l) ∙ times-traded k x y same l))
    (rank_traded T (mono_times x y) p k some g (omega (arith, run-times x y same, l)))
