-- There is one staircase and one first missing monomial at most, and where the degree fits none is missing.
-- Staircases fall and have the same members; of two missing monomials neither is above the other.
use Rattle.std.proofs.Common.{◌≡◌, ℕ, ◌<◌, ◌≤◌, ◌⊎◌, List, Contains, sym, ◌∙◌, inl, inr, ⊎_elim, arith}
use Rattle.std.proofs.lemmas.Bool.{cases_lt}
use Rattle.local_order.specs.Mono.{degree}
use Rattle.local_order.specs.Order.{IsAbove}
use Rattle.local_order.proofs.Order.{above_cases}
use Rattle.sparse_poly.specs.Ideal.{Problem, IsStaircase, Fits, IsFirstMissing}
use Rattle.sparse_poly.proofs.Falling.{Among, among_of_contains, contains_of_among, falling_same}

-- each monomial of one staircase is in the other
over : (P : Problem) (s t : List (List ℕ)) → IsStaircase P s → IsStaircase P t → (m : List ℕ) → Among s m → Among t m
over P s t x y m h =
    let c : Contains s m = contains_of_among s m h in
    let o = x.only m c in
    among_of_contains t m ((y.exactly m o.0 o.1).1 ((x.exactly m o.0 o.1).0 c))

-- so they are the same
pub one_staircase : (P : Problem) (s t : List (List ℕ)) → IsStaircase P s → IsStaircase P t → s ≡ t
one_staircase P s t x y = falling_same P s t x.falling y.falling (over P s t x y) (over P t s y x)

-- two first missing monomials are the same
pub one_missing : (P : Problem) (m k : List ℕ) → IsFirstMissing P m → IsFirstMissing P k → m ≡ k
one_missing P m k x y = go (above_cases m k (x.in_ring ∙ sym y.in_ring))
  where
    go : (m ≡ k) ⊎ (IsAbove m k ⊎ IsAbove k m) → m ≡ k
    go (inl e) = e
    go (inr (inl a)) = absurd (x.missing (y.first m x.in_ring x.top a))
    go (inr (inr a)) = absurd (y.missing (x.first k y.in_ring y.top a))

-- where the degree fits none is missing
pub none_missing : (P : Problem) (m : List ℕ) → Fits P → IsFirstMissing P m → ⊥
none_missing P m fits x = x.missing (fits m x.in_ring x.top)

-- and the staircase has monomials of lesser degree alone
pub low_staircase : (P : Problem) (s : List (List ℕ)) (m : List ℕ) → Fits P → IsStaircase P s → Contains s m → degree m < P.d
low_staircase P s m fits x c =
    let o = x.only m c in
    ⊎_elim
    (λ (low : degree m < P.d). low)
    (λ (high : P.d ≤ degree m). absurd ((x.exactly m o.0 o.1).0 c (fits m o.0 (omega (arith, o.1)))))
    (cases_lt (degree m) P.d)
