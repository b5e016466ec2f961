-- A fact on the monomials up to a degree holds where it follows from the same on all that are less.
-- Of the monomials in the list of all, fewer are above the greater of two, so that finitely many steps lead down.
use Rattle.std.proofs.Common.{◌≡◌, ℕ, zero, suc, ◌+◌, ◌<◌, ◌≤◌, List, [], ◌∷◌, length, Bool, true, false, cond, refl, ap, ◌∙◌, inl, inr, arith}
use Rattle.local_order.specs.Mono.{degree}
use Rattle.local_order.specs.Order.{IsAbove, above}
use Rattle.local_order.specs.Count.{monomials}
use Rattle.local_order.proofs.Order.{above_irrefl, above_trans, above-true, above-intro}
use Rattle.local_order.proofs.Listing.{in_monomials}
use Rattle.sparse_poly.proofs.Falling.{Among, among_of_contains}

-- how many of a list are above m
abbrev number_above : List (List ℕ) → List ℕ → ℕ
number_above [] m = 0
number_above (k ∷ l) m = cond (above k m) 1 0 + number_above l m

-- at most all
number_above-le : (l : List (List ℕ)) (m : List ℕ) → number_above l m ≤ length l
number_above-le [] m = omega arith
number_above-le (k ∷ l) m = step (above k m) (number_above-le l m)
  where
    step : (b : Bool) → number_above l m ≤ length l → cond b 1 0 + number_above l m ≤ suc (length l)
    step true i = omega arith
    step false i = omega arith

-- a test that holds where another does counts no less
test-le : (x y : Bool) → (x ≡ true → y ≡ true) → cond x 1 0 ≤ cond y 1 0
test-le true true h = omega arith
test-le true false h = let e : false ≡ true = h refl in absurd cc
test-le false true h = omega arith
test-le false false h = omega arith

-- what is above the greater is above the less
above-down : (k a b : List ℕ) → IsAbove a b → above k a ≡ true → above k b ≡ true
above-down k a b h e = above-intro k b (above_trans k a b (above-true k a e) h)

-- so no more are above the greater
number_above-mono : (l : List (List ℕ)) (a b : List ℕ) → IsAbove a b → number_above l a ≤ number_above l b
number_above-mono [] a b h = omega arith
number_above-mono (k ∷ l) a b h = omega (arith, test-le (above k a) (above k b) (above-down k a b h), number_above-mono l a b h)

-- none is above itself
above_self : (a : List ℕ) → above a a ≡ false
above_self a = go (above a a) refl
  where
    go : (b : Bool) → above a a ≡ b → b ≡ false
    go true e = absurd (above_irrefl a (above-true a a e))
    go false e = refl

-- and fewer where the greater is in the list
number_above-less : (l : List (List ℕ)) (a b : List ℕ) → IsAbove a b → Among l a → number_above l a < number_above l b
number_above-less [] a b h c = absurd c
number_above-less (k ∷ l) a b h (inl e) =
    let none : number_above (k ∷ l) a ≡ 0 + number_above l a = ap (λ x. cond x 1 0 + number_above l a) (ap (λ x. above x a) e ∙ above_self a) in
    let one : number_above (k ∷ l) b ≡ 1 + number_above l b = ap (λ x. cond x 1 0 + number_above l b) (ap (λ x. above x b) e ∙ above-intro a b h) in
    omega (arith, none, one, number_above-mono l a b h)
number_above-less (k ∷ l) a b h (inr c) = omega (arith, test-le (above k a) (above k b) (above-down k a b h), number_above-less l a b h c)

-- induction down the order
pub falling_induction : (n d : ℕ) (Q : List ℕ → Type 0) →
    ((m : List ℕ) → length m ≡ n → degree m ≤ d → ((k : List ℕ) → length k ≡ n → degree k ≤ d → IsAbove m k → Q k) → Q m) →
    (m : List ℕ) → length m ≡ n → degree m ≤ d → Q m
falling_induction n d Q step m l low = go (suc (length (monomials n d))) m l low (omega arith)
  where
    go : (fuel : ℕ) (m : List ℕ) → length m ≡ n → degree m ≤ d → length (monomials n d) < number_above (monomials n d) m + fuel → Q m
    go zero m l low h = absurd (omega (arith, number_above-le (monomials n d) m, h))
    go (suc fuel) m l low h =
        step m l low
        (λ k kl kd a.
        let more = number_above-less (monomials n d) m k a (among_of_contains (monomials n d) m (in_monomials n d m l low)) in
        go fuel k kl kd (omega (arith, more, h)))
