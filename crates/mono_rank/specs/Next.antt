-- The monomial that comes next in the order ds.
use Rattle.std.specs.Prelude.{◌≡◌, ℕ, suc, ◌⊎◌, List, [], ◌∷◌, length}
use Rattle.local_order.specs.Order.{IsAbove}

-- b comes next after a: it is the greatest of the monomials below a
pub record IsNext (a b : List ℕ) : Type 0 where
  pub in_ring : length b ≡ length a
  pub below : IsAbove a b
  pub greatest : (m : List ℕ) → length m ≡ length a → IsAbove a m → (m ≡ b) ⊎ IsAbove b m

-- how many monomials come from m by trading powers of the first variable for powers of the second, m itself with them
abbrev pub run_of : List ℕ → ℕ
run_of [] = 1
run_of (x ∷ []) = 1
run_of (x ∷ y ∷ m) = suc x
