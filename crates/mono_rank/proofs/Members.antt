-- Members of a list of ranks.
-- A place in a list is its first, or a place in the rest.
use Rattle.std.proofs.Common.{◌≡◌, ℕ, zero, suc, ◌⊎◌, List, ◌∷◌, inl, inr, arith}
use Rattle.std.specs.List.{Contains}

-- a list has its first member, or one of the rest
pub first_or_rest : (x y : ℕ) (xs : List ℕ) → Contains (x ∷ xs) y → (x ≡ y) ⊎ Contains xs y
first_or_rest x y xs (zero, l, e) = inl e
first_or_rest x y xs (suc k, l, e) = inr (k, omega (arith, l), e)

-- and a member of the rest is one of the whole
pub in_rest : (x y : ℕ) (xs : List ℕ) → Contains xs y → Contains (x ∷ xs) y
in_rest x y xs (k, l, e) = (suc k, omega (arith, l), e)
