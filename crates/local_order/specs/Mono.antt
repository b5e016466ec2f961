-- A monomial is the list of its exponents, one for each variable.
use Rattle.std.specs.Prelude.{◌≡◌, ℕ, ◌+◌, ◌-◌, ◌≤◌, max, List, [], ◌∷◌, length, replicate, All, Bool, true, false, ◌&&◌, ◌||◌, nat_le, ◌==◌}
use Rattle.local_order.specs.Limits.{max_exponent, max_variables}

-- one to eight exponents, each at most 1,000
abbrev pub IsWithinLimits : List ℕ → Type 0
IsWithinLimits a' = (1 ≤ length a') × (length a' ≤ max_variables) × All (λ e. e ≤ max_exponent) a'

-- the sum of the exponents
abbrev pub degree : List ℕ → ℕ
degree [] = 0
degree (a ∷ a') = a + degree a'

-- the monomial 1 in n variables
abbrev pub mono_one : ℕ → List ℕ
mono_one n = replicate n 0

-- the product of two monomials
abbrev pub mono_times : List ℕ → List ℕ → List ℕ
mono_times [] b' = b'
mono_times (a ∷ a') [] = a ∷ a'
mono_times (a ∷ a') (b ∷ b') = (a + b) ∷ mono_times a' b'

-- the quotient of b' by a', where a' divides it
abbrev pub mono_quotient : List ℕ → List ℕ → List ℕ
mono_quotient [] a' = []
mono_quotient (b ∷ b') [] = b ∷ b'
mono_quotient (b ∷ b') (a ∷ a') = (b - a) ∷ mono_quotient b' a'

-- the least common multiple
abbrev pub mono_lcm : List ℕ → List ℕ → List ℕ
mono_lcm [] b' = b'
mono_lcm (a ∷ a') [] = a ∷ a'
mono_lcm (a ∷ a') (b ∷ b') = max a b ∷ mono_lcm a' b'

-- the monomial a' divides b': b' is a product with a'
abbrev pub Divides : List ℕ → List ℕ → Type 0
Divides a' b' = (k : List ℕ) × (length k ≡ length b') × (b' ≡ mono_times a' k)

-- no variable occurs in both: only 1 divides the two
abbrev pub IsCoprime : List ℕ → List ℕ → Type 0
IsCoprime a' b' = (k : List ℕ) → length k ≡ length a' → Divides k a' → Divides k b' → degree k ≡ 0

-- ---- tests that compute
-- whether two monomials are the same
abbrev pub same : List ℕ → List ℕ → Bool
same [] [] = true
same [] (b ∷ b') = false
same (a ∷ a') [] = false
same (a ∷ a') (b ∷ b') = a == b && same a' b'

-- whether each exponent of a' is at most that of b'
abbrev pub divides : List ℕ → List ℕ → Bool
divides [] b' = true
divides (a ∷ a') [] = false
divides (a ∷ a') (b ∷ b') = nat_le a b && divides a' b'

-- whether at each place an exponent is 0
abbrev pub coprime : List ℕ → List ℕ → Bool
coprime [] b' = true
coprime (a ∷ a') [] = true
coprime (a ∷ a') (b ∷ b') = (a == 0 || b == 0) && coprime a' b'
