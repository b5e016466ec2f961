-- How many monomials there are.
use Rattle.std.specs.Prelude.{ℕ, zero, suc, ◌+◌, ◌*◌, ◌/◌, List, [], ◌∷◌, ◌++◌, map}
use Rattle.local_order.specs.Mono.{mono_one}

-- the number of monomials of degree at most d in n variables, the binomial coefficient of n + d over n, by Pascal's rule:
-- a variable is absent, or divides and leaves a monomial of degree at most d - 1
abbrev pub monomial_count : ℕ → ℕ → ℕ
monomial_count zero d = 1
monomial_count (suc n) zero = 1
monomial_count (suc n) (suc d) = monomial_count n (suc d) + monomial_count (suc n) d

-- the same number as a product of n fractions, which computes in n steps
abbrev pub count_by_products : ℕ → ℕ → ℕ
count_by_products zero d = 1
count_by_products (suc n) d = count_by_products n d * (suc n + d) / suc n

-- a monomial with its first exponent raised by one
abbrev pub raised : List ℕ → List ℕ
raised [] = []
raised (x ∷ m) = suc x ∷ m

-- the monomials of degree at most d in n variables, each once:
-- those without the first variable, and the multiples of it
abbrev pub monomials : ℕ → ℕ → List (List ℕ)
monomials zero d = [] ∷ []
monomials (suc n) zero = mono_one (suc n) ∷ []
monomials (suc n) (suc d) = map (λ m. 0 ∷ m) (monomials n (suc d)) ++ map raised (monomials (suc n) d)
