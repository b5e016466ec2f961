-- Polynomials over the numbers modulo p, by their terms.
use Rattle.std.specs.Prelude.{◌≡◌, ℕ, zero, suc, ◌+◌, ◌-◌, ◌*◌, ◌%◌, ◌<◌, ◌≤◌, List, [], ◌∷◌, ◌++◌, length, All, slice_index, slice_set, nat_le, if◌then◌else◌}
use Rattle.sparse_poly.specs.declared.term.PolyTerm.{PolyTerm}
use Rattle.local_order.specs.Mono.{degree, mono_one, mono_times, same}
use Rattle.local_order.specs.Order.{IsAbove}

-- a coefficient and a monomial
abbrev pub Term : Type 0
Term = PolyTerm

-- a sum of terms, in any order and with any coefficients
abbrev pub Poly : Type 0
Poly = List Term

-- a polynomial with the number of its variables
pub record Polynomial : Type 0 where
  pub n : ℕ
  pub terms : Poly

-- f as a polynomial in n variables
abbrev pub in_variables : ℕ → Poly → Polynomial
in_variables n f = record { n = n; terms = f }

-- what the terms at m add up to
abbrev pub total : Poly → List ℕ → ℕ
total [] m = 0
total (t ∷ f) m = (if same t.mono m then t.coef else 0) + total f m

-- the coefficient of f at m
abbrev pub coef : ℕ → Poly → List ℕ → ℕ
coef p f m = total f m % p

-- each term has n exponents
abbrev pub IsIn : ℕ → Poly → Type 0
IsIn n [] = Unit {0}
IsIn n (t ∷ f) = (length t.mono ≡ n) × IsIn n f

-- f and g are one polynomial: they have the same coefficient at each monomial
abbrev pub IsSame : ℕ → ℕ → Poly → Poly → Type 0
IsSame p n f g = (m : List ℕ) → length m ≡ n → coef p f m ≡ coef p g m

-- no term of f has a degree above d
abbrev pub HasDegreeAtMost : ℕ → Poly → Type 0
HasDegreeAtMost d f = All (λ t. degree t.mono ≤ d) f

-- f without its terms of degree above d
abbrev pub cut : ℕ → Poly → Poly
cut d [] = []
cut d (t ∷ f) = if nat_le (degree t.mono) d then t ∷ cut d f else cut d f

-- the exponents m with that of variable i one less
abbrev pub lowered : ℕ → List ℕ → List ℕ
lowered i m = slice_set m i (slice_index m i - 1)

-- the product of f with one term
abbrev pub term_times : ℕ → List ℕ → Poly → Poly
term_times c a [] = []
term_times c a (t ∷ f) = record { mono = mono_times a t.mono; coef = c * t.coef } ∷ term_times c a f

-- the product of q and f
abbrev pub times : Poly → Poly → Poly
times [] f = []
times (t ∷ q) f = term_times t.coef t.mono f ++ times q f

-- the polynomial m
abbrev pub monomial : List ℕ → Poly
monomial m = record { mono = m; coef = 1 } ∷ []

-- the polynomial 1 in n variables
abbrev pub one : ℕ → Poly
one n = record { mono = mono_one n; coef = 1 } ∷ []

-- the k-th power of f, a polynomial in n variables
abbrev pub power : ℕ → Poly → ℕ → Poly
power n f zero = one n
power n f (suc k) = times f (power n f k)

-- the derivative of f by variable i
abbrev pub derivative : ℕ → Poly → Poly
derivative i [] = []
derivative i (t ∷ f) = record { mono = lowered i t.mono; coef = t.coef * slice_index t.mono i } ∷ derivative i f

-- q 0 * f_0 + q 1 * f_1 + .. over a list of polynomials
abbrev pub combination : (ℕ → Poly) → List Poly → Poly
combination q [] = []
combination q (f ∷ fs) = times (q 0) f ++ combination (λ i. q (suc i)) fs

-- m is above the first monomial of f in the order ds, if f has one
abbrev pub IsAboveFirst : List ℕ → Poly → Type 0
IsAboveFirst m [] = Unit {0}
IsAboveFirst m (t ∷ f) = IsAbove m t.mono

-- f is sorted: each term has n exponents and a coefficient that isn't 0, and the monomials fall in the order ds
abbrev pub IsSorted : ℕ → Poly → Type 0
IsSorted n [] = Unit {0}
IsSorted n (t ∷ f) = (length t.mono ≡ n) × (0 < t.coef) × IsAboveFirst t.mono f × IsSorted n f

-- the coefficients of f are residues modulo p
abbrev pub HasResidues : ℕ → Poly → Type 0
HasResidues p f = All (λ t. t.coef < p) f

-- f is written in the one way that a polynomial has, whichever order a problem has: terms falling in the order ds, with
-- coefficients from 1 to p - 1
abbrev pub IsCanonical : ℕ → ℕ → Poly → Type 0
IsCanonical p n [] = Unit {0}
IsCanonical p n (t ∷ f) = (length t.mono ≡ n) × (0 < t.coef) × (t.coef < p) × IsAboveFirst t.mono f × IsCanonical p n f
