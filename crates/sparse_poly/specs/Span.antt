-- Linear combinations of polynomials, and equality, up to the degree of a problem.
use Rattle.std.specs.Prelude.{◌≡◌, ℕ, suc, ◌≤◌, List, [], ◌∷◌, ◌++◌, length, All, Contains}
use Rattle.local_order.specs.Mono.{degree}
use Rattle.sparse_poly.specs.Poly.{Poly, coef, term_times}
use Rattle.sparse_poly.specs.Ideal.{Problem}

-- f and g have the same coefficients up to degree d
abbrev pub Agree : Problem → Poly → Poly → Type 0
Agree P f g = (m : List ℕ) → length m ≡ P.n → degree m ≤ P.d → coef P.p f m ≡ coef P.p g m

-- the multiple of f by a constant
abbrev pub scale : ℕ → Poly → Poly
scale c f = term_times c [] f

-- c 0 * row_0 + c 1 * row_1 + ..
abbrev pub linear : (ℕ → ℕ) → List Poly → Poly
linear c [] = []
linear c (r ∷ rows) = scale (c 0) r ++ linear (λ i. c (suc i)) rows

-- g is a linear combination of the rows, up to degree d
pub record Span (P : Problem) (rows : List Poly) (g : Poly) : Type 0 where
  pub factor : ℕ → ℕ
  pub equation : Agree P g (linear factor rows)

-- r is the multiple of a generator by a monomial
abbrev pub IsMultipleOfGenerator : Problem → Poly → Type 0
IsMultipleOfGenerator P r = (f : Poly) × (a : List ℕ) × Contains P.gens f × (length a ≡ P.n) × (r ≡ term_times 1 a f)

-- the rows are multiples of generators by monomials, and all with monomials of degree at most d are there
pub record AreMultiples (P : Problem) (rows : List Poly) : Type 0 where
  pub multiples : All (IsMultipleOfGenerator P) rows
  pub complete : (f : Poly) (a : List ℕ) → Contains P.gens f → length a ≡ P.n → degree a ≤ P.d → Contains rows (term_times 1 a f)
