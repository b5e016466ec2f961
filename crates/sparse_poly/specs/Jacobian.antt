-- The jacobian ideal and the Tjurina ideal of a function, which stands for its germ at the origin (Greuel and Pfister). The quotients by
-- them are the Milnor algebra and the Tjurina algebra of the function, and their dimensions its Milnor and its Tjurina number.
use Rattle.std.specs.Prelude.{ℕ, List, ◌∷◌, map}
use Rattle.std.specs.List.{range_with_len}
use Rattle.sparse_poly.specs.Poly.{Poly, cut, derivative}
use Rattle.sparse_poly.specs.Canonical.{canonical}
use Rattle.sparse_poly.specs.Ideal.{Problem}

-- the partial derivative of f by variable i, modulo p
abbrev pub partial : ℕ → ℕ → Poly → Poly
partial p i f = canonical p (derivative i f)

-- the generators of the jacobian ideal: the partial derivatives of f by n variables, in their order, each cut beyond degree d
abbrev pub jacobian_ideal : ℕ → ℕ → ℕ → Poly → List Poly
jacobian_ideal p n d f = map (λ i. cut d (partial p i f)) (range_with_len 0 n)

-- the generators of the Tjurina ideal: f itself, cut beyond degree d, and then its partial derivatives
abbrev pub tjurina_ideal : ℕ → ℕ → ℕ → Poly → List Poly
tjurina_ideal p n d f = cut d f ∷ jacobian_ideal p n d f

-- the problem of the Milnor number of f: its jacobian ideal modulo degree d + 1
abbrev pub jacobian_problem : ℕ → ℕ → ℕ → Poly → Problem
jacobian_problem p n d f = record { p = p; n = n; d = d; gens = jacobian_ideal p n d f }

-- the problem of its Tjurina number: its Tjurina ideal modulo degree d + 1
abbrev pub tjurina_problem : ℕ → ℕ → ℕ → Poly → Problem
tjurina_problem p n d f = record { p = p; n = n; d = d; gens = tjurina_ideal p n d f }
