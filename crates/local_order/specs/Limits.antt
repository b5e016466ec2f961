-- The limits of monomials, and of the rings that are cut beyond a degree.
use Rattle.std.specs.Prelude.{ℕ}

-- the most variables of a ring
abbrev pub max_variables : ℕ
max_variables = 8

-- the greatest exponent of a monomial
abbrev pub max_exponent : ℕ
max_exponent = 1000

-- the greatest degree beyond which a ring is cut
abbrev pub max_degree : ℕ
max_degree = 255

-- the most monomials of a ring that is cut
abbrev pub max_monomials : ℕ
max_monomials = 4096

-- the most generators of an ideal
abbrev pub max_generators : ℕ
max_generators = 64
