-- The ring of a problem by rank, and its polynomials as vectors.
use Rattle.std.specs.Prelude.{ℕ, ◌%◌, ◌≤◌, [], length, get_or, All}
use Rattle.prime_field.specs.Prime.{IsPrime}
use Rattle.prime_field.specs.Inverse.{inverse}
use Rattle.local_order.specs.Shape.{Shape}
use Rattle.sparse_poly.specs.Shape.{shape_of}
use Rattle.mono_rank.specs.Laws.{Numbering, numbering, ranks_of}
use Rattle.rank_algebra.specs.Ranks.{Ranks}
use Rattle.sparse_poly.specs.Poly.{Poly, total, IsIn}
use Rattle.sparse_poly.specs.Ideal.{Problem}
use Rattle.rank_algebra.specs.Vector.{Vector}
use Rattle.rank_algebra.specs.Ideal.{Generators}

-- the monomials of the problem's ring up to its degree, numbered by its order: nothing else here knows which order it is
unfoldable pub numbering_of : Problem → Numbering
numbering_of P = numbering (shape_of P)

-- computing by rank in the problem's ring
unfoldable pub ranks_of_problem : Problem → Ranks
ranks_of_problem P = ranks_of P.p (λ c. inverse P.p (c % P.p)) P.d (numbering_of P)

-- computing by rank modulo p with the monomials of T, as in each problem that is about these
abbrev pub ring : ℕ → Shape → Ranks
ring p T = ranks_of_problem (record { p = p; n = T.variables; d = T.degree; gens = [] })

-- what the laws ask of a problem: a prime, at least one variable, and generators in these variables
pub record IsAdmissible (P : Problem) : Type 0 where
  pub prime : IsPrime P.p
  pub some : 1 ≤ P.n
  pub in_ring : All (IsIn P.n) P.gens

-- f by rank
abbrev pub vector_of : Problem → Poly → Vector
vector_of P f = λ r. total f ((numbering_of P).mono r)

-- the generators of the problem by rank
abbrev pub generators_of : Problem → Generators
generators_of P = record { count = length P.gens; member = λ k. vector_of P (get_or P.gens k []) }
