-- The polynomials modulo the ideal and degree d + 1, by the monomials of a list.
use Rattle.std.specs.Prelude.{◌≡◌, ◌≢◌, ℕ, ◌-◌, ◌≤◌, List, [], ◌++◌, length, Contains}
use Rattle.local_order.specs.Mono.{degree}
use Rattle.sparse_poly.specs.Poly.{Poly, coef, IsIn, term_times}
use Rattle.sparse_poly.specs.Ideal.{Problem, IsInIdeal}

-- up to degree d the monomials of f are in s
abbrev pub IsMadeOf : Problem → List (List ℕ) → Poly → Type 0
IsMadeOf P s f = (m : List ℕ) → length m ≡ P.n → degree m ≤ P.d → coef P.p f m ≢ 0 → Contains s m

-- f less a remainder made of monomials of s is in the ideal
pub record HasRemainder (P : Problem) (s : List (List ℕ)) (f : Poly) : Type 0 where
  pub remainder : Poly
  pub in_ring : IsIn P.n remainder
  pub made : IsMadeOf P s remainder
  pub is_in : IsInIdeal P (f ++ term_times (P.p - 1) [] remainder)
