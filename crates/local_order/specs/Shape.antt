-- The monomials in so many variables of bounded degree: what a table of ranks numbers.
use Rattle.std.specs.Prelude.{ℕ}
use Rattle.local_order.specs.Count.{monomial_count}

-- so many variables, and the greatest degree
pub record Shape : Type 0 where
  pub variables : ℕ
  pub degree : ℕ

-- how many monomials there are
abbrev pub count : Shape → ℕ
count T = monomial_count T.variables T.degree
