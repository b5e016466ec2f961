-- The greatest degree of a polynomial.
use Rattle.std.specs.Prelude.{◌≡◌, ◌≢◌, ℕ, ◌≤◌, List, length}
use Rattle.local_order.specs.Mono.{degree}
use Rattle.sparse_poly.specs.Poly.{Poly, coef}

-- t is the greatest degree of a monomial of f
pub record IsTopDegree (p n : ℕ) (f : Poly) (t : ℕ) : Type 0 where
  pub mono : List ℕ
  pub in_ring : length mono ≡ n
  pub reached : degree mono ≡ t
  pub some : coef p f mono ≢ 0
  pub greatest : (m : List ℕ) → length m ≡ n → coef p f m ≢ 0 → degree m ≤ t
