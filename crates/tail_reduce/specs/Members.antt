-- The members that entries make.
use Rattle.std.specs.Prelude.{ℕ, List}
use Rattle.sparse_poly.specs.Poly.{Polynomial, in_variables}
use Rattle.sparse_poly.specs.Ideal.{Problem}
use Rattle.entry_code.specs.Entry.{Entry}
use Rattle.mora_law.specs.Ring.{ranks_of_problem}
use Rattle.mora_law.specs.Entries.{terms_of, basis_of, poly_of_terms}
use Rattle.mora_law.specs.Basis.{tidied}

-- the member at a place
abbrev pub member_of : Problem → List Entry → ℕ → Polynomial
member_of P entries k = in_variables P.n (poly_of_terms P (terms_of (ranks_of_problem P) (tidied (ranks_of_problem P) (basis_of entries) k)))
