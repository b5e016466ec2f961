-- Which entries have ranks.
use Rattle.std.specs.Prelude.{◌≡◌}
use Rattle.local_order.specs.Shape.{Shape}
use Rattle.sparse_poly.specs.Poly.{HasDegreeAtMost}
use Rattle.cert_grammar.specs.Entries.{Entry}

-- the monomials of the entry's polynomial are among those that the table numbers
pub record IsRanked (T : Shape) (e : Entry) : Type 0 where
  pub variables : e.poly.n ≡ T.variables
  pub low : HasDegreeAtMost T.degree e.poly.terms
