-- The monomials that a problem is about.
use Rattle.local_order.specs.Shape.{Shape}
use Rattle.sparse_poly.specs.Ideal.{Problem}

-- those in the variables of the problem, up to its degree
abbrev pub shape_of : Problem → Shape
shape_of P = record { variables = P.n; degree = P.d }
