-- The generators that members of an ideal stand for, as polynomials of the ring.
use Rattle.std.specs.Prelude.{List, map}
use Rattle.sparse_poly.specs.Poly.{Poly, Polynomial, in_variables}
use Rattle.script_grammar.specs.Trees.{Member, Members}
use Rattle.script_grammar.specs.Meaning.{Values, variable_count, derivatives, member_value, members_value}

-- polynomials of the ring
abbrev pub in_ring_of : Values → List Poly → List Polynomial
in_ring_of v gens = map (in_variables (variable_count v)) gens

-- the generators that the derivatives of f are, those of a member, and of members
abbrev pub jacobian_gens : Values → Poly → List Polynomial
jacobian_gens v f = in_ring_of v (derivatives v f)

abbrev pub member_gens : Values → Member → List Polynomial
member_gens v m = in_ring_of v (member_value v m)

abbrev pub members_gens : Values → Members → List Polynomial
members_gens v ms = in_ring_of v (members_value v ms)
