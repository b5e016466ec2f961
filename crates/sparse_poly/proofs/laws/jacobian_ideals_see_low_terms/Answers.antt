use Rattle.sparse_poly.proofs.Jacobian.{jacobian_alike}
use Rattle.sparse_poly.proofs.laws.jacobian_ideals_see_low_terms.Goals as goal

pub returns : goal.returns
returns c p n d f g pos own other alike = jacobian_alike p n d f g pos own other alike
