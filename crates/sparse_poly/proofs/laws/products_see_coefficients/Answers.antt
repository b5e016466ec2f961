use Rattle.sparse_poly.proofs.Ring.{same-times, cut-times}
use Rattle.sparse_poly.proofs.laws.products_see_coefficients.Goals as goal

pub returns-clause-whole : goal.returns-clause-whole
returns-clause-whole c p n f g h k = same-times p n f g h k

pub returns-clause-cut : goal.returns-clause-cut
returns-clause-cut c p n d f g h k = cut-times p n d f g h k
