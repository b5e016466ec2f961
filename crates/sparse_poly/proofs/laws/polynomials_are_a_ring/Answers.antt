use Rattle.std.proofs.Common.{◌%◌, ap}
use Rattle.sparse_poly.proofs.Coef.{times-append}
use Rattle.sparse_poly.proofs.Ring.{total-times_comm, times-assoc, times-one, opposite}
use Rattle.sparse_poly.proofs.laws.polynomials_are_a_ring.Goals as goal

pub returns-clause-commutative : goal.returns-clause-commutative
returns-clause-commutative c p n f g m l = ap (λ x. x % p) (total-times_comm f g m)

pub returns-clause-associative : goal.returns-clause-associative
returns-clause-associative c f g h = times-assoc f g h

pub returns-clause-distributive : goal.returns-clause-distributive
returns-clause-distributive c f g h = times-append f g h

pub returns-clause-neutral : goal.returns-clause-neutral
returns-clause-neutral c n f i = times-one n f i

pub returns-clause-opposite : goal.returns-clause-opposite
returns-clause-opposite c p n f pos = opposite p n f pos
