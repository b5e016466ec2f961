use Rattle.sparse_poly.proofs.Ring.{power-add}
use Rattle.sparse_poly.proofs.laws.powers_add_exponents.Goals as goal

pub returns : goal.returns
returns c n j k f i = power-add n f j k i
