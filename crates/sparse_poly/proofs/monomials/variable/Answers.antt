use Rattle.std.proofs.Common.{arith}
use Rattle.sparse_poly.proofs.Derivatives.{front_variable}
use Rattle.sparse_poly.proofs.monomials.variable.Goals as goal

pub returns : goal.returns
returns c = front_variable _ _ _ _ c.in-Some.ensures.value (omega arith) c.requires.within c.requires.few
