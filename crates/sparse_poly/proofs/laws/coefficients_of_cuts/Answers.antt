use Rattle.sparse_poly.proofs.Cuts.{HasDegreeAtMost-cut}
use Rattle.std.proofs.Common.{◌%◌, ap, ◌∙◌}
use Rattle.std.proofs.Math.Nat.{zero-mod}
use Rattle.sparse_poly.proofs.Coef.{total-cut_in, total-cut_out}
use Rattle.sparse_poly.proofs.laws.coefficients_of_cuts.Goals as goal

pub returns-clause-low : goal.returns-clause-low
returns-clause-low c p d f m l = ap (λ x. x % p) (total-cut_in d f m l)

pub returns-clause-high : goal.returns-clause-high
returns-clause-high c p d f m l = ap (λ x. x % p) (total-cut_out d f m l) ∙ zero-mod p

pub returns-clause-bounded : goal.returns-clause-bounded
returns-clause-bounded c d f = HasDegreeAtMost-cut d f
