use Rattle.std.proofs.Common.{ap, ◌∙◌, ◌%◌}
use Rattle.std.proofs.Math.Nat.{add-mod}
use Rattle.sparse_poly.proofs.Coef.{total-append}
use Rattle.sparse_poly.specs.Poly.{total}
use Rattle.sparse_poly.proofs.laws.coefficients_of_sums.Goals as goal

pub returns : goal.returns
returns c p f g m = ap (λ x. x % p) (total-append f g m) ∙ add-mod (total f m) (total g m) p
