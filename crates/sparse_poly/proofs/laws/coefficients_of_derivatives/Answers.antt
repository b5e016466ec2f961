use Rattle.std.proofs.Common.{◌+◌, ◌%◌, slice_index, ap, sym, ◌∙◌, refl}
use Rattle.std.proofs.Math.Nat.{mod-mod}
use Rattle.prime_field.proofs.Residue.{mul_same}
use Rattle.sparse_poly.specs.Poly.{total}
use Rattle.sparse_poly.proofs.Derivatives.{raised, total-derivative}
use Rattle.sparse_poly.proofs.laws.coefficients_of_derivatives.Goals as goal

pub returns : goal.returns
returns c p n i f k h l within =
    ap (λ x. x % p) (total-derivative n i f k h l within)
    ∙ mul_same p (slice_index k i + 1) (slice_index k i + 1) (total f (raised i k)) (total f (raised i k) % p) refl (sym (mod-mod (total f (raised i k)) p))
