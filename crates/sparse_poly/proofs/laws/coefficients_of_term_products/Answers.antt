use Rattle.std.proofs.Common.{◌≡◌, ◌≢◌, ◌%◌, ◌⊎◌, ℕ, List, length, ap, sym, ◌∙◌, refl, inl, inr}
use Rattle.std.proofs.Math.Nat.{mod-mod, zero-mod}
use Rattle.prime_field.proofs.Residue.{mul_same}
use Rattle.local_order.specs.Mono.{mono_times, Divides}
use Rattle.local_order.proofs.Order.{divides_cases}
use Rattle.sparse_poly.specs.Poly.{total, coef, term_times}
use Rattle.sparse_poly.proofs.Coef.{total-term_times, total-shift_off}
use Rattle.sparse_poly.proofs.laws.coefficients_of_term_products.Goals as goal

pub returns-clause-moved : goal.returns-clause-moved
returns-clause-moved c p n k a m f i l e =
    ap (λ x. x % p) (total-term_times k a f m n i l e) ∙ mul_same p k k (total f m) (total f m % p) refl (sym (mod-mod (total f m) p))

pub returns-clause-elsewhere : goal.returns-clause-elsewhere
returns-clause-elsewhere c p n k a m f i l e none = go (divides_cases a m (l ∙ sym e))
  where
    go : Divides a m ⊎ ((b : List ℕ) → length b ≡ length m → m ≢ mono_times a b) → coef p (term_times k a f) m ≡ 0
    go (inl d) = absurd (none d)
    go (inr off) = ap (λ x. x % p) (total-shift_off k a f m n i l e off) ∙ zero-mod p
