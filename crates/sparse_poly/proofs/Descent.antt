-- What holds of the lesser monomials, and is closed as in Terms, holds of a lead.
-- A member with lead m, made monic, is m and monomials below it, up to the degree.
use Rattle.std.proofs.Common.{◌≡◌, ◌≢◌, ℕ, ◌*◌, ◌%◌, ◌<◌, ◌≤◌, ◌⊎◌, List, ◌++◌, length, refl, ap, sym, ◌∙◌, inl, inr, arith}
use Rattle.std.proofs.Math.Nat.{zero-mod, mod-lt, mod-mod, mul-zero}
use Rattle.prime_field.specs.Prime.{IsPrime}
use Rattle.prime_field.specs.Inverse.{inverse}
use Rattle.prime_field.proofs.Inverse.{inverse-law}
use Rattle.prime_field.proofs.Residue.{mul_same}
use Rattle.local_order.specs.Mono.{degree}
use Rattle.local_order.specs.Order.{IsAbove}
use Rattle.local_order.proofs.Order.{above_cases}
use Rattle.sparse_poly.specs.Poly.{Poly, total, coef}
use Rattle.sparse_poly.specs.Ideal.{Problem, IsLeadOfIdeal}
use Rattle.sparse_poly.proofs.Closure.{IsInIdeal-scale}
use Rattle.sparse_poly.proofs.Scaling.{in-scale}
use Rattle.sparse_poly.proofs.Span.{scale, total-scale}
use Rattle.sparse_poly.specs.Poly.{monomial}
use Rattle.sparse_poly.proofs.Difference.{difference, in-difference, coef-difference, coef-difference_back}
use Rattle.sparse_poly.proofs.Leads.{lead_there, lead_greatest}
use Rattle.sparse_poly.proofs.Terms.{coef-monomial, coef-monomial_above, IsClosed, by_monomials}

-- a multiple of what is 0 at a monomial is 0 there
pub coef-scale_zero : (p c : ℕ) (f : Poly) (m : List ℕ) → coef p f m ≡ 0 → coef p (scale c f) m ≡ 0
coef-scale_zero p c f m e =
    ap (λ x. x % p) (total-scale c f m) ∙ mul_same p c c (total f m) 0 refl (e ∙ sym (zero-mod p)) ∙ ap (λ x. x % p) (mul-zero c) ∙ zero-mod p

-- the multiple by the inverse of a coefficient has coefficient 1 there
coef-scale_inverse : (p : ℕ) (f : Poly) (m : List ℕ) → IsPrime p → coef p f m ≢ 0 → coef p (scale (inverse p (coef p f m)) f) m ≡ 1
coef-scale_inverse p f m prime some =
    let c : ℕ = coef p f m in
    let i : ℕ = inverse p (coef p f m) in
    ap (λ z. z % p) (total-scale i f m)
    ∙ mul_same p i i (total f m) (coef p f m) refl (sym (mod-mod (total f m) p))
    ∙ ap (λ z. z % p) (let q : i * c ≡ c * i = omega arith in q)
    ∙ inverse-law p (coef p f m) prime (mod-lt (total f m) (omega (arith, prime.two_up))) some

-- from the lesser monomials to a lead
pub from_lead : (P : Problem) (Q : Poly → Type 0) → IsClosed P Q → IsPrime P.p → (m : List ℕ) → length m ≡ P.n → IsLeadOfIdeal P m →
    ((k : List ℕ) → length k ≡ P.n → degree k ≤ P.d → IsAbove m k → Q (monomial k)) → Q (monomial m)
from_lead P Q closed prime m l x later =
    closed.alike (difference P.p (monomial m) monic ++ monic) (monomial m) (λ q ql low. sym (coef-difference_back P.p (monomial m) monic q pos))
    (closed.sum (difference P.p (monomial m) monic) monic
    (by_monomials P Q closed (difference P.p (monomial m) monic) pos
    (in-difference P.p P.n (monomial m) monic (l, tt) (in-scale P.n i x.member x.in_ring)) known)
    (closed.members monic (IsInIdeal-scale P i x.member x.is_in)))
  where
    pos : 0 < P.p
    pos = omega (arith, prime.two_up)

    i : ℕ
    i = inverse P.p (coef P.p x.member m)

    monic : Poly
    monic = scale (inverse P.p (coef P.p x.member m)) x.member

    known : (q : List ℕ) → length q ≡ P.n → degree q ≤ P.d → coef P.p (difference P.p (monomial m) monic) q ≢ 0 → Q (monomial q)
    known q ql low n = cases (above_cases q m (ql ∙ sym l))
      where
        cases : (q ≡ m) ⊎ (IsAbove q m ⊎ IsAbove m q) → Q (monomial q)
        cases (inl s) =
            absurd (n (ap (coef P.p (difference P.p (monomial m) monic)) s
            ∙ coef-difference P.p (monomial m) monic m pos
            (coef-monomial P.p m prime.two_up ∙ sym (coef-scale_inverse P.p x.member m prime (lead_there P m x)))))
        cases (inr (inl a)) =
            absurd (n (coef-difference P.p (monomial m) monic q pos
            (coef-monomial_above P.p m q a ∙ sym (coef-scale_zero P.p i x.member q (lead_greatest P m x q ql a)))))
        cases (inr (inr a)) = later q ql low a
