-- The degree fits exactly where every monomial of degree d lies in the ideal.
-- What is less than a monomial of degree d, up to the degree, has degree d as well, so the way leads down the order.
use Rattle.std.proofs.Common.{◌≡◌, ◌↔◌, ℕ, List, length, arith}
use Rattle.prime_field.specs.Prime.{IsPrime}
use Rattle.local_order.specs.Mono.{degree}
use Rattle.local_order.proofs.Order.{degree_of_above}
use Rattle.sparse_poly.specs.Ideal.{Problem, IsInIdeal, IsLeadOfIdeal, Fits, IsFirstMissing}
use Rattle.sparse_poly.specs.Poly.{monomial}
use Rattle.sparse_poly.proofs.Descent.{from_lead}
use Rattle.sparse_poly.proofs.Leads.{IsLeadOfIdeal-member}
use Rattle.sparse_poly.proofs.Induction.{falling_induction}
use Rattle.sparse_poly.proofs.Terms.{IsLead-monomial, IsClosed-ideal}

module _ (P : Problem) (prime : IsPrime P.p) where
  -- each monomial of degree d is in the ideal where each is a lead of it
  all_in : Fits P → (m : List ℕ) → length m ≡ P.n → degree m ≡ P.d → IsInIdeal P (monomial m)
  all_in fits m l top =
      falling_induction P.n P.d (λ m. degree m ≡ P.d → IsInIdeal P (monomial m))
      (λ m l low later top.
      from_lead P (IsInIdeal P) (IsClosed-ideal P) prime m l (fits m l top)
      (λ k kl kd a. later k kl kd a (omega (arith, degree_of_above m k a, top, kd))))
      m l (omega arith) top

  -- and is a lead of the ideal where it is in the ideal
  lead_of_in : (m : List ℕ) → length m ≡ P.n → degree m ≡ P.d → IsInIdeal P (monomial m) → IsLeadOfIdeal P m
  lead_of_in m l top h = IsLeadOfIdeal-member P (monomial m) m (l, tt) h (omega arith) (IsLead-monomial P m prime.two_up l)

  -- so both say the same
  pub fits_is : Fits P ↔ ((m : List ℕ) → length m ≡ P.n → degree m ≡ P.d → IsInIdeal P (monomial m))
  fits_is = (all_in, λ h m l top. lead_of_in m l top (h m l top))

-- the first missing monomial isn't in the ideal
pub missing_outside : (P : Problem) (m : List ℕ) → IsPrime P.p → IsFirstMissing P m → IsInIdeal P (monomial m) → ⊥
missing_outside P m prime x h = x.missing (lead_of_in P prime m x.in_ring x.top h)
