-- The ideal of a problem modulo degree d + 1, and what is to be computed of it.
use Rattle.std.specs.Prelude.{◌≡◌, ℕ, ◌≤◌, ◌≢◌, ◌↔◌, List, [], ◌∷◌, length, All, Contains}
use Rattle.local_order.specs.Limits.{max_degree, max_generators, max_monomials, max_variables}
use Rattle.std.specs.List.{AllZip}
use Rattle.prime_field.specs.Prime.{InTable}
use Rattle.local_order.specs.Mono.{degree, Divides}
use Rattle.local_order.specs.Count.{monomial_count}
use Rattle.local_order.specs.Order.{IsAbove}
use Rattle.sparse_poly.specs.Poly.{Poly, Polynomial, coef, IsIn, IsSame, cut, combination, IsCanonical, HasDegreeAtMost}

-- a prime, the number of variables, a degree and generators
pub record Problem : Type 0 where
  pub p : ℕ
  pub n : ℕ
  pub d : ℕ
  pub gens : List Poly

-- the limits of a problem: the prime is offered, at most 4,096 monomials have degree at most d, and so have the
-- generators, of which there are at most 64
pub record IsProblem (P : Problem) : Type 0 where
  pub prime : InTable P.p
  pub some : 1 ≤ P.n
  pub few : P.n ≤ max_variables
  pub degree_some : 1 ≤ P.d
  pub degree_few : P.d ≤ max_degree
  pub monomials : monomial_count P.n P.d ≤ max_monomials
  pub canonical : All (IsCanonical P.p P.n) P.gens
  pub low : All (HasDegreeAtMost P.d) P.gens
  pub few_gens : length P.gens ≤ max_generators

-- f is in the ring in n variables modulo p, and of degree at most d
pub record IsGenerator (p n d : ℕ) (f : Polynomial) : Type 0 where
  pub variables : f.n ≡ n
  pub canonical : IsCanonical p n f.terms
  pub low : HasDegreeAtMost d f.terms

-- the ring in n variables modulo p, up to degree d: the problem without generators
abbrev pub ring : ℕ → ℕ → ℕ → Problem
ring p n d = record { p = p; n = n; d = d; gens = [] }

-- the order of a problem's ring, which is ds: a is the greater. Of all that follows this alone knows which order it is
abbrev pub IsGreater : Problem → List ℕ → List ℕ → Type 0
IsGreater P a b = IsAbove a b

-- m is the greatest monomial of f
pub record IsLead (P : Problem) (f : Poly) (m : List ℕ) : Type 0 where
  pub in_ring : length m ≡ P.n
  pub there : coef P.p f m ≢ 0
  pub greatest : (k : List ℕ) → length k ≡ P.n → IsGreater P k m → coef P.p f k ≡ 0

-- cut g = cut (q_0 * f_0 + q_1 * f_1 + ..) for some polynomials q_i
pub record IsInIdeal (P : Problem) (g : Poly) : Type 0 where
  pub cofactor : ℕ → Poly
  pub in_ring : (i : ℕ) → IsIn P.n (cofactor i)
  pub equation : IsSame P.p P.n (cut P.d g) (cut P.d (combination cofactor P.gens))

-- the same with q_i in canonical form
pub record HasCanonicalCofactors (P : Problem) (g : Poly) : Type 0 where
  pub cofactor : ℕ → Poly
  pub canonical : (i : ℕ) → IsCanonical P.p P.n (cofactor i)
  pub equation : IsSame P.p P.n (cut P.d g) (cut P.d (combination cofactor P.gens))

-- m is the lead of some member of the ideal
pub record IsLeadOfIdeal (P : Problem) (m : List ℕ) : Type 0 where
  pub low : degree m ≤ P.d
  pub member : Poly
  pub in_ring : IsIn P.n member
  pub is_in : IsInIdeal P member
  pub lead : IsLead P (cut P.d member) m

-- in falling order, each once
abbrev pub IsFalling : Problem → List (List ℕ) → Type 0
IsFalling P [] = Unit {0}
IsFalling P (a ∷ []) = Unit {0}
IsFalling P (a ∷ b ∷ s) = IsGreater P a b × IsFalling P (b ∷ s)

-- the monomials of degree at most d that are no leads of the ideal
pub record IsStaircase (P : Problem) (s : List (List ℕ)) : Type 0 where
  pub falling : IsFalling P s
  pub exactly : (m : List ℕ) → length m ≡ P.n → degree m ≤ P.d → Contains s m ↔ (IsLeadOfIdeal P m → ⊥)
  pub only : (m : List ℕ) → Contains s m → (length m ≡ P.n) × (degree m ≤ P.d)

-- every monomial of degree d is a lead of the ideal
abbrev pub Fits : Problem → Type 0
Fits P = (m : List ℕ) → length m ≡ P.n → degree m ≡ P.d → IsLeadOfIdeal P m

-- the greatest monomial of degree d that is no lead of the ideal
pub record IsFirstMissing (P : Problem) (m : List ℕ) : Type 0 where
  pub in_ring : length m ≡ P.n
  pub top : degree m ≡ P.d
  pub missing : IsLeadOfIdeal P m → ⊥
  pub first : (k : List ℕ) → length k ≡ P.n → degree k ≡ P.d → IsGreater P k m → IsLeadOfIdeal P k

-- m is a lead of the ideal, and no other lead divides it
pub record IsMinimalLead (P : Problem) (m : List ℕ) : Type 0 where
  pub lead : IsLeadOfIdeal P m
  pub least : (k : List ℕ) → length k ≡ P.n → Divides k m → IsLeadOfIdeal P k → k ≡ m

-- g is a member of the reduced standard basis, with the lead m: it is in the ideal, monic, and none of its other
-- monomials is a lead of the ideal
pub record IsReducedMember (P : Problem) (g : Poly) (m : List ℕ) : Type 0 where
  pub form : IsCanonical P.p P.n g
  pub is_in : IsInIdeal P g
  pub low : (k : List ℕ) → length k ≡ P.n → coef P.p g k ≢ 0 → degree k ≤ P.d
  pub lead : IsLead P g m
  pub monic : coef P.p g m ≡ 1
  pub tail : (k : List ℕ) → length k ≡ P.n → coef P.p g k ≢ 0 → k ≢ m → IsLeadOfIdeal P k → ⊥

-- the reduced standard basis: its members have falling leads, and these are the minimal leads of the ideal
pub record IsReducedBasis (P : Problem) (G : List Poly) : Type 0 where
  pub leads : List (List ℕ)
  pub members : AllZip (IsReducedMember P) G leads
  pub falling : IsFalling P leads
  pub minimal : (m : List ℕ) → Contains leads m ↔ IsMinimalLead P m

-- the lead of one of the polynomials divides m
abbrev pub IsMultipleOfLead : Problem → List Poly → List ℕ → Type 0
IsMultipleOfLead P G m = (g : Poly) × (k : List ℕ) × Contains G g × IsLead P g k × Divides k m

-- g is in the ideal modulo each degree
abbrev pub IsInLocalIdeal : ℕ → ℕ → List Poly → Poly → Type 0
IsInLocalIdeal p n F g = (e : ℕ) → 1 ≤ e → IsInIdeal (record { p = p; n = n; d = e; gens = F }) g
