-- Ranks that compute: residues modulo a prime, and numbers for the monomials of bounded degree with their products. Ours.
use Rattle.std.specs.Prelude.{◌≡◌, ℕ, ◌*◌, ◌%◌, ◌<◌, ◌≤◌, Option, Some}

-- Residues modulo p and monomials by rank: n is the number of monomials, a product beyond degree d is n or more,
-- `quotient r a` is r / a where a divides r, `cofactor a b` is the least common multiple of a and b divided by a, and `inverse_of c` an inverse of c.
pub record Ranks : Type 0 where
  pub p : ℕ
  pub n : ℕ
  pub times : ℕ → ℕ → ℕ
  pub quotient : ℕ → ℕ → Option ℕ
  pub cofactor : ℕ → ℕ → ℕ
  pub degree : ℕ → ℕ
  pub inverse_of : ℕ → ℕ

-- the laws that all computing by rank uses
pub record IsRanks (R : Ranks) : Type 0 where
  pub prime_pos : 0 < R.p
  pub some : 0 < R.n
  pub inverse : (c : ℕ) → (c % R.p ≡ 0 → ⊥) → (R.inverse_of c * c) % R.p ≡ 1 % R.p
  pub comm : (a b : ℕ) → R.times a b ≡ R.times b a
  pub assoc : (a b c : ℕ) → R.times (R.times a b) c ≡ R.times a (R.times b c)
  pub unit : (a : ℕ) → a < R.n → R.times 0 a ≡ a
  pub le : (a b : ℕ) → R.times a b < R.n → b ≤ R.times a b
  pub grows : (a b c : ℕ) → b < c → R.times a c < R.n → R.times a b < R.times a c
  pub quotient_times : (r a s : ℕ) → R.quotient r a ≡ Some s → R.times a s ≡ r
  pub times_quotient : (a s : ℕ) → R.times a s < R.n → R.quotient (R.times a s) a ≡ Some s
  pub lcm : (a b : ℕ) → R.times a (R.cofactor a b) ≡ R.times b (R.cofactor b a)
  pub least : (a b x y : ℕ) → R.times a x < R.n → R.times a x ≡ R.times b y
      → (c : ℕ) × (R.times c (R.cofactor a b) ≡ x) × (R.times c (R.cofactor b a) ≡ y)
