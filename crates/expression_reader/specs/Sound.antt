-- Which values belong to a ring and its noether degree.
use Rattle.std.specs.Prelude.{◌≡◌, ℕ, ◌+◌, ◌≤◌, length, All}
use Rattle.local_order.specs.Limits.{max_degree, max_generators, max_monomials}
use Rattle.prime_field.specs.Prime.{InTable}
use Rattle.local_order.specs.Count.{monomial_count}
use Rattle.sparse_poly.specs.Letters.{AreLetters}
use Rattle.sparse_poly.specs.Poly.{Polynomial, IsCanonical, HasDegreeAtMost}
use Rattle.sparse_poly.specs.Ideal.{IsGenerator}
use Rattle.expression_reader.specs.declared.names.NamedPoly.{NamedPoly}
use Rattle.expression_reader.specs.declared.names.NamedIdeal.{NamedIdeal}
use Rattle.expression_reader.specs.declared.names.Names.{Names}

-- a polynomial of the ring
pub record IsValue (p n : ℕ) (f : Polynomial) : Type 0 where
  pub variables : f.n ≡ n
  pub canonical : IsCanonical p n f.terms

-- the ring and the degree are within the limits, the values belong to them, and each ideal has at most 64 generators
pub record IsSound (names : Names) : Type 0 where
  pub prime : InTable names.field
  pub letters : AreLetters names.letters
  pub some : 1 ≤ names.d
  pub low : names.d ≤ max_degree
  pub few : monomial_count (length names.letters) names.d ≤ max_monomials
  pub polys : All (λ (f : NamedPoly). IsValue names.field (length names.letters) f.value) names.polys.now
  pub polys_low : All (λ (f : NamedPoly). HasDegreeAtMost (names.d + 1) f.value.terms) names.polys.now
  pub ideals : All (λ (i : NamedIdeal). All (IsGenerator names.field (length names.letters) names.d) i.gens) names.ideals.now
  pub ideals_few : All (λ (i : NamedIdeal). length i.gens ≤ max_generators) names.ideals.now
