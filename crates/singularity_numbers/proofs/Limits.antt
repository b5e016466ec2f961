-- The generators of a function's ideals make a problem.
-- There is one for each of at most eight variables, and one for the function itself.
use Rattle.std.proofs.Common.{◌≡◌, ℕ, ◌+◌, ◌≤◌, List, [], ◌∷◌, ◌++◌, length, map, ap, ◌∙◌, arith}
use Rattle.std.specs.Prelude.{All}
use Rattle.std.proofs.lemmas.List.FromFn.{length-map-range_with_len}
use Rattle.prime_field.specs.Prime.{InTable}
use Rattle.local_order.specs.Count.{monomial_count}
use Rattle.local_order.specs.Limits.{max_degree, max_generators, max_monomials, max_variables}
use Rattle.sparse_poly.specs.Poly.{Poly, Polynomial, in_variables}
use Rattle.sparse_poly.specs.Ideal.{Problem, IsProblem, IsGenerator}
use Rattle.sparse_poly.specs.Jacobian.{jacobian_ideal, tjurina_ideal}
use Rattle.sparse_poly.proofs.Generators.{terms_of_generators}
use Rattle.sparse_poly.proofs.Lists.{terms-in_variables}

-- there are as many partial derivatives as variables
length-jacobian_ideal : (p n d : ℕ) (f : Poly) → length (jacobian_ideal p n d f) ≡ n
length-jacobian_ideal p n d f = length-map-range_with_len _ 0 n

module _ (p n d : ℕ) (prime : InTable p) (variables : n ≤ max_variables) (some_variables : 1 ≤ n) (some : 1 ≤ d) (low : d ≤ max_degree) (few : monomial_count n d ≤ max_monomials) where
  -- generators in the ring, of which there are at most nine, make a problem
  is_problem : (gens : List Polynomial) (fs : List Poly) → gens ≡ map (in_variables n) fs → length fs ≤ 9 → All (IsGenerator p n d) gens →
      IsProblem (record { p = p; n = n; d = d; gens = map (λ (f : Polynomial). f.terms) gens })
  is_problem gens fs are nine valid =
      let terms : map (λ (f : Polynomial). f.terms) gens ≡ fs = ap (map (λ (f : Polynomial). f.terms)) are ∙ terms-in_variables n fs in
      let parts = terms_of_generators p n d gens valid in
      record {
        prime = prime;
        some = some_variables;
        few = variables;
        degree_some = some;
        degree_few = low;
        monomials = few;
        canonical = parts.0;
        low = parts.1;
        few_gens = omega (arith, ap length terms, nine);
      }

  -- so do the partial derivatives
  pub milnor_is_problem : (f : Poly) (gens : List Polynomial) → gens ≡ map (in_variables n) (jacobian_ideal p n d f) → All (IsGenerator p n d) gens →
      IsProblem (record { p = p; n = n; d = d; gens = map (λ (f : Polynomial). f.terms) gens })
  milnor_is_problem f gens are valid = is_problem gens (jacobian_ideal p n d f) are (omega (arith, length-jacobian_ideal p n d f, variables)) valid

  -- and these behind the function
  pub tjurina_is_problem : (f : Poly) (gens : List Polynomial) → gens ≡ map (in_variables n) (tjurina_ideal p n d f) → All (IsGenerator p n d) gens →
      IsProblem (record { p = p; n = n; d = d; gens = map (λ (f : Polynomial). f.terms) gens })
  tjurina_is_problem f gens are valid = is_problem gens (tjurina_ideal p n d f) are (omega (arith, length-jacobian_ideal p n d f, variables)) valid

-- ---- what the generators are
-- a problem by the terms of its generators
pub problem_by_terms : (p n d : ℕ) (P : Problem) (gens : List Polynomial) (fs : List Poly) → gens ≡ map (in_variables n) fs →
    P ≡ record { p = p; n = n; d = d; gens = map (λ (f : Polynomial). f.terms) gens } → P ≡ record { p = p; n = n; d = d; gens = fs }
problem_by_terms p n d P gens fs are is =
    is ∙ ap (λ (l : List Poly). let R : Problem = record { p = p; n = n; d = d; gens = l } in R) (ap (map (λ (f : Polynomial). f.terms)) are ∙ terms-in_variables n fs)

-- generators behind the function
pub behind_function : (none first gens rest : List Polynomial) (g f : Polynomial) → none ≡ [] → first ≡ none ++ g ∷ [] → g ≡ f → gens ≡ first ++ rest → gens ≡ f ∷ rest
behind_function none first gens rest g f empty one is all =
    all
    ∙ ap (λ (l : List Polynomial). l ++ rest) (one ∙ ap (λ (l : List Polynomial). l ++ g ∷ []) empty)
    ∙ ap (λ (h : Polynomial). h ∷ rest) is
