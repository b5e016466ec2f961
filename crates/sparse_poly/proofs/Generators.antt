-- Generators of a problem, one by one and by the lists of their terms.
-- Both say of each member that it is canonical and of low degree.
use Rattle.std.proofs.Common.{◌≡◌, ℕ, List, [], ◌∷◌, map, All}
use Rattle.std.proofs.lemmas.List.Elements.{All-nil, All-cons, All-head, All-tail, All-map}
use Rattle.sparse_poly.specs.Poly.{Poly, Polynomial, IsCanonical, HasDegreeAtMost}
use Rattle.sparse_poly.specs.Ideal.{IsGenerator}

-- the terms of generators are canonical and of low degree
pub terms_of_generators : (p n d : ℕ) (gens : List Polynomial) → All (IsGenerator p n d) gens →
    All (IsCanonical p n) (map (λ (f : Polynomial). f.terms) gens) × All (HasDegreeAtMost d) (map (λ (f : Polynomial). f.terms) gens)
terms_of_generators p n d gens all = (
  All-map (IsCanonical p n) (λ (f : Polynomial). f.terms) gens (λ k x within. (all k x within).canonical),
  All-map (HasDegreeAtMost d) (λ (f : Polynomial). f.terms) gens (λ k x within. (all k x within).low),
)

-- and polynomials in n variables with such terms are generators
pub generators_of_terms : (p n d : ℕ) (gens : List Polynomial) → All (λ (f : Polynomial). f.n ≡ n) gens →
    All (IsCanonical p n) (map (λ (f : Polynomial). f.terms) gens) → All (HasDegreeAtMost d) (map (λ (f : Polynomial). f.terms) gens) → All (IsGenerator p n d) gens
generators_of_terms p n d [] v w l = All-nil (IsGenerator p n d)
generators_of_terms p n d (f ∷ gens) v w l =
    let rest : List Poly = map (λ (g : Polynomial). g.terms) gens in
    All-cons (IsGenerator p n d) f gens
    (record {
      variables = All-head (λ (g : Polynomial). g.n ≡ n) f gens v;
      canonical = All-head (IsCanonical p n) f.terms rest w;
      low = All-head (HasDegreeAtMost d) f.terms rest l;
    })
    (generators_of_terms p n d gens (All-tail (λ (g : Polynomial). g.n ≡ n) f gens v) (All-tail (IsCanonical p n) f.terms rest w) (All-tail (HasDegreeAtMost d) f.terms rest l))
