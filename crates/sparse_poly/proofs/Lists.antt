-- Lists of polynomials in one number of variables.
-- A list is known by the terms of its members, once their number of variables is.
use Rattle.std.proofs.Common.{◌≡◌, ℕ, List, [], ◌∷◌, map, All, refl, ap}
use Rattle.std.proofs.lemmas.List.Elements.{All-head, All-tail}
use Rattle.sparse_poly.specs.Poly.{Poly, Polynomial, in_variables}

-- they are given back by their terms
pub in_variables-terms : (n : ℕ) (l : List Polynomial) → All (λ f. f.n ≡ n) l → l ≡ map (in_variables n) (map (λ f. f.terms) l)
in_variables-terms n [] h = refl
in_variables-terms n (f ∷ l) h =
    cons_same n f (map (in_variables n) (map (λ g. g.terms) l)) l (All-head (λ g. g.n ≡ n) f l h) (in_variables-terms n l (All-tail (λ g. g.n ≡ n) f l h))
  where
    cons_same : (n : ℕ) (f : Polynomial) (k l : List Polynomial) → f.n ≡ n → l ≡ k → (f ∷ l) ≡ (in_variables n f.terms ∷ k)
    cons_same n f k l e h = λ i. record { n = e i; terms = f.terms } ∷ h i

-- and terms are given back by the polynomials in n variables that have them
pub terms-in_variables : (n : ℕ) (fs : List Poly) → map (λ (f : Polynomial). f.terms) (map (in_variables n) fs) ≡ fs
terms-in_variables n [] = refl
terms-in_variables n (f ∷ fs) = ap (λ l. f ∷ l) (terms-in_variables n fs)
