-- The members at the minimal places, one after another, are the basis.
-- Both go over the ranks of the leads upwards, and at each the member is the same polynomial.
use Rattle.std.proofs.Common.{◌≡◌, ℕ, List, [], ◌∷◌, map, All, refl, sym, ◌∙◌, ap, arith}
use Rattle.std.proofs.lemmas.List.{get_or-map, length-map}
use Rattle.std.proofs.lemmas.List.Elements.{All-from_get_or}
use Rattle.local_order.specs.Shape.{count}
use Rattle.sparse_poly.specs.Shape.{shape_of}
use Rattle.sparse_poly.specs.Poly.{Polynomial}
use Rattle.sparse_poly.specs.Ideal.{Problem}
use Rattle.entry_code.specs.Entry.{Entry}
use Rattle.mora_law.specs.Ring.{numbering_of, ranks_of_problem}
use Rattle.mora_law.specs.Entries.{terms_of, basis_of, poly_of_terms}
use Rattle.mora_law.specs.Basis.{tidied, minimal_with, plain_basis, basis}
use Rattle.tail_reduce.specs.Divisors.{minimal_places}
use Rattle.tail_reduce.specs.Members.{member_of}
use Rattle.tail_reduce.proofs.Searching.{filter_then}

-- the basis goes over the minimal places
as_places : (P : Problem) (entries : List Entry) → plain_basis (ranks_of_problem P) (basis_of entries)
    ≡ map (λ k. terms_of (ranks_of_problem P) (tidied (ranks_of_problem P) (basis_of entries) k)) (minimal_places (ranks_of_problem P) (basis_of entries) (count (shape_of P)))
unfolding ranks_of_problem numbering_of plain_basis
as_places P entries =
    filter_then (minimal_with (ranks_of_problem P) (basis_of entries)) (λ k. terms_of (ranks_of_problem P) (tidied (ranks_of_problem P) (basis_of entries) k)) 0 (count (shape_of P))

-- those at all minimal places are the basis
pub members_are : (P : Problem) (entries : List Entry) → map (λ f. f.terms) (map (member_of P entries) (minimal_places (ranks_of_problem P) (basis_of entries) (count (shape_of P)))) ≡ basis P entries
members_are P entries = go (minimal_places (ranks_of_problem P) (basis_of entries) (count (shape_of P))) ∙ ap (map (poly_of_terms P)) (sym (as_places P entries))
  where
    go : (ks : List ℕ) → map (λ f. f.terms) (map (member_of P entries) ks) ≡ map (poly_of_terms P) (map (λ k. terms_of (ranks_of_problem P) (tidied (ranks_of_problem P) (basis_of entries) k)) ks)
    go [] = refl
    go (k ∷ ks) = ap (λ fs. poly_of_terms P (terms_of (ranks_of_problem P) (tidied (ranks_of_problem P) (basis_of entries) k)) ∷ fs) (go ks)

-- each of them is in the problem's variables
pub members_in : (P : Problem) (entries : List Entry) (ks : List ℕ) → All (λ f. f.n ≡ P.n) (map (member_of P entries) ks)
members_in P entries ks = All-from_get_or (λ (f : Polynomial). f.n ≡ P.n) (map (member_of P entries) ks) (member_of P entries 0) (λ i l. ap (λ (f : Polynomial). f.n) (get_or-map (member_of P entries) ks i 0 (member_of P entries 0) (omega (arith, l, length-map ks (member_of P entries)))))
