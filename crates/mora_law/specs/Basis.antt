-- The basis that plain division makes of the entries.
use Rattle.std.specs.Prelude.{not, ◌&&◌, is_some, is_none, find, filter_map, option_map, ℕ, List, map, Bool, Option, ◌==◌}
use Rattle.std.specs.List.{range_with_len}
use Rattle.rank_algebra.specs.Ranks.{Ranks}
use Rattle.sparse_poly.specs.Poly.{Poly}
use Rattle.sparse_poly.specs.Ideal.{Problem}
use Rattle.entry_code.specs.declared.term.Term.{Term}
use Rattle.entry_code.specs.Entry.{Entry}
use Rattle.rank_algebra.specs.Vector.{Vector, monomial, add, less}
use Rattle.rank_algebra.specs.Division.{Basis, remainder, corner_of}
use Rattle.mora_law.specs.Ring.{ranks_of_problem}
use Rattle.mora_law.specs.Entries.{basis_of, terms_of, poly_of_terms}

-- what plain division by the entries leaves of v
abbrev pub remainder_by : Problem → List Entry → Vector → Vector
remainder_by P entries v = remainder (ranks_of_problem P) (basis_of entries) (corner_of (ranks_of_problem P) (basis_of entries)) v

-- the lead of member k plus the remainder of its other terms
abbrev pub tidied : Ranks → Basis → ℕ → Vector
tidied R B k = add (monomial (B.lead k)) (remainder R B (corner_of R B) (less R 1 (monomial (B.lead k)) (B.member k)))

-- whether lead j, which isn't the k-th itself, divides the k-th
abbrev pub divides_other : Ranks → Basis → ℕ → ℕ → Bool
divides_other R B k j = not (j == k) && is_some (R.quotient (B.lead k) (B.lead j))

-- whether no other lead divides the k-th
abbrev pub is_minimal : Ranks → Basis → ℕ → Bool
is_minimal R B k = is_none (find (divides_other R B k) (range_with_len 0 B.size))

-- the first member whose lead has the rank r and is divided by no other
abbrev pub minimal_with : Ranks → Basis → ℕ → Option ℕ
minimal_with R B r = find (λ k. B.lead k == r && is_minimal R B k) (range_with_len 0 B.size)

-- by rank, for each lead that no other lead divides: that lead plus the remainder of the other terms
unfoldable pub plain_basis : Ranks → Basis → List (List Term)
plain_basis R B = filter_map (λ r. option_map (λ k. terms_of R (tidied R B k)) (minimal_with R B r)) (range_with_len 0 R.n)

-- the same as polynomials, in falling order of leads
abbrev pub basis : Problem → List Entry → List Poly
basis P entries = map (poly_of_terms P) (plain_basis (ranks_of_problem P) (basis_of entries))
