-- Entries as vectors, and as polynomials.
use Rattle.std.specs.Prelude.{filter_map, ◌≡◌, ℕ, ◌%◌, ◌<◌, List, [], ◌∷◌, length, map, Option, Some, None, if◌then◌else◌}
use Rattle.std.specs.List.{range_with_len}
use Rattle.rank_algebra.specs.Ranks.{Ranks}
use Rattle.sparse_poly.specs.Poly.{Term as PolyTerm, Poly}
use Rattle.sparse_poly.specs.Ideal.{Problem}
use Rattle.entry_code.specs.declared.term.Term.{Term}
use Rattle.entry_code.specs.Entry.{Entry, entry_at}
use Rattle.entry_code.specs.Terms.{vector_of_terms}
use Rattle.rank_algebra.specs.Vector.{Vector, scale}
use Rattle.rank_algebra.specs.Division.{Basis, IsMonic, corner_of}
use Rattle.mora_law.specs.Ring.{numbering_of, ranks_of_problem}
use Rattle.mora_law.specs.Lead.{is_none_at, lead}

-- the term of rank r, where there is one
abbrev pub term_at : Ranks → Vector → ℕ → Option Term
term_at R v r = if is_none_at R v r then None else Some (record { rank = r; coef = v r % R.p })

-- the terms of v with residues as coefficients, by rank
unfoldable pub terms_of : Ranks → Vector → List Term
terms_of R v = filter_map (term_at R v) (range_with_len 0 R.n)

-- v divided by its coefficient at the lead, where that is told
abbrev pub monic_by : Ranks → Vector → Option ℕ → Vector
monic_by R v None = v
monic_by R v (Some r) = scale (R.inverse_of (v r)) v

-- v divided by its leading coefficient
abbrev pub monic : Ranks → Vector → Vector
monic R v = monic_by R v (lead R v)

-- the rank of the first term
abbrev pub lead_rank : List Term → ℕ
lead_rank [] = 0
lead_rank (t ∷ ts) = t.rank

-- the entries as vectors with their leads
abbrev pub basis_of : List Entry → Basis
basis_of entries = record {
  size = length entries;
  member = λ k. vector_of_terms (entry_at entries k).terms;
  lead = λ k. lead_rank (entry_at entries k).terms;
}

-- the entries are monic, with the first term as lead
abbrev pub AreMonic : Problem → List Entry → Type 0
AreMonic P entries = IsMonic (ranks_of_problem P) (basis_of entries)

-- the corner of the leads of the entries; the monomial of the rank before it is the highest corner
abbrev pub corner : Problem → List Entry → ℕ
corner P entries = corner_of (ranks_of_problem P) (basis_of entries)

-- the lead of each entry as a monomial
abbrev pub leads : Problem → List Entry → List (List ℕ)
leads P entries = map (λ e. (numbering_of P).mono (lead_rank e.terms)) entries

-- a term by rank as a term of a polynomial
abbrev pub poly_term : Problem → Term → PolyTerm
poly_term P t = record { mono = (numbering_of P).mono t.rank; coef = t.coef }

-- the polynomial with these terms
abbrev pub poly_of_terms : Problem → List Term → Poly
poly_of_terms P ts = map (poly_term P) ts

-- the entries as polynomials
abbrev pub polys_of : Problem → List Entry → List Poly
polys_of P entries = map (λ e. poly_of_terms P e.terms) entries

-- the terms of each entry are those of its vector: they stand by rank, and have residues as coefficients
abbrev pub AreByRank : Problem → List Entry → Type 0
AreByRank P entries = (k : ℕ) → k < length entries → terms_of (ranks_of_problem P) (vector_of_terms (entry_at entries k).terms) ≡ (entry_at entries k).terms
