-- Entries that have their terms by rank, as polynomials: they are in the ring, and have the vectors of the entries.
-- Legal entries are such, since their terms are made of a vector.
use Rattle.std.proofs.Common.{◌≡◌, ℕ, ◌<◌, List, length, sym, subst}
use Rattle.sparse_poly.specs.Poly.{IsIn}
use Rattle.sparse_poly.specs.Ideal.{Problem}
use Rattle.sparse_poly.proofs.Unique.{in_of_canonical}
use Rattle.entry_code.specs.Entry.{Entry, entry_at}
use Rattle.rank_algebra.specs.Vector.{Agree}
use Rattle.mora_law.specs.Ring.{numbering_of, ranks_of_problem, IsAdmissible, vector_of}
use Rattle.mora_law.specs.Entries.{terms_of, basis_of, poly_of_terms, AreByRank}
use Rattle.entry_code.specs.Terms.{vector_of_terms}
use Rattle.mora_law.specs.Legal.{Legal}
use Rattle.mora_law.proofs.Ring.{ranks_count}
use Rattle.mora_law.proofs.Terms.{terms_again}
use Rattle.mora_law.proofs.Polynomials.{canonical_of_terms, terms_have_vector}

module _ (P : Problem) (h : IsAdmissible P) (entries : List Entry) where
  -- legal entries have their terms by rank
  pub legal_by_rank : Legal P entries → AreByRank P entries
  legal_by_rank legal k l = subst (λ ts. terms_of (ranks_of_problem P) (vector_of_terms ts) ≡ ts) (sym (legal k l).terms) (terms_again (ranks_of_problem P) _)

  module _ (by_rank : AreByRank P entries) (k : ℕ) (l : k < length entries) where
    -- the polynomial of an entry is in the ring
    pub entry_in_ring : IsIn P.n (poly_of_terms P (entry_at entries k).terms)
    entry_in_ring = subst (λ ts. IsIn P.n (poly_of_terms P ts)) (by_rank k l) (in_of_canonical P.p P.n _ (canonical_of_terms P h _))

    -- and has the vector of the entry
    pub entry_vector : Agree (ranks_of_problem P) (numbering_of P).count (vector_of P (poly_of_terms P (entry_at entries k).terms)) ((basis_of entries).member k)
    entry_vector = subst (λ n. Agree (ranks_of_problem P) n (vector_of P (poly_of_terms P (entry_at entries k).terms)) ((basis_of entries).member k)) (ranks_count P)
        (subst (λ ts. Agree (ranks_of_problem P) (ranks_of_problem P).n (vector_of P (poly_of_terms P ts)) (vector_of_terms ts)) (by_rank k l) (terms_have_vector P h _))
