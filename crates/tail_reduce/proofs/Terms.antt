-- The terms of an entry: a row of them has their vector.
-- What holds of the terms of all entries holds of those of the entry at a place.
use Rattle.std.proofs.Common.{◌≡◌, ℕ, ◌<◌, List, [], ◌∷◌, length, Some, ap, subst, arith}
use Rattle.std.specs.List.{slice_get}
use Rattle.std.proofs.lemmas.Option.{get_or_from_slice_get}
use Rattle.local_order.specs.Shape.{count}
use Rattle.sparse_poly.specs.Shape.{shape_of}
use Rattle.sparse_poly.specs.Ideal.{Problem}
use Rattle.entry_code.specs.declared.term.Term.{Term}
use Rattle.entry_code.specs.declared.entry.Entry.{Entry as StoredEntry}
use Rattle.entry_code.specs.Entry.{Entry, entry_of, no_entry}
use Rattle.entry_code.specs.Terms.{vector_of_terms}
use Rattle.mora_law.specs.Entries.{lead_rank}
use Rattle.mora_law.specs.Ring.{ranks_of_problem, IsAdmissible}
use Rattle.rank_algebra.specs.Rows.{IsRow, vector_of_row}
use Rattle.rank_algebra.specs.Vector.{Agree}
use Rattle.rank_algebra.proofs.Linear.{agree_of}
use Rattle.trunc_row.specs.Rows.{IsRowOfTerms}
use Rattle.trunc_row.proofs.TermRows.{term_low, terms_row}
use Rattle.tail_reduce.specs.Terms.{AreTerms, HaveTerms}

-- the row of the terms is one of residues
pub written_row : (P : Problem) (ts : List Term) (r : List ℕ) → IsAdmissible P → AreTerms P ts → IsRowOfTerms (count (shape_of P)) ts r → IsRow P.p (count (shape_of P)) r
written_row P ts r A h w = terms_row P.p (count (shape_of P)) ts r (omega (arith, A.prime.two_up)) h.residues w

-- and has their vector
pub written_is : (P : Problem) (ts : List Term) (r : List ℕ) → IsRowOfTerms (count (shape_of P)) ts r → Agree (ranks_of_problem P) (ranks_of_problem P).n (vector_of_row r) (vector_of_terms ts)
written_is P ts r w = agree_of (ranks_of_problem P) (ranks_of_problem P).n (vector_of_row r) (vector_of_terms ts) (λ k l. w.coefs k)

-- the first term has the lead
pub lead_read : (ts : List Term) (t : Term) → slice_get ts 0 ≡ Some t → lead_rank ts ≡ t.rank
lead_read [] t e = absurd (cc e)
lead_read (s ∷ ts) t e = let z : s ≡ t = cc e in ap (λ (x : Term). x.rank) z

-- the entry at a place has such terms, as it is stored
pub terms_at : (P : Problem) (entries : List Entry) (k : ℕ) (e : StoredEntry) → HaveTerms P entries → k < length entries → slice_get entries k ≡ Some (entry_of e) → AreTerms P e.terms.list
terms_at P entries k e h l is = subst (λ (x : Entry). AreTerms P x.terms) (get_or_from_slice_get entries k (entry_of e) no_entry is) (h.each k l)

-- the rank of each term is one
pub rank_small : (P : Problem) (ts : List Term) (i : ℕ) (t : Term) → AreTerms P ts → slice_get ts i ≡ Some t → t.rank < count (shape_of P)
rank_small P ts i t h e = term_low (count (shape_of P)) ts i t h.ranks.low e

-- so is that of the lead of the entry at a place
pub lead_small : (P : Problem) (entries : List Entry) (k : ℕ) (e : StoredEntry) (t : Term) → HaveTerms P entries → k < length entries → slice_get entries k ≡ Some (entry_of e) →
    slice_get e.terms.list 0 ≡ Some t → t.rank < count (shape_of P)
lead_small P entries k e t h l is first = rank_small P e.terms.list 0 t (terms_at P entries k e h l is) first
