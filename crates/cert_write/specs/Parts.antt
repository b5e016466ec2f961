-- Entries that have lines.
use Rattle.sparse_poly.specs.Poly.{IsCanonical}
use Rattle.sparse_poly.specs.Ideal.{Problem}
use Rattle.entry_code.specs.Entry.{Entry}
use Rattle.cert_grammar.specs.Words.{Ring, IsPolyOf}
use Rattle.cert_grammar.specs.Certified.{AreTerms, poly_by_rank, entry_of}

-- its terms are terms by rank, and make a canonical polynomial, which is one of the ring
pub record IsWritable (r : Ring) (P : Problem) (e : Entry) : Type 0 where
  pub terms : AreTerms P e.terms
  pub poly : IsPolyOf r (entry_of P e).poly
  pub canonical : IsCanonical P.p P.n (poly_by_rank P e.terms)
