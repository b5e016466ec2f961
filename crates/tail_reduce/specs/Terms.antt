-- What the terms of an entry keep.
use Rattle.std.specs.Prelude.{ℕ, ◌<◌, List, length, All}
use Rattle.local_order.specs.Shape.{count}
use Rattle.sparse_poly.specs.Shape.{shape_of}
use Rattle.sparse_poly.specs.Ideal.{Problem}
use Rattle.entry_code.specs.declared.term.Term.{Term}
use Rattle.entry_code.specs.Entry.{Entry, entry_at}
use Rattle.entry_code.specs.Terms.{HasRisingRanks}

-- the terms of an entry: there is one, their ranks rise, and their coefficients are residues
pub record AreTerms (P : Problem) (ts : List Term) : Type 0 where
  pub some : 0 < length ts
  pub ranks : HasRisingRanks (count (shape_of P)) ts
  pub residues : All (λ t. t.coef < P.p) ts

-- each entry has such terms
pub record HaveTerms (P : Problem) (entries : List Entry) : Type 0 where
  pub each : (k : ℕ) → k < length entries → AreTerms P (entry_at entries k).terms
