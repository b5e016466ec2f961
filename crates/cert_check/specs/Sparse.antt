-- Polynomials by rank as the checker holds them.
use Rattle.std.specs.Prelude.{◌≡◌, ◌≢◌, ℕ, ◌<◌, ◌≤◌, List, [], ◌∷◌, length, map, unwrap_or, All, ⊤}
use Rattle.std.specs.Ordering.{nat_cmp}
use Rattle.std.specs.BTreeMap.{BTreeMap, get}
use Rattle.local_order.specs.Shape.{Shape}
use Rattle.sparse_poly.specs.Ideal.{Problem}
use Rattle.sparse_poly.specs.Shape.{shape_of}
use Rattle.entry_code.specs.declared.term.Term.{Term}
use Rattle.entry_code.specs.Entry.{Entry}
use Rattle.rank_algebra.specs.Vector.{Vector}
use Rattle.mora_law.specs.Ring.{ranks_of_problem}
use Rattle.mora_law.specs.Entries.{lead_rank}

-- the coefficient at a rank
abbrev pub at : BTreeMap ℕ ℕ → Vector
at m = λ r. unwrap_or (get nat_cmp m r) 0

-- t is the term of v of the least rank
pub record IsFirstTerm (v : Vector) (t : Term) : Type 0 where
  pub coef : v t.rank ≡ t.coef
  pub some : t.coef ≢ 0
  pub first : (r : ℕ) → r < t.rank → v r ≡ 0

-- r is the greatest rank of a term of v
pub record IsLastRank (v : Vector) (r : ℕ) : Type 0 where
  pub some : v r ≢ 0
  pub last : (x : ℕ) → r < x → v x ≡ 0

-- the ranks of the terms rise
abbrev pub AreRisingTerms : List Term → Type 0
AreRisingTerms [] = ⊤
AreRisingTerms (t ∷ []) = ⊤
AreRisingTerms (t ∷ u ∷ ts) = (t.rank < u.rank) × AreRisingTerms (u ∷ ts)

-- the coefficients are residues, and none is past the last rank
pub record IsClean (P : Problem) (v : Vector) : Type 0 where
  pub residue : (r : ℕ) → v r < P.p
  pub within : (r : ℕ) → (ranks_of_problem P).n ≤ r → v r ≡ 0

-- ranks rise and are in the ring, coefficients are residues other than 0
pub record AreInRing (P : Problem) (ts : List Term) : Type 0 where
  pub rising : AreRisingTerms ts
  pub ranks : All (λ t. t.rank < (ranks_of_problem P).n) ts
  pub residues : All (λ t. (0 < t.coef) × (t.coef < P.p)) ts

-- the same, with one term at least: what may reduce
pub record AreStored (P : Problem) (ts : List Term) : Type 0 where
  pub terms : AreInRing P ts
  pub some : 0 < length ts

-- the terms of each entry are stored
abbrev pub AreEntries : Problem → List Entry → Type 0
AreEntries P entries = All (λ e. AreStored P e.terms) entries

-- the table numbers the monomials of the problem
abbrev pub HasTable : Problem → Shape → Type 0
HasTable P T = T ≡ shape_of P

-- the ranks of the leads
abbrev pub lead_ranks : List Entry → List ℕ
lead_ranks entries = map (λ e. lead_rank e.terms) entries
