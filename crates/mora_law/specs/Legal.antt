-- Legal lists of entries: each entry is what a run over the entries before it makes.
use Rattle.std.specs.Prelude.{◌≡◌, ℕ, ◌<◌, ◌≤◌, List, [], ◌∷◌, length, take, Some, ⊤}
use Rattle.rank_algebra.specs.Ranks.{Ranks}
use Rattle.sparse_poly.specs.Ideal.{Problem}
use Rattle.entry_code.specs.declared.item.Item.{Item}
use Rattle.entry_code.specs.declared.item.Item.TheVariants.{Generator, Pair}
use Rattle.entry_code.specs.declared.reading.Reading.{Reading}
use Rattle.entry_code.specs.Entry.{Entry, entry_at}
use Rattle.rank_algebra.specs.Division.{Basis, first_of, corner_of}
use Rattle.mora_law.specs.Ring.{ranks_of_problem, generators_of}
use Rattle.rank_algebra.specs.Ideal.{Generators}
use Rattle.mora_law.specs.declared.step_end.StepEnd.{StepEnd}
use Rattle.mora_law.specs.declared.step_end.StepEnd.TheVariants.{Reduced, Stuck}
use Rattle.mora_law.specs.Run.{AreOrderly, last_known}
use Rattle.mora_law.specs.Entries.{terms_of, monic, basis_of}
use Rattle.mora_law.specs.Start.{run_of}

-- the item speaks of the m generators and of the first i entries
abbrev pub IsItemOf : ℕ → ℕ → Item → Type 0
IsItemOf m i (Generator g) = g < m
IsItemOf m i (Pair a b) = (a < b) × (b < i)

-- there is a reading, each reading but the last ends with Reduced, and the last with `last`
pub record EndsWith (R : Ranks) (G : Generators) (B : Basis) (item : Item) (reads : List Reading) (last : StepEnd) : Type 0 where
  pub some : 0 < length reads
  pub before : (j : ℕ) → 0 < j → j < length reads → (run_of R G B item (take j reads)).end ≡ Some Reduced
  pub last_end : (run_of R G B item reads).end ≡ Some last

-- each corner is at least `lowest`, and at most the corner of the entries that are known
abbrev pub HaveCorners : Ranks → Basis → ℕ → List Reading → Type 0
HaveCorners R B lowest [] = ⊤
HaveCorners R B lowest (d ∷ ds) = (lowest ≤ d.corner) × (d.corner ≤ corner_of R (first_of d.known B)) × HaveCorners R B lowest ds

-- x is legal as entry i after those before it, which B has: its run is over all of them at its end, and its terms are
-- what the run ends with, made monic
pub record IsLegalEntry (R : Ranks) (G : Generators) (B : Basis) (i : ℕ) (x : Entry) : Type 0 where
  pub item : IsItemOf G.count i x.item
  pub ends : EndsWith R G B x.item x.reads Stuck
  pub orderly : AreOrderly i 0 R.n x.reads
  pub knows : last_known 0 x.reads ≡ i
  pub corners : HaveCorners R B (corner_of R (first_of i B)) x.reads
  pub terms : x.terms ≡ terms_of R (monic R (run_of R G B x.item x.reads).poly)

-- each entry is legal after those before it
abbrev pub AreLegal : Ranks → Generators → List Entry → Type 0
AreLegal R G entries = (i : ℕ) → i < length entries → IsLegalEntry R G (basis_of entries) i (entry_at entries i)

-- the list of entries is legal for the problem
abbrev pub Legal : Problem → List Entry → Type 0
Legal P entries = AreLegal (ranks_of_problem P) (generators_of P) entries
