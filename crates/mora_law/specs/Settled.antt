-- Settled tickets.
use Rattle.std.specs.Prelude.{◌≡◌, ℕ, ◌<◌, ◌⊎◌, List, length, Some, IsSome}
use Rattle.rank_algebra.specs.Ranks.{Ranks}
use Rattle.sparse_poly.specs.Ideal.{Problem}
use Rattle.entry_code.specs.declared.item.Item.{Item}
use Rattle.entry_code.specs.declared.item.Item.TheVariants.{Generator, Pair}
use Rattle.entry_code.specs.declared.reading.Reading.{Reading}
use Rattle.entry_code.specs.Entry.{Entry, entry_at}
use Rattle.rank_algebra.specs.Vector.{nothing, Agree}
use Rattle.rank_algebra.specs.Division.{corner_of, remainder}
use Rattle.mora_law.specs.Ring.{ranks_of_problem, generators_of}
use Rattle.rank_algebra.specs.Ideal.{Generators}
use Rattle.mora_law.specs.declared.step_end.StepEnd.TheVariants.{Zero}
use Rattle.mora_law.specs.Run.{AreOrderly}
use Rattle.mora_law.specs.Entries.{basis_of, leads}
use Rattle.mora_law.specs.Start.{start_of, run_of}
use Rattle.mora_law.specs.Legal.{HaveCorners}
use Rattle.mora_law.specs.Tickets.{HasTicket, ticket_of, total}
use Rattle.mora_law.specs.Skip.{skip}

-- the pair of the item is skipped
abbrev pub IsSkipped : Problem → List Entry → Item → Type 0
IsSkipped P entries (Generator g) = ⊥
IsSkipped P entries (Pair i j) = IsSome (skip (leads P entries) i j)

-- an entry has the item
pub record HasEntry (entries : List Entry) (item : Item) : Type 0 where
  pub place : ℕ
  pub within : place < length entries
  pub is : (entry_at entries place).item ≡ item

-- a run of the item over the entries ends with Zero
pub record GoesToZero (R : Ranks) (G : Generators) (entries : List Entry) (item : Item) : Type 0 where
  pub reads : List Reading
  pub last_end : (run_of R G (basis_of entries) item reads).end ≡ Some Zero
  pub orderly : AreOrderly (length entries) 0 R.n reads
  pub corners : HaveCorners R (basis_of entries) (corner_of R (basis_of entries)) reads

-- plain division of the item's start leaves nothing
abbrev pub LeavesNothing : Ranks → Generators → List Entry → Item → Type 0
LeavesNothing R G entries item =
    Agree R R.n (remainder R (basis_of entries) (corner_of R (basis_of entries)) (start_of R G (basis_of entries) item)) nothing

-- the ticket of the item is settled by the entries
abbrev pub IsSettled : Problem → List Entry → Item → Type 0
IsSettled P entries item = IsSkipped P entries item ⊎ (HasEntry entries item ⊎ GoesToZero (ranks_of_problem P) (generators_of P) entries item)

-- every ticket below the total is settled, or plain division of its start leaves nothing
abbrev pub AllSettled : Problem → List Entry → Type 0
AllSettled P entries = (item : Item) → HasTicket (length P.gens) item → ticket_of (length P.gens) item < total (length P.gens) (length entries)
    → IsSettled P entries item ⊎ LeavesNothing (ranks_of_problem P) (generators_of P) entries item
