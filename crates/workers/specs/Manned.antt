-- What a crew keeps, and what is left when it has finished. Ours.
use Rattle.std.specs.Prelude.{◌≡◌, ℕ, ◌*◌, ◌<◌, ◌≤◌, true, List, length, map, sum_by, All}
use Rattle.sparse_poly.specs.Ideal.{Problem}
use Rattle.entry_code.specs.Entry.{Entry}
use Rattle.mora_law.specs.Tickets.{total}
use Rattle.run_core.specs.State.{count_of, steps_of, times}
use Rattle.reducer_list.specs.View.{Begins}
use Rattle.reducer_list.specs.Steps.{LastIdle}
use Rattle.workers.specs.Working.{Working, CanTurn, numbers_of}
use Rattle.workers.specs.declared.crew.Crew.{Crew}

-- the number is in one of these lists
abbrev pub HasNumber : ℕ → List (List ℕ) → Type 0
HasNumber x numbers = 0 < sum_by (λ n. times x n) numbers

-- each number below `count` is in one of them
abbrev pub HasEvery : ℕ → List (List ℕ) → Type 0
HasEvery count numbers = (x : ℕ) → x < count → HasNumber x numbers

-- there are workers, as many as the board is for; each can take a turn at it, and each number below that is one of theirs
pub record IsManned (c : Crew) : Type 0 where
  pub some : 0 < length c.workers.items
  pub count : length c.workers.items ≡ c.board.setting.workers
  pub ready : All (CanTurn c.board) c.workers.items
  pub numbers : HasEvery c.board.setting.workers (map numbers_of c.workers.items)

-- the worker's seat is idle
abbrev pub IsIdle : Working → Type 0
IsIdle w = w.seat.view.seat.idle ≡ true

-- where its seat has all numbers, what it knows is the whole list, which settles every ticket, and its counts are those of all
abbrev pub HasLast : Working → Type 0
HasLast w = LastIdle w.seat.view

-- what the worker's seat knows begins this list
abbrev pub KnowsOf : List Entry → Working → Type 0
KnowsOf entries w = Begins w.seat.view.list entries

-- the counts of all workers: in all at least the readings of the entries but the last of each, and at most as many as monomials for each
-- ticket
pub record AreCounts (P : Problem) (entries : List Entry) (counts : List ℕ) : Type 0 where
  pub least : sum_by steps_of entries ≤ sum_by (λ n. n) counts
  pub most : sum_by (λ n. n) counts ≤ count_of P * total (length P.gens) (length entries)
