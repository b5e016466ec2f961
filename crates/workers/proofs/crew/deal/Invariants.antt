use Rattle.std.proofs.Common.{◌≡◌, ℕ, ◌+◌, ◌-◌, ◌<◌, ◌≤◌, length, map}
use Rattle.std.specs.Prelude.{All}
use Rattle.reducer_list.specs.Calls.{IsAt}
use Rattle.workers.specs.Working.{CanTurn, numbers_of}
use Rattle.workers.specs.Manned.{HasNumber}
use Rattle.workers.specs.Rounds.{low_seat}
use Rattle.workers.proofs.crew.deal.Given as goal

abbrev pub invariant-loop-k : goal.invariant-loop-k
invariant-loop-k l =
    IsAt l.board l.seat
    × (l.seat.view ≡ low_seat l.board.setting (l.count + 1 - l.k))
    × All (CanTurn l.board) l.workers.items
    × All (λ w. w.reductions ≡ 0) l.workers.items
    × (length l.workers.items + 1 ≡ l.k)
    × ((x : ℕ) → l.count + 1 - l.k ≤ x → x < l.count → HasNumber x (map numbers_of l.workers.items))
