use Rattle.std.proofs.Common.{◌≡◌, ◌+◌, ◌∷◌, List, map, length, false, true}
use Rattle.std.specs.Prelude.{All, sum_by}
use Rattle.entry_code.specs.Entry.{Entry}
use Rattle.reducer_list.specs.View.{is_busy, Begins}
use Rattle.reducer_list.specs.Steps.{LastIdle}
use Rattle.reducer_list.specs.Calls.{IsAt}
use Rattle.workers.specs.Working.{numbers_of}
use Rattle.workers.specs.Manned.{HasEvery, KnowsOf}
use Rattle.workers.specs.Rounds.{CanEnd, IsLegalView, claims_of, published_of}
use Rattle.workers.proofs.finish.gather.Given as goal

abbrev pub invariant-loop-next : goal.invariant-loop-next
invariant-loop-next l =
    IsAt l.board l.seat
    × (is_busy l.seat.view ≡ false)
    × (l.seat.view.seat.idle ≡ true)
    × IsLegalView l.seat.view
    × All (CanEnd l.board) l.others.items
    × HasEvery l.board.setting.workers (l.seat.view.seat.numbers ∷ map numbers_of l.others.items)
    × (length l.others.items ≡ 0 → LastIdle l.seat.view)
    × (l.seat.view.seat.claims + sum_by claims_of l.others.items ≡ l.fn.seat.view.seat.claims + sum_by claims_of l.fn.others.items)
    × (l.seat.view.seat.published + sum_by published_of l.others.items ≡ l.fn.seat.view.seat.published + sum_by published_of l.fn.others.items)
    × ((es : List Entry) → Begins l.seat.view.list es → All (KnowsOf es) l.others.items → Begins l.fn.seat.view.list es × All (KnowsOf es) l.fn.others.items)

abbrev pub decreases-loop-next : goal.decreases-loop-next
decreases-loop-next l = length l.others.items
