use Rattle.std.proofs.Common.{◌≡◌, ◌+◌, ◌≤◌, length, take}
use Rattle.entry_code.specs.Entry.{HasRoom}
use Rattle.reducer_list.specs.View.{top}
use Rattle.reducer_list.specs.Calls.{IsAt}
use Rattle.workers.proofs.finish.recall_all.Given as goal

abbrev pub invariant-loop-i : goal.invariant-loop-i
invariant-loop-i l =
    IsAt l.board l.seat
    × (l.seat.view.list ≡ l.fn.seat.view.list)
    × (l.seat.view.seat.known ≡ l.fn.seat.view.seat.known)
    × (top l.board.setting + 4 ≤ length l.words)
    × HasRoom (top l.board.setting) l.room
    × (l.entries ≡ take l.i l.fn.seat.view.list)
