use Rattle.std.proofs.Common.{◌≡◌, ◌<◌, take}
use Rattle.entry_code.specs.Entry.{entry_of}
use Rattle.entry_code.specs.Words.{words_of}
use Rattle.reducer_list.specs.Calls.{IsAt}
use Rattle.reducer_list.proofs.board.SharedBoard.publish.Given as goal

abbrev pub invariant-loop-k : goal.invariant-loop-k
invariant-loop-k l =
    IsAt l.self l.seat
    × (l.seat.view ≡ record l.fn.seat.view { draft = l.seat.view.draft })
    × (0 < l.k → l.seat.view.draft ≡ take l.k (words_of (entry_of l.draft)))
