use Rattle.std.proofs.Common.{◌≡◌, take, length}
use Rattle.reducer_list.specs.Steps.{AreAllButLast, reads_on}
use Rattle.reducer_list.specs.Calls.{IsAt}
use Rattle.reducer_list.proofs.board.SharedBoard.take_words.Given as goal

abbrev pub invariant-loop-k : goal.invariant-loop-k
invariant-loop-k l =
    IsAt l.self l.seat
    × (length l.words ≡ length l.fn.words)
    × AreAllButLast l.self.setting l.last l.words
    × (l.seat.view ≡ reads_on l.chunk (take l.k l.words) l.fn.seat.view)
