use Rattle.std.proofs.Common.{◌≡◌, ◌<◌, length, map}
use Rattle.std.specs.Prelude.{All}
use Rattle.workers.specs.Working.{CanTurn, numbers_of}
use Rattle.workers.specs.Rounds.{left_to}
use Rattle.workers.proofs.rounds.run_rounds.Given as goal

abbrev pub invariant-loop-board : goal.invariant-loop-board
invariant-loop-board g l =
    (0 < length l.workers.items)
    × All (CanTurn l.board) l.workers.items
    × (map numbers_of l.workers.items ≡ map numbers_of l.fn.crew.workers.items)
    × (length l.workers.items ≡ length l.fn.crew.workers.items)

abbrev pub decreases-loop-board : goal.decreases-loop-board
decreases-loop-board g l = left_to l.board.setting l.workers.items
