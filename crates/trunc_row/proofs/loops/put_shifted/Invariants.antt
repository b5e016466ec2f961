use Rattle.std.proofs.Common.{◌≡◌, ◌≤◌, ◌-◌, length}
use Rattle.local_order.specs.Shape.{count}
use Rattle.trunc_row.proofs.Walks.{WalkedTo}
use Rattle.trunc_row.proofs.Shifts.{itself, none_there}
use Rattle.trunc_row.proofs.loops.put_shifted.Given as goal

abbrev pub invariant-loop-rank : goal.invariant-loop-rank
invariant-loop-rank l = (length l.row ≡ count l.table) × (l.rank ≤ count l.table) × WalkedTo l.table l.shift l.rank itself none_there l.other l.row

abbrev pub decreases-loop-rank : goal.decreases-loop-rank
decreases-loop-rank l = count l.table - l.rank
