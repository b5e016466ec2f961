use Rattle.std.proofs.Common.{◌+◌, ◌-◌, length}
use Rattle.sparse_poly.proofs.Merging.{Merging}
use Rattle.sparse_poly.proofs.sums.merge.Given as goal

abbrev pub invariant-loop-i : goal.invariant-loop-i
invariant-loop-i l = Merging l.field l.mine l.its l.i l.j l.terms.items

abbrev pub decreases-loop-i : goal.decreases-loop-i
decreases-loop-i l = (length l.mine - l.i) + (length l.its - l.j)
