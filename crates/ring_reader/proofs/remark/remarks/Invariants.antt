use Rattle.std.proofs.Common.{◌≤◌}
use Rattle.script_tokens.specs.PlaceView.{place_of}
use Rattle.ring_reader.specs.Behind.{remarks_read}
use Rattle.ring_reader.proofs.Remarks.{RemarksSoFar}
use Rattle.ring_reader.proofs.remark.remarks.Given as goal

abbrev pub invariant-loop-after : goal.invariant-loop-after
invariant-loop-after l = record {
  so_far : RemarksSoFar (remarks_read (place_of l.here)) (place_of l.after);
  shorter : l.after.left ≤ l.here.left;
}

abbrev pub decreases-loop-after : goal.decreases-loop-after
decreases-loop-after l = l.after.left
