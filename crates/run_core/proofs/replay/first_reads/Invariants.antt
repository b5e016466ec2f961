use Rattle.std.proofs.Common.{◌≡◌, take}
use Rattle.run_core.proofs.replay.first_reads.Given as goal

abbrev pub invariant-loop-i : goal.invariant-loop-i
invariant-loop-i l = l.reads.list ≡ take l.i l.from.list
