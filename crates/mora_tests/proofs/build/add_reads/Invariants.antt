use Rattle.std.proofs.Common.{◌≡◌, ◌++◌, take}
use Rattle.mora_tests.proofs.build.add_reads.Given as goal

abbrev pub invariant-loop-reading : goal.invariant-loop-reading
invariant-loop-reading l = l.into.list ≡ l.initial.into.list ++ take l.reading-index l.reads
