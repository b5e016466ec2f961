use Rattle.std.proofs.Common.{All}
use Rattle.cert_check.specs.Checks.{reading_checks, Holds}
use Rattle.cert_check.specs.Sparse.{at, IsClean}
use Rattle.cert_check.specs.Replay.{AreKept}
use Rattle.cert_check.specs.Answers.{IsReplayed}
use Rattle.cert_check.proofs.reading.check_readings.Given as goal

-- the checks of the readings so far hold, and the run is replayed by them
abbrev pub invariant-loop-j : goal.invariant-loop-j
invariant-loop-j l = All (Holds l.block) (reading_checks l.i l.j 0) × IsReplayed l.block l.i l.j (at l.h.terms) l.kept.items × AreKept l.block.problem l.kept.items × IsClean l.block.problem (at l.h.terms)
