use Rattle.std.proofs.Common.{take}
use Rattle.cert_check.specs.Sparse.{at}
use Rattle.cert_check.proofs.Starts.{IsWrittenSoFar}
use Rattle.cert_check.proofs.start.generator.Given as goal

-- the terms so far are written
abbrev pub invariant-loop-k : goal.invariant-loop-k
invariant-loop-k l = IsWrittenSoFar l.problem (take l.k l.f.terms) (at l.h.terms)
