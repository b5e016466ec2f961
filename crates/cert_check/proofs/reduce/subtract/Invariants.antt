use Rattle.std.proofs.Common.{take}
use Rattle.cert_check.specs.Sparse.{at}
use Rattle.cert_check.proofs.SubtractedSoFar.{IsSoFar}
use Rattle.cert_check.proofs.reduce.subtract.Given as goal

-- the terms so far are subtracted
abbrev pub invariant-loop-k : goal.invariant-loop-k
invariant-loop-k l = IsSoFar l.problem l.factor l.cofactor l.below (at l.initial.h.terms) (take l.k l.terms.list) (at l.h.terms)
