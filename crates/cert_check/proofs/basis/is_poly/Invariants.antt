use Rattle.cert_check.proofs.Members.{AreSameTo}
use Rattle.cert_check.proofs.basis.is_poly.Given as goal

-- the terms so far are the same
abbrev pub invariant-loop-k : goal.invariant-loop-k
invariant-loop-k l = AreSameTo l.problem l.f.terms l.terms.list l.k
