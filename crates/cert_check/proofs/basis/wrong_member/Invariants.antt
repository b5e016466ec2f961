use Rattle.cert_check.specs.Answers.{HasMembers}
use Rattle.cert_check.proofs.basis.wrong_member.Given as goal

-- the polynomials so far are members
abbrev pub invariant-loop-k : goal.invariant-loop-k
invariant-loop-k l = HasMembers l.problem l.entries l.polys l.k
