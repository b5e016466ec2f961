use Rattle.rank_algebra.specs.Division.{remainder}
use Rattle.mora_law.specs.Ring.{ranks_of_problem}
use Rattle.mora_law.specs.Entries.{basis_of}
use Rattle.cert_check.specs.Sparse.{at, IsClean}
use Rattle.cert_check.proofs.Dividing.{IsDividedTo}
use Rattle.cert_check.proofs.division.divide.Given as goal

-- the ranks so far are removed
abbrev pub invariant-loop-r : goal.invariant-loop-r
invariant-loop-r l = IsDividedTo (ranks_of_problem l.problem) (basis_of l.entries) l.corner l.r (at l.h.terms) (remainder (ranks_of_problem l.problem) (basis_of l.entries) l.corner (at l.fn.h.terms)) × IsClean l.problem (at l.h.terms)
