use Rattle.rank_algebra.specs.Division.{first_of, IsCover}
use Rattle.mora_law.specs.Ring.{ranks_of_problem}
use Rattle.mora_law.specs.Entries.{basis_of}
use Rattle.cert_check.proofs.division.corner_of.Given as goal

-- each rank from the corner on is that of a multiple of a lead
abbrev pub invariant-loop-corner : goal.invariant-loop-corner
invariant-loop-corner l = IsCover (ranks_of_problem l.problem) (first_of l.known (basis_of l.entries)) l.corner

abbrev pub decreases-loop-corner : goal.decreases-loop-corner
decreases-loop-corner l = l.corner
