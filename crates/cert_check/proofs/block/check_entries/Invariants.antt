use Rattle.std.proofs.Common.{◌≡◌, ◌+◌, length}
use Rattle.rank_algebra.specs.Division.{first_of, corner_of}
use Rattle.mora_law.specs.Ring.{ranks_of_problem}
use Rattle.mora_law.specs.Entries.{basis_of}
use Rattle.cert_check.specs.Checks.{entry_line}
use Rattle.cert_check.specs.Answers.{AreCorners}
use Rattle.cert_check.proofs.Answered.{IsLeft}
use Rattle.cert_check.proofs.block.check_entries.Given as goal

-- the checks of the entries so far hold, and their corners and lines are told
abbrev pub invariant-loop-i : goal.invariant-loop-i
invariant-loop-i l = IsLeft l.block l.i × AreCorners l.block.problem l.block.entries l.i l.corners.items × (length l.corners.items ≡ l.i + 1)
    × (l.corner ≡ corner_of (ranks_of_problem l.block.problem) (first_of l.i (basis_of l.block.entries))) × (l.line ≡ entry_line l.block l.i)
