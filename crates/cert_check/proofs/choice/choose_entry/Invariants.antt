use Rattle.std.proofs.Common.{◌-◌, ◌≤◌, ◌++◌, List, length}
use Rattle.entry_code.specs.declared.term.Term.{Term}
use Rattle.entry_code.specs.Placed.{Placed}
use Rattle.rank_algebra.specs.Vector.{Vector}
use Rattle.mora_law.specs.Ring.{ranks_of_problem}
use Rattle.mora_law.specs.Step.{choose, firsts}
use Rattle.mora_law.specs.Entries.{basis_of}
use Rattle.cert_check.specs.Replay.{terms_at, IsChosen}
use Rattle.cert_check.proofs.choice.choose_entry.Given as goal

-- of the entries from the place on, and of what was chosen behind them, the best is chosen
abbrev pub invariant-loop-left : goal.invariant-loop-left
invariant-loop-left l = (l.left ≤ l.known) × ((kept : List (Placed Term)) (vs : List Vector)
    → IsChosen (ranks_of_problem l.problem) l.known (length kept) (terms_at l.entries kept) l.fn.behind (choose (ranks_of_problem l.problem) l.lead vs)
    → IsChosen (ranks_of_problem l.problem) l.known (length kept) (terms_at l.entries kept) l.best (choose (ranks_of_problem l.problem) l.lead (firsts (l.known - l.left) l.left (basis_of l.entries).member ++ vs)))

abbrev pub decreases-loop-left : goal.decreases-loop-left
decreases-loop-left l = l.left
