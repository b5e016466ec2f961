use Rattle.std.proofs.Common.{ℕ, ◌≤◌, List, length, drop}
use Rattle.entry_code.specs.Entry.{Entry}
use Rattle.mora_law.specs.Ring.{ranks_of_problem}
use Rattle.mora_law.specs.Step.{choose}
use Rattle.cert_check.specs.Replay.{vectors_of, terms_at, IsChosen}
use Rattle.cert_check.proofs.choice.choose_kept.Given as goal

-- of the intermediates from the place on the best is chosen
abbrev pub invariant-loop-left : goal.invariant-loop-left
invariant-loop-left l = (l.left ≤ length l.kept) × ((entries : List Entry) (known : ℕ) → IsChosen (ranks_of_problem l.problem) known (length l.kept) (terms_at entries l.kept) l.best (choose (ranks_of_problem l.problem) l.lead (vectors_of (drop l.left l.kept))))

abbrev pub decreases-loop-left : goal.decreases-loop-left
decreases-loop-left l = l.left
