use Rattle.std.proofs.Common.{◌<◌, ℕ}
use Rattle.entry_code.specs.declared.item.Item.TheVariants.{Pair}
use Rattle.cert_check.specs.Accepted.{IsDone}
use Rattle.cert_check.proofs.tickets.pairs_done.Given as goal

-- the pairs so far are done
abbrev pub invariant-loop-i : goal.invariant-loop-i
invariant-loop-i l = (i : ℕ) → i < l.i → IsDone l.problem l.entries (Pair i l.j)
