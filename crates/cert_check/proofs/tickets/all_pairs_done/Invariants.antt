use Rattle.std.proofs.Common.{◌<◌, ℕ}
use Rattle.entry_code.specs.declared.item.Item.TheVariants.{Pair}
use Rattle.cert_check.specs.Accepted.{IsDone}
use Rattle.cert_check.proofs.tickets.all_pairs_done.Given as goal

-- the pairs of the entries so far are done
abbrev pub invariant-loop-j : goal.invariant-loop-j
invariant-loop-j l = (j : ℕ) → j < l.j → (i : ℕ) → i < j → IsDone l.problem l.entries (Pair i j)
