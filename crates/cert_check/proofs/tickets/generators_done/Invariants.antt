use Rattle.std.proofs.Common.{◌<◌, ℕ}
use Rattle.entry_code.specs.declared.item.Item.TheVariants.{Generator}
use Rattle.cert_check.specs.Accepted.{IsDone}
use Rattle.cert_check.proofs.tickets.generators_done.Given as goal

-- the generators so far are done
abbrev pub invariant-loop-g : goal.invariant-loop-g
invariant-loop-g l = (g : ℕ) → g < l.g → IsDone l.problem l.entries (Generator g)
