use Rattle.std.proofs.Common.{◌≡◌, take}
use Rattle.mora_law.specs.Entries.{leads}
use Rattle.cert_check.proofs.tickets.leads.Given as goal

-- the leads so far are the first ones
abbrev pub invariant-loop-k : goal.invariant-loop-k
invariant-loop-k l = l.monos.items ≡ take l.k (leads l.problem l.entries)
