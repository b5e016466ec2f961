use Rattle.std.proofs.Common.{◌≡◌, take}
use Rattle.cert_check.specs.Sparse.{lead_ranks}
use Rattle.cert_check.proofs.verdict.lead_ranks.Given as goal

-- the ranks so far are the first ones
abbrev pub invariant-loop-k : goal.invariant-loop-k
invariant-loop-k l = l.ranks.items ≡ take l.k (lead_ranks l.entries)
