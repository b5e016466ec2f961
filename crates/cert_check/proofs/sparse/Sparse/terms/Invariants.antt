use Rattle.std.proofs.Common.{◌≡◌, ◌++◌}
use Rattle.cert_check.proofs.MapTerms.{pairs}
use Rattle.cert_check.proofs.sparse.Sparse.terms.Given as goal

-- the terms so far, and the entries that are left, are the entries of the map
abbrev pub invariant-loop-rank : goal.invariant-loop-rank
invariant-loop-rank l = pairs l.terms.list ++ l.rank-iterator ≡ l.self.terms.entries
