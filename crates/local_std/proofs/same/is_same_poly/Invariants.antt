use Rattle.std.proofs.Common.{◌≡◌, take}
use Rattle.local_std.proofs.same.is_same_poly.Given as goal

abbrev pub invariant-loop-k : goal.invariant-loop-k
invariant-loop-k l = take l.k l.a.terms ≡ take l.k l.b.terms
