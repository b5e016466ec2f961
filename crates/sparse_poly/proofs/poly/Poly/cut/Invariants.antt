use Rattle.std.proofs.Common.{◌≡◌, take}
use Rattle.sparse_poly.specs.Poly.{cut}
use Rattle.sparse_poly.proofs.poly.Poly.cut.Given as goal

abbrev pub invariant-loop-term : goal.invariant-loop-term
invariant-loop-term l = l.terms.items ≡ cut l.degree (take l.term-index l.term-items)
