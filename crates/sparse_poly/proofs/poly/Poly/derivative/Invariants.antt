use Rattle.std.proofs.Common.{◌≡◌, take}
use Rattle.sparse_poly.proofs.Derivatives.{derivative_of}
use Rattle.sparse_poly.proofs.poly.Poly.derivative.Given as goal

abbrev pub invariant-loop-term : goal.invariant-loop-term
invariant-loop-term l = l.terms.items ≡ derivative_of l.field l.variable (take l.term-index l.term-items)
