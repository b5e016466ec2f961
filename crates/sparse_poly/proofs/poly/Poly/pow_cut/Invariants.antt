use Rattle.sparse_poly.proofs.Powers.{Powering}
use Rattle.sparse_poly.proofs.poly.Poly.pow_cut.Given as goal

abbrev pub invariant-loop-left : goal.invariant-loop-left
invariant-loop-left l = Powering l.field l.self.n l.degree l.self.terms l.fn.exponent l.power l.base l.left

abbrev pub decreases-loop-left : goal.decreases-loop-left
decreases-loop-left l = l.left
