use Rattle.sparse_poly.proofs.Scaling.{Multiplying}
use Rattle.sparse_poly.proofs.multiples.multiple.Given as goal

abbrev pub invariant-loop-term : goal.invariant-loop-term
invariant-loop-term l = Multiplying l.field l.degree l.factor.coef l.factor.mono l.terms l.term-index l.made.items
