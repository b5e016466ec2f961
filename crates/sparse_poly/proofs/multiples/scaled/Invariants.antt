use Rattle.std.proofs.Common.{◌≡◌, [], take}
use Rattle.sparse_poly.proofs.Scaling.{multiple_of}
use Rattle.sparse_poly.proofs.multiples.scaled.Given as goal

abbrev pub invariant-loop-term : goal.invariant-loop-term
invariant-loop-term l = l.made.items ≡ multiple_of l.field l.factor [] (take l.term-index l.terms)
