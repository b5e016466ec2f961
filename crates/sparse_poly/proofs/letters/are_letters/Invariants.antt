use Rattle.sparse_poly.proofs.Distinct.{LettersTo}
use Rattle.sparse_poly.proofs.letters.are_letters.Given as goal

abbrev pub invariant-loop-i : goal.invariant-loop-i
invariant-loop-i l = LettersTo l.letters l.i
