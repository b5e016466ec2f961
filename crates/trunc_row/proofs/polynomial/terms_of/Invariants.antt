use Rattle.std.proofs.Common.{◌≡◌, take}
use Rattle.trunc_row.specs.Polynomials.{poly_of_row}
use Rattle.trunc_row.proofs.polynomial.terms_of.Given as goal

abbrev pub invariant-loop-rank : goal.invariant-loop-rank
invariant-loop-rank l = l.terms.items ≡ poly_of_row l.table (take l.rank l.row)
