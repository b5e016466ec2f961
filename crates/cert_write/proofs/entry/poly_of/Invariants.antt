use Rattle.std.proofs.Common.{◌≡◌, ◌++◌, drop}
use Rattle.cert_write.proofs.Parts.{terms_poly}
use Rattle.cert_write.proofs.entry.poly_of.Given as goal

abbrev pub invariant-loop-i : goal.invariant-loop-i
invariant-loop-i l = l.list.items ++ terms_poly l.problem l.i (drop l.i l.terms.list) ≡ terms_poly l.problem 0 l.terms.list
