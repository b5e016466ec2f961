use Rattle.std.proofs.Common.{lit≤}
use Rattle.std.proofs.lemmas.List.Elements.{All-nil}
use Rattle.sparse_poly.specs.Poly.{IsCanonical, HasDegreeAtMost}
use Rattle.room_tests.proofs.texts.problem.Goals as goal

pub new-requires-2-clause-problem : goal.new-requires-2-clause-problem
new-requires-2-clause-problem c = rw c.new.ensures (record {
  prime = c.prime-prime.ensures.offered;
  some = lit≤ tt;
  few = lit≤ tt;
  degree_some = lit≤ tt;
  degree_few = lit≤ tt;
  monomials = lit≤ tt;
  canonical = All-nil (IsCanonical c.in_ok-field.field 2);
  low = All-nil (HasDegreeAtMost 5);
  few_gens = lit≤ tt;
})
