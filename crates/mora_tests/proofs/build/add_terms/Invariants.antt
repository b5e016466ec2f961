use Rattle.std.proofs.Common.{◌≡◌, ◌++◌, take}
use Rattle.mora_tests.proofs.build.add_terms.Given as goal

abbrev pub invariant-loop-term : goal.invariant-loop-term
invariant-loop-term l = l.into.list ≡ l.initial.into.list ++ take l.term-index l.terms
