use Rattle.std.proofs.Common.{◌↔◌, map, drop}
use Rattle.entry_code.specs.Words.{AreRising, term_in}
use Rattle.entry_code.proofs.spelling.are_terms.Given as goal

abbrev pub invariant-loop-i : goal.invariant-loop-i
invariant-loop-i l = AreRising l.p l.n 0 (map term_in l.words) ↔ AreRising l.p l.n l.least (map term_in (drop l.i l.words))
