use Rattle.std.proofs.Common.{◌≡◌, ◌≤◌, map, take}
use Rattle.entry_code.specs.Words.{term_in}
use Rattle.entry_code.proofs.respell.put_terms.Given as goal

abbrev pub invariant-loop-i : goal.invariant-loop-i
invariant-loop-i l = record {
  list : l.into.list ≡ map term_in (take l.i l.words);
  room : l.fn.into.places ≤ l.into.places;
}
