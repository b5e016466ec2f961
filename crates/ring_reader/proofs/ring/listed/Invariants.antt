use Rattle.std.proofs.Common.{◌<◌}
use Rattle.script_tokens.specs.PlaceView.{place_of}
use Rattle.script_grammar.specs.Statements.{listed_at}
use Rattle.ring_reader.proofs.Variables.{ListedSoFar}
use Rattle.ring_reader.proofs.ring.listed.Given as goal

abbrev pub invariant-loop-letters : goal.invariant-loop-letters
invariant-loop-letters l = record {
  so_far : ListedSoFar l.ring (listed_at l.ring (place_of l.here)) l.letters.items (place_of l.after);
  shorter : l.after.left < l.here.left;
}

abbrev pub decreases-loop-letters : goal.decreases-loop-letters
decreases-loop-letters l = l.after.left
