use Rattle.std.specs.Prelude.{All}
use Rattle.std.proofs.Common.{◌+◌, ◌≤◌, length}
use Rattle.script_tokens.specs.PlaceView.{place_of}
use Rattle.ring_reader.specs.RingView.{ring_of}
use Rattle.sparse_poly.specs.Poly.{HasDegreeAtMost}
use Rattle.ring_reader.specs.Coherent.{IsCommandIn}
use Rattle.expression_reader.specs.Sound.{IsValue}
use Rattle.sparse_poly.specs.Ideal.{IsGenerator}
use Rattle.ring_reader.proofs.Scripts.{ScriptSoFar, statements_from}
use Rattle.ring_reader.proofs.script.statements.Given as goal

abbrev pub invariant-loop-here : goal.invariant-loop-here
invariant-loop-here l = record {
  so_far : ScriptSoFar (ring_of l.ring) l.d (statements_from (ring_of l.ring) (place_of l.start)) l.scope.polys.items l.scope.ideals.items l.scope.commands.items (place_of l.here);
  polys : All (λ f. IsValue l.ring.field (length l.ring.letters) f.value) l.scope.polys.items;
  polys_low : All (λ f. HasDegreeAtMost (l.d + 1) f.value.terms) l.scope.polys.items;
  ideals : All (λ i. All (IsGenerator l.ring.field (length l.ring.letters) l.d) i.gens) l.scope.ideals.items;
  ideals_few : All (λ i. length i.gens ≤ 64) l.scope.ideals.items;
  belong : All (IsCommandIn l.ring.field (length l.ring.letters) l.d) l.scope.commands.items;
  few : length l.scope.commands.items ≤ 64;
}

abbrev pub decreases-loop-here : goal.decreases-loop-here
decreases-loop-here l = l.here.left
