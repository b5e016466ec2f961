use Rattle.std.proofs.Common.{◌<◌, ◌≤◌}
use Rattle.script_tokens.specs.PlaceView.{place_of}
use Rattle.script_grammar.specs.Statements.{monomial_at}
use Rattle.ring_reader.proofs.Monomials.{MonomialSoFar}
use Rattle.ring_reader.proofs.noether.monomial.Given as goal

abbrev pub invariant-loop-after : goal.invariant-loop-after
invariant-loop-after l = record {
  so_far : MonomialSoFar l.letters (monomial_at l.letters (place_of l.here)) l.degree (place_of l.after);
  shorter : l.after.left < l.here.left;
  low : l.degree ≤ 256;
}

abbrev pub decreases-loop-after : goal.decreases-loop-after
decreases-loop-after l = l.after.left
