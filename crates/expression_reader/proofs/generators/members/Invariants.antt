use Rattle.std.proofs.Common.{◌≤◌, ◌-◌, length}
use Rattle.std.specs.Prelude.{All}
use Rattle.script_tokens.specs.PlaceView.{place_of}
use Rattle.script_grammar.specs.Statements.{members_from}
use Rattle.expression_reader.specs.NamesView.{declarations_of, values_of}
use Rattle.sparse_poly.specs.Ideal.{IsGenerator}
use Rattle.expression_reader.proofs.MemberLists.{MembersSoFar}
use Rattle.expression_reader.proofs.generators.members.Given as goal

abbrev pub invariant-loop-alloc : goal.invariant-loop-alloc
invariant-loop-alloc l = record {
  so_far : MembersSoFar (declarations_of l.names) (values_of l.names) (members_from (declarations_of l.names) (place_of l.here)) l.gens.items (place_of l.after);
  few : length l.gens.items ≤ 64;
  valid : All (IsGenerator l.names.field (length l.names.letters) l.names.d) l.gens.items;
  shorter : l.after.left ≤ l.here.left - 1;
}

abbrev pub decreases-loop-alloc : goal.decreases-loop-alloc
decreases-loop-alloc l = l.after.left
