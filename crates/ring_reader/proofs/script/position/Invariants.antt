use Rattle.std.proofs.Common.{◌≡◌, ◌≤◌, ◌+◌, drop}
use Rattle.script_grammar.specs.Script.{position_from}
use Rattle.ring_reader.proofs.script.position.Given as goal

abbrev pub invariant-loop-b : goal.invariant-loop-b
invariant-loop-b l = record {
  so_far : position_from l.line l.column (drop l.b-index l.bytes) ≡ position_from 1 1 l.bytes;
  line : l.line ≤ l.b-index + 1;
  column : l.column ≤ l.b-index + 1;
}
