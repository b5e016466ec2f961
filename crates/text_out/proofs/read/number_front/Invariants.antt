use Rattle.std.proofs.Common.{◌≡◌, ◌≤◌, drop}
use Rattle.prime_field.specs.Decimal.{value_from, value_of}
use Rattle.script_grammar.specs.Words.{digits_front}
use Rattle.text_out.proofs.read.number_front.Given as goal

abbrev pub invariant-loop-b : goal.invariant-loop-b
invariant-loop-b l = record {
  so_far : value_from l.value (digits_front (drop l.b-index l.bytes)) ≡ value_of (digits_front l.bytes);
  low : l.value ≤ l.limit;
}
