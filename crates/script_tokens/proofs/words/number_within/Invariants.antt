use Rattle.std.proofs.Common.{◌≡◌, ◌<◌, drop}
use Rattle.prime_field.specs.Decimal.{value_from, value_of}
use Rattle.script_tokens.proofs.words.number_within.Given as goal

abbrev pub invariant-loop-b : goal.invariant-loop-b
invariant-loop-b l = record {
  so_far : value_from l.number (drop l.b-index l.digits) ≡ value_of l.digits;
  low : l.number < 42949680000;
}
