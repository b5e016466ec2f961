use Rattle.std.proofs.Common.{◌≡◌, ◌%◌, ◌<◌, drop}
use Rattle.prime_field.specs.Decimal.{AreDigits, value_from, value_of}
use Rattle.prime_field.proofs.field.Field.from_decimal.Given as goal

abbrev pub invariant-loop-digit : goal.invariant-loop-digit
invariant-loop-digit l = record {
  digits_left : AreDigits (drop l.digit-index l.digits);
  residue : l.value < l.self;
  read_on : value_from l.value (drop l.digit-index l.digits) % l.self ≡ value_of l.digits % l.self;
}
