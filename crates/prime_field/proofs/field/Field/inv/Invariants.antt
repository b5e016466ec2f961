use Rattle.std.proofs.Common.{◌≡◌, ◌*◌, ◌%◌, ◌<◌, ◌≤◌}
use Rattle.std.specs.Int.{IsGcd}
use Rattle.prime_field.proofs.field.Field.inv.Given as goal

abbrev pub invariant-loop-low : goal.invariant-loop-low
invariant-loop-low l = record {
  high_factor_in : l.high_factor < l.self;
  low_factor_in : l.low_factor < l.self;
  high_in : l.high ≤ l.self;
  low_in : l.low < l.self;
  high_is : (l.fn.a * l.high_factor) % l.self ≡ l.high % l.self;
  low_is : (l.fn.a * l.low_factor) % l.self ≡ l.low % l.self;
  coprime : IsGcd l.high l.low 1;
}

abbrev pub decreases-loop-low : goal.decreases-loop-low
decreases-loop-low l = l.low
