use Rattle.std.proofs.Common.{arith}
use Rattle.prime_field.proofs.Primality.{InTable-le}
use Rattle.prime_field.proofs.field.Field.add.Goals as goal

pub overflow_add-sum : goal.overflow_add-sum
overflow_add-sum c = omega (arith, InTable-le c.self.inside.p c.self.invariant)
