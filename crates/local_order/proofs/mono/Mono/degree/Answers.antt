use Rattle.std.proofs.Common.{arith}
use Rattle.local_order.proofs.Stored.{total_small}
use Rattle.local_order.proofs.mono.Mono.degree.Goals as goal

pub returns-clause-small : goal.returns-clause-small
returns-clause-small c = omega (arith, c.from.ensures, total_small c.self.invariant)
