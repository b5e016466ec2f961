use Rattle.std.proofs.Common.{arith}
use Rattle.local_order.specs.Count.{monomial_count}
use Rattle.staircase.proofs.Picks.{rising_few}
use Rattle.staircase.proofs.stair.Stair.dimension.Goals as goal

pub overflow_cast-result : goal.overflow_cast-result
overflow_cast-result c =
    let I = c.self.inside in
    omega (arith, c.len.ensures, rising_few I.ranks (monomial_count I.n I.d) c.self.invariant.rises c.self.invariant.low, c.self.invariant.limits.small)
