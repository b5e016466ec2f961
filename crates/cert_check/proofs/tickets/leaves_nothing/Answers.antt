use Rattle.std.proofs.Common.{arith}
use Rattle.mora_law.proofs.Ring.{problem_is_admissible}
use Rattle.cert_check.specs.Sparse.{at}
use Rattle.cert_check.proofs.Leaves.{corner_within, leaves_is}
use Rattle.cert_check.proofs.tickets.leaves_nothing.Goals as goal

pub divide-requires-clause-corner : goal.divide-requires-clause-corner
divide-requires-clause-corner c = let z = corner_within c.args.problem.now (problem_is_admissible _ c.requires.problem) c.args.entries.now in omega (arith, z, c.requires.corner)

pub returns : goal.returns
returns c =
    let z = leaves_is c.args.problem.now (problem_is_admissible _ c.requires.problem) c.args.entries.now c.args.item (at c.in_ok-h.h.terms) (at c.divide.new.h.terms) c.args.lowest c.requires.corner
    c.in_ok-h.ensures.value c.in_ok-divide.ensures.value c.in_ok-divide.ensures.clean in
    ((λ y. z.0 (c.is_zero.ensures.0 y)), (λ n. c.is_zero.ensures.1 (z.1 n)))

pub start-requires-clause-below : goal.start-requires-clause-below
start-requires-clause-below c = let z = corner_within c.args.problem.now (problem_is_admissible _ c.requires.problem) c.args.entries.now in omega (arith, z, c.requires.corner)
