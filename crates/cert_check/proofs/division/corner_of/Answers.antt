use Rattle.std.proofs.Common.{arith}
use Rattle.rank_algebra.specs.Division.{first_of}
use Rattle.mora_law.specs.Ring.{ranks_of_problem}
use Rattle.mora_law.specs.Entries.{basis_of}
use Rattle.mora_law.proofs.Ring.{problem_is_admissible, ranks_are}
use Rattle.cert_check.proofs.Dividing.{corner_here, cover_more, corner_zero}
use Rattle.cert_check.proofs.division.corner_of.Goals as goal

pub returns-in_default : goal.returns-in_default
returns-in_default c = corner_here (ranks_of_problem c.args.problem.now) (ranks_are _ (problem_is_admissible _ c.requires.problem)) (first_of c.args.known (basis_of c.args.entries.now)) c.loop-corner.corner c.loop-corner-test.true c.loop-corner.invariant c.in_default.ensures.hit

pub loop-corner-preserved : goal.loop-corner-preserved
loop-corner-preserved c = cover_more (ranks_of_problem c.args.problem.now) (ranks_are _ (problem_is_admissible _ c.requires.problem)) (first_of c.args.known (basis_of c.args.entries.now)) c.loop-corner.corner c.in-Some.hit.place c.in-Some.hit.cofactor c.loop-corner-test.true c.loop-corner.invariant c.in-Some.ensures.hit

pub returns : goal.returns
returns c = corner_zero (ranks_of_problem c.args.problem.now) (ranks_are _ (problem_is_admissible _ c.requires.problem)) (first_of c.args.known (basis_of c.args.entries.now)) c.loop-corner.corner (omega (arith, c.loop-corner-test.false)) c.loop-corner.invariant
