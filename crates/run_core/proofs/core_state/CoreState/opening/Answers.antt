use Rattle.std.proofs.Common.{sym, subst}
use Rattle.mora_law.proofs.Ring.{problem_is_admissible}
use Rattle.run_core.specs.Sound.{IsSound}
use Rattle.run_core.proofs.Opening.{opening_is_sound}
use Rattle.run_core.proofs.core_state.CoreState.opening.Goals as goal

pub invariant_of-result : goal.invariant_of-result
invariant_of-result c = subst IsSound (sym c.in_ok-opening.ensures) (opening_is_sound c.args.problem.now c.args.workers (problem_is_admissible c.args.problem.now c.n-problem.ensures.problem) c.requires)
