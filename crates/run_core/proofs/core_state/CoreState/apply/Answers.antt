use Rattle.run_core.proofs.Machines.{stepped_sound}
use Rattle.run_core.proofs.core_state.CoreState.apply.Goals as goal

pub invariant_of-self : goal.invariant_of-self
invariant_of-self c = stepped_sound c.self.inside.machine c.step.new.self c.args.seat c.args.event c.self.invariant c.step.result c.step.ensures
