use Rattle.run_core.proofs.Within.{within, ends_alike}
use Rattle.run_core.proofs.laws.hands_read_alike.Goals as goal

pub returns-clause-opened : goal.returns-clause-opened
returns-clause-opened c s i v ok at = (within s i v ok at).alike

pub returns-clause-ends : goal.returns-clause-ends
returns-clause-ends c = ends_alike
