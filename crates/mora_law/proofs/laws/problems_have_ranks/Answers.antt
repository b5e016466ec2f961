use Rattle.mora_law.proofs.Ring.{problem_is_admissible, ranks_are}
use Rattle.mora_law.proofs.laws.problems_have_ranks.Goals as goal

pub returns-clause-limits : goal.returns-clause-limits
returns-clause-limits c = problem_is_admissible

pub returns-clause-ranks : goal.returns-clause-ranks
returns-clause-ranks c = ranks_are
