use Rattle.staircase.proofs.Basis.{one_basis}
use Rattle.staircase.proofs.Staircases.{one_staircase, one_missing}
use Rattle.staircase.proofs.laws.one_answer.Goals as goal

pub returns-clause-basis : goal.returns-clause-basis
returns-clause-basis c P G H x y = one_basis P G H x y

pub returns-clause-staircase : goal.returns-clause-staircase
returns-clause-staircase c P s t x y = one_staircase P s t x y

pub returns-clause-missing : goal.returns-clause-missing
returns-clause-missing c P m k x y = one_missing P m k x y
