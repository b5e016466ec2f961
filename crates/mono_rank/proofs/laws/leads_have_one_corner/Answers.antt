use Rattle.mono_rank.proofs.Corners.{corner_is, one_corner, corner_never_rises}
use Rattle.mono_rank.proofs.laws.leads_have_one_corner.Goals as goal

pub returns-clause-corner : goal.returns-clause-corner
returns-clause-corner c T leads some = corner_is T some leads

pub returns-clause-one : goal.returns-clause-one
returns-clause-one c = one_corner

pub returns-clause-never_rises : goal.returns-clause-never_rises
returns-clause-never_rises c = corner_never_rises
