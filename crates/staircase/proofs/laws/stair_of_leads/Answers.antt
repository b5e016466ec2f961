use Rattle.staircase.proofs.Shown.{stair_is, fits_by_ranks, missing_is}
use Rattle.staircase.proofs.laws.stair_of_leads.Goals as goal

pub returns-clause-staircase : goal.returns-clause-staircase
returns-clause-staircase c = stair_is

pub returns-clause-fits : goal.returns-clause-fits
returns-clause-fits c = fits_by_ranks

pub returns-clause-missing : goal.returns-clause-missing
returns-clause-missing c P leads ranks r some shown S = missing_is P leads ranks some shown S r
