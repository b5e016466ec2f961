use Rattle.staircase.proofs.Fits.{missing_outside}
use Rattle.staircase.proofs.Staircases.{none_missing}
use Rattle.staircase.proofs.laws.fits_or_missing.Goals as goal

pub returns-clause-exclusive : goal.returns-clause-exclusive
returns-clause-exclusive c P m fits x = none_missing P m fits x

pub returns-clause-outside : goal.returns-clause-outside
returns-clause-outside c P m prime x h = missing_outside P m prime x h
