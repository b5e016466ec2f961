use Rattle.staircase.proofs.Fits.{fits_is}
use Rattle.staircase.proofs.laws.fits.Goals as goal

pub returns : goal.returns
returns c P prime = fits_is P prime
