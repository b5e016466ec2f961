use Rattle.sparse_poly.proofs.Closure.{AllIn-from_All}
use Rattle.staircase.proofs.Divisors.{fits_by_staircase}
use Rattle.staircase.proofs.Staircases.{low_staircase}
use Rattle.staircase.proofs.laws.fits_by_the_staircase.Goals as goal

pub returns-clause-low : goal.returns-clause-low
returns-clause-low c P s m fits x h = low_staircase P s m fits x h

pub returns-clause-fits : goal.returns-clause-fits
returns-clause-fits c P G s gens basis x low = fits_by_staircase P G basis (AllIn-from_All P.n P.gens gens) s x low
