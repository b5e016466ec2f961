use Rattle.sparse_poly.proofs.Closure.{AllIn-from_All, canonical_cofactors, any_cofactors}
use Rattle.sparse_poly.proofs.laws.cofactors_may_be_canonical.Goals as goal

pub returns : goal.returns
returns c P g pos gens = (canonical_cofactors P g pos (AllIn-from_All P.n P.gens gens), any_cofactors P g)
