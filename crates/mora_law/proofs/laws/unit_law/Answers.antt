use Rattle.mora_law.proofs.Problems.{unit_law_of_run}
use Rattle.mora_law.proofs.UnitLawPolynomials.{unit_law_of_polynomials}
use Rattle.mora_law.proofs.laws.unit_law.Goals as goal

pub returns-clause-by_rank : goal.returns-clause-by_rank
returns-clause-by_rank c = unit_law_of_run

pub returns-clause-polynomials : goal.returns-clause-polynomials
returns-clause-polynomials c P entries item reads f g h monic by_rank o = unit_law_of_polynomials P h entries monic by_rank item reads o f g
