use Rattle.std.proofs.Common.{arith}
use Rattle.rank_algebra.proofs.Linear.{agree_refl}
use Rattle.mora_law.proofs.SPolynomials.{generator_in_ring, s_polynomial_is}
use Rattle.mora_law.proofs.laws.starts_are_polynomials.Goals as goal

pub returns-clause-generator : goal.returns-clause-generator
returns-clause-generator c P entries g h = (generator_in_ring P h g, agree_refl _ _ _)

pub returns-clause-pair : goal.returns-clause-pair
returns-clause-pair c P entries i j h monic by_rank l m = s_polynomial_is P h entries monic by_rank i j (omega arith) m
