use Rattle.staircase.proofs.Degrees.{of_degree_is, degree_between}
use Rattle.staircase.proofs.laws.ranks_of_a_degree.Goals as goal

pub returns-clause-monomials : goal.returns-clause-monomials
returns-clause-monomials c = of_degree_is

pub returns-clause-run : goal.returns-clause-run
returns-clause-run c = degree_between
