use Rattle.std.proofs.Common.{map, ap, ◌∙◌}
use Rattle.sparse_poly.specs.Poly.{in_variables}
use Rattle.sparse_poly.proofs.Lists.{in_variables-terms}
use Rattle.sparse_poly.proofs.problem.Problem.gens.Goals as goal

pub returns-clause-value : goal.returns-clause-value
returns-clause-value c =
    in_variables-terms c.self.inside.n c.self.inside.gens c.self.invariant.1 ∙ ap (λ P. map (in_variables P.n) P.gens) c.self.view_is
