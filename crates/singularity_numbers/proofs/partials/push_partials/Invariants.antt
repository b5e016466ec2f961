use Rattle.std.proofs.Common.{◌≡◌, ◌++◌, map}
use Rattle.std.specs.Prelude.{All}
use Rattle.sparse_poly.specs.Poly.{in_variables}
use Rattle.sparse_poly.specs.Ideal.{IsGenerator}
use Rattle.sparse_poly.specs.Jacobian.{jacobian_ideal}
use Rattle.singularity_numbers.proofs.partials.push_partials.Given as goal

abbrev pub invariant-loop-variable : goal.invariant-loop-variable
invariant-loop-variable l = record {
  gens : l.gens ≡ l.initial.gens ++ map (in_variables l.n) (jacobian_ideal l.field l.variable l.d l.f.terms);
  valid : All (IsGenerator l.field l.n l.d) l.gens;
}
