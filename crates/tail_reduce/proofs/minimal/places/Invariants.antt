use Rattle.std.proofs.Common.{◌≡◌}
use Rattle.sparse_poly.specs.Ideal.{Problem}
use Rattle.rank_algebra.specs.Division.{Basis}
use Rattle.mora_law.specs.Ring.{ranks_of_problem}
use Rattle.tail_reduce.specs.Divisors.{AreLeadsOf, minimal_places}
use Rattle.tail_reduce.proofs.minimal.places.Given as goal

abbrev pub invariant-loop-rank : goal.invariant-loop-rank
invariant-loop-rank l = (P : Problem) (B : Basis) → AreLeadsOf P B l.table l.leads → l.places.items ≡ minimal_places (ranks_of_problem P) B l.rank
