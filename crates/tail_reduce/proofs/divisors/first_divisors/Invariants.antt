use Rattle.sparse_poly.specs.Ideal.{Problem}
use Rattle.rank_algebra.specs.Division.{Basis}
use Rattle.mora_law.specs.Ring.{ranks_of_problem}
use Rattle.tail_reduce.specs.Divisors.{AreLeadsOf, AreFirsts}
use Rattle.tail_reduce.proofs.divisors.first_divisors.Given as goal

abbrev pub invariant-loop-rank : goal.invariant-loop-rank
invariant-loop-rank l = (P : Problem) (B : Basis) → AreLeadsOf P B l.table l.leads → AreFirsts (ranks_of_problem P) B l.rank l.firsts.items
