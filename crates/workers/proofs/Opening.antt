-- A worker that knows nothing yet.
-- It has no hand, no entries and no counts.
use Rattle.std.proofs.Common.{◌≡◌, ℕ, ◌*◌, ◌^◌, ◌<◌, ◌≤◌, List, [], length, refl, sym, ap, ◌∙◌, subst, arith}
use Rattle.local_order.specs.Shape.{Shape, count}
use Rattle.sparse_poly.specs.Shape.{shape_of}
use Rattle.sparse_poly.specs.Ideal.{IsProblem}
use Rattle.mora_law.proofs.Ring.{ranks_count, count_is}
use Rattle.run_core.specs.declared.workspace.Workspace.{Workspace}
use Rattle.run_core.specs.Work.{Holds}
use Rattle.reducer_list.specs.View.{Setting, top}
use Rattle.workers.specs.Working.{HasBounds}
use Rattle.workers.specs.Running.{IsKnown, IsShut}
use Rattle.workers.specs.Rounds.{seat_with}

module _ (p : Setting) (ns : List ℕ) where
  -- what it knows
  pub known_new : (s : Workspace) → IsProblem p.problem → length p.problem.gens < 2 ^ 32 → Holds p.problem [] s → IsKnown (seat_with p ns) s
  known_new s problem generators holds = record { problem = problem; generators = generators; legal = λ i l. absurd (omega arith); count = refl; quiet = refl; holds = holds }

  -- it has no work
  pub shut_new : IsShut (seat_with p ns)
  shut_new more = refl

  -- its counts
  pub bounds_new : (n : ℕ) → n ≡ 0 → HasBounds (seat_with p ns) n
  bounds_new n e = record { most = subst (λ m. m ≤ top p * 0) (sym e) (omega arith); least = omega arith }

-- how many monomials there are
pub top_is : (p : Setting) (T : Shape) (n : ℕ) → n ≡ count T → T ≡ shape_of p.problem → n ≡ top p
top_is p T n e f = e ∙ ap count f ∙ sym (ranks_count p.problem ∙ count_is p.problem)
