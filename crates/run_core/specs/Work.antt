-- What holds of a worker beside its board.
use Rattle.std.specs.Prelude.{◌≡◌, ◌≢◌, ℕ, ◌+◌, ◌*◌, ◌<◌, ◌≤◌, Bool, true, false, List, length, map, sum_by, Some, vec_capacity}
use Rattle.corner_word.specs.Marks.{IsCoverOf}
use Rattle.local_order.specs.Shape.{count}
use Rattle.sparse_poly.specs.Shape.{shape_of}
use Rattle.sparse_poly.specs.Ideal.{Problem, IsProblem}
use Rattle.entry_code.specs.Entry.{Entry}
use Rattle.mora_law.specs.declared.step_end.StepEnd.{StepEnd}
use Rattle.mora_law.specs.declared.step_end.StepEnd.TheVariants.{Zero, Reduced, Stuck}
use Rattle.mora_law.specs.Entries.{lead_rank, leads}
use Rattle.mora_law.specs.Run.{last_known}
use Rattle.mora_law.specs.Tickets.{total}
use Rattle.mora_law.specs.Items.{item_for}
use Rattle.mora_form.specs.State.{State as MoraState, IsOver, Knows, HasRun}
use Rattle.run_core.specs.declared.workspace.Workspace.{Workspace}
use Rattle.run_core.specs.Hand.{hand_of}
use Rattle.run_core.specs.State.{count_of, steps_of}
use Rattle.run_core.specs.Sound.{IsSound}
use Rattle.run_core.specs.Plain.{Plain, plain, is_working, plain_end}

-- the worker computes in the problem's ring, and knows these entries: as rows, by their leads, and by what these cover. It has a place for the
-- lead of each entry that there can be
pub record Holds (P : Problem) (entries : List Entry) (w : Workspace) : Type 0 where
  pub table : w.table ≡ shape_of P
  pub over : IsOver P w.mora
  pub knows : Knows entries w.mora
  pub leads : w.leads.items ≡ leads P entries
  pub shape : w.cover.shape ≡ shape_of P
  pub cover : IsCoverOf (map (λ e. lead_rank e.terms) entries) w.cover
  pub room : count (shape_of P) ≤ vec_capacity w.leads

-- the hand of the board is the ticket of the run with its readings, and has no mark
pub record IsInHand (b : Plain) (m : MoraState) : Type 0 where
  pub ticket : ℕ
  pub hand : b.hand ≡ Some (record { ticket = ticket; reads = m.reads; published = false })
  pub item : m.item ≡ item_for b.problem ticket

-- a run is open, no step of which was stuck, and the hand is its
pub record IsRunning (b : Plain) (w : Workspace) : Type 0 where
  pub problem : IsProblem b.problem
  pub sound : IsSound (plain b)
  pub working : is_working b ≡ true
  pub holds : Holds b.problem b.entries w
  pub opened : w.mora.is_open ≡ true
  pub moving : w.mora.end ≢ Some Stuck
  pub run : HasRun b.problem b.entries w.mora
  pub hand : IsInHand b w.mora

-- what there is to do at the hand after a step that ended so
abbrev pub is_left : StepEnd → Bool
is_left Zero = false
is_left Reduced = true
is_left Stuck = true

-- a run whose last step, by the whole list, ended so
pub record HasRunTo (b : Plain) (w : Workspace) (end : StepEnd) : Type 0 where
  pub sound : IsSound (plain b)
  pub working : is_working b ≡ is_left end
  pub ended : plain_end b ≡ Some end
  pub holds : Holds b.problem b.entries w
  pub run : HasRun b.problem b.entries w.mora
  pub hand : IsInHand b w.mora
  pub last : last_known 0 w.mora.reads ≡ length b.entries

-- there is no work at the hand of the board
pub record IsReady (b : Plain) (w : Workspace) : Type 0 where
  pub sound : IsSound (plain b)
  pub idle : is_working b ≡ false
  pub holds : Holds b.problem b.entries w

-- the count of the steps that reduced is at least that of the entries, and at most that of all monomials for each ticket claimed
pub record HasCounted (b : Plain) (w : Workspace) : Type 0 where
  pub least : sum_by steps_of b.entries ≤ w.reductions
  pub most : w.reductions ≤ count_of b.problem * b.ticket

-- the ticket was just claimed, and isn't counted yet
pub record HasClaimed (b : Plain) (w : Workspace) (ticket : ℕ) : Type 0 where
  pub sound : IsSound (plain b)
  pub hand : b.hand ≡ Some (hand_of ticket)
  pub within : ticket < total (length b.problem.gens) (length b.entries)
  pub holds : Holds b.problem b.entries w
  pub least : sum_by steps_of b.entries ≤ w.reductions
  pub most : w.reductions + count_of b.problem ≤ count_of b.problem * b.ticket
