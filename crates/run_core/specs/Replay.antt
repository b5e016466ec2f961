-- The run of a hand, made again from its readings.
use Rattle.std.specs.Prelude.{◌≡◌, ◌≢◌, ℕ, ◌<◌, ◌≤◌, true, List, length, take, Option, Some, slice_get}
use Rattle.sparse_poly.specs.Ideal.{Problem}
use Rattle.entry_code.specs.declared.reading.Reading.{Reading}
use Rattle.entry_code.specs.Entry.{Entry}
use Rattle.mora_law.specs.declared.step_end.StepEnd.TheVariants.{Stuck}
use Rattle.mora_law.specs.Legal.{Legal}
use Rattle.mora_law.specs.Items.{item_for}
use Rattle.mora_form.specs.State.{HasRun}
use Rattle.run_core.specs.declared.workspace.Workspace.{Workspace}
use Rattle.run_core.specs.Hand.{Hand, has_open}
use Rattle.run_core.specs.Sound.{IsHandSound}
use Rattle.run_core.specs.Work.{Holds}

-- the hand is a sound one of a seat that knows so many of the entries
pub record IsKnownHand (P : Problem) (entries : List Entry) (known : ℕ) (h : Hand) : Type 0 where
  pub legal : Legal P entries
  pub within : known ≤ length entries
  pub word : ℕ
  pub ticket : ℕ
  pub sound : IsHandSound P word ticket (take known entries) h

-- the worker has the run of the hand by its first i readings, and knows the entries that were known then
pub record IsRun (P : Problem) (entries : List Entry) (known : ℕ) (h : Hand) (i : ℕ) (w : Workspace) : Type 0 where
  pub within : length w.mora.known ≤ known
  pub holds : Holds P (take (length w.mora.known) entries) w
  pub run : HasRun P (take (length w.mora.known) entries) w.mora
  pub item : w.mora.item ≡ item_for P h.ticket
  pub reads : w.mora.reads ≡ take i h.reads
  pub opened : i < length h.reads → w.mora.is_open ≡ true
  pub moving : i < length h.reads → w.mora.end ≢ Some Stuck
  pub next : (d : Reading) → slice_get h.reads i ≡ Some d → length w.mora.known ≤ d.known

-- the worker knows these entries, and has the run of the hand by all its readings
pub record IsReplayed (P : Problem) (known : List Entry) (h : Hand) (w : Workspace) : Type 0 where
  pub holds : Holds P known w
  pub run : HasRun P known w.mora
  pub item : w.mora.item ≡ item_for P h.ticket
  pub reads : w.mora.reads ≡ h.reads

-- there is work at the hand, and the worker has its run
pub record IsAtWork (P : Problem) (known : List Entry) (o : Option Hand) (w : Workspace) : Type 0 where
  pub opened : has_open P known o ≡ true
  pub hand : Hand
  pub is : o ≡ Some hand
  pub run : IsReplayed P known hand w
