-- What holds of a worker at its board between its steps. Ours.
use Rattle.std.specs.Prelude.{◌≡◌, ℕ, suc, ◌+◌, ◌-◌, ◌^◌, ◌<◌, ◌≤◌, true, false, List, ◌++◌, length, Option, Some, None, vec_len}
use Rattle.sparse_poly.specs.Ideal.{IsProblem}
use Rattle.entry_code.specs.Entry.{Entry, HasRoom}
use Rattle.mora_law.specs.declared.step_end.StepEnd.{StepEnd}
use Rattle.mora_law.specs.declared.step_end.StepEnd.TheVariants.{Zero}
use Rattle.mora_law.specs.Run.{last_known}
use Rattle.mora_law.specs.Items.{item_for}
use Rattle.mora_law.specs.Legal.{Legal}
use Rattle.mora_form.specs.State.{State as MoraState, HasRun}
use Rattle.run_core.specs.declared.workspace.Workspace.{Workspace}
use Rattle.run_core.specs.Hand.{Hand, hand_of, has_open, is_skipped, is_zero, reads_of}
use Rattle.run_core.specs.Work.{Holds}
use Rattle.reducer_list.specs.View.{View, Board, top}
use Rattle.reducer_list.specs.Steps.{learnt_view}
use Rattle.reducer_list.specs.Calls.{IsAt, tickets_of}
use Rattle.workers.specs.declared.runner.Runner.{Runner}
use Rattle.workers.specs.Working.{posted_in}

-- what the seat knows is legal, the workspace holds it, and nothing is being read
pub record IsKnown (v : View) (s : Workspace) : Type 0 where
  pub problem : IsProblem v.setting.problem
  pub generators : length v.setting.problem.gens < 2 ^ 32
  pub legal : Legal v.setting.problem v.list
  pub count : v.seat.known ≡ length v.list
  pub quiet : v.reading ≡ None
  pub holds : Holds v.setting.problem v.list s

-- there is no work at the hand, and there will be none, whatever the seat learns
abbrev pub IsShut : View → Type 0
IsShut v = (more : List Entry) → has_open v.setting.problem (v.list ++ more) v.seat.hand ≡ false

-- what the seat knows is at hand, with room for an entry and its words
pub record IsEquipped (r : Runner) : Type 0 where
  pub known : IsKnown r.seat.view r.space
  pub words : top r.seat.view.setting + 4 ≤ vec_len r.words
  pub room : HasRoom (top r.seat.view.setting) r.room

-- the seat belongs to the board and has one number
pub record IsPlaced (b : Board) (r : Runner) : Type 0 where
  pub board : IsAt b r.seat
  pub one : length r.seat.view.seat.numbers ≡ 1
  pub equipped : IsEquipped r

-- the hand is the ticket of the run with its readings; its pair isn't skipped, and the run is that of its item over what the seat knows
pub record IsInHand (v : View) (m : MoraState) : Type 0 where
  pub ticket : ℕ
  pub hand : v.seat.hand ≡ Some (record { ticket = ticket; reads = m.reads; published = false })
  pub item : m.item ≡ item_for v.setting.problem ticket
  pub pair : is_skipped v.setting.problem v.list (item_for v.setting.problem ticket) ≡ false
  pub run : HasRun v.setting.problem v.list m

-- a run is open that hasn't ended with Zero, and the hand is its
pub record IsRunning (b : Board) (r : Runner) : Type 0 where
  pub placed : IsPlaced b r
  pub hand : IsInHand r.seat.view r.space.mora
  pub opened : r.space.mora.is_open ≡ true
  pub going : is_zero r.space.mora.end ≡ false

-- a run whose last step, by all that the seat knows, ended so
pub record HasStepped (b : Board) (r : Runner) (end : StepEnd) : Type 0 where
  pub placed : IsPlaced b r
  pub hand : IsInHand r.seat.view r.space.mora
  pub opened : (end ≡ Zero → ⊥) → r.space.mora.is_open ≡ true
  pub ended : r.space.mora.end ≡ Some end
  pub last : last_known 0 r.space.mora.reads ≡ r.seat.view.seat.known

-- the ticket of a hand
abbrev pub ticket_in : Option Hand → ℕ
ticket_in None = 0
ticket_in (Some h) = h.ticket

-- the seat is as before but for its hand, whose ticket is the same
pub record IsAsBefore (v w : View) : Type 0 where
  pub hand : w ≡ record v { seat = record v.seat { hand = w.seat.hand } }
  pub ticket : ticket_in w.seat.hand ≡ ticket_in v.seat.hand

-- the seat knows the next entry
abbrev pub HasLearnt : View → View → Type 0
HasLearnt v w = (e : Entry) × (w ≡ record (learnt_view e v) { looks = suc v.looks })

-- what stays while a ticket is carried
pub record Keeps (v w : View) : Type 0 where
  pub setting : w.setting ≡ v.setting
  pub numbers : w.seat.numbers ≡ v.seat.numbers
  pub seen : w.seat.seen ≡ v.seat.seen
  pub claims : w.seat.claims ≡ v.seat.claims
  pub ticket : ticket_in w.seat.hand ≡ ticket_in v.seat.hand

-- so far no entry was published, and each look learnt one
pub record GoesOn (v w : View) : Type 0 where
  pub keeps : Keeps v w
  pub published : w.seat.published ≡ v.seat.published
  pub looks : w.looks + v.seat.known ≡ v.looks + w.seat.known

-- the ticket is at its end: each look learnt an entry, and the one more that is known, if any, is the hand's
pub record HasEnded (v w : View) : Type 0 where
  pub keeps : Keeps v w
  pub hand : (h : Hand) × (w.seat.hand ≡ Some h)
  pub some : 0 < length (reads_of w.seat.hand)
  pub few : length (reads_of w.seat.hand) ≤ top v.setting + 1
  pub published : w.seat.published ≤ v.seat.published + (length (reads_of w.seat.hand) - 1)
  pub looks : w.looks + v.seat.known + posted_in w.seat.hand ≡ v.looks + w.seat.known

-- the ticket was just claimed
pub record HasClaimed (b : Board) (r : Runner) (ticket : ℕ) : Type 0 where
  pub placed : IsPlaced b r
  pub hand : r.seat.view.seat.hand ≡ Some (hand_of ticket)
  pub within : ticket < tickets_of r.seat.view.setting r.seat.view.seat.known

-- the entry of the run is published, or its last step ended with Zero
pub record HasPosted (r r' : Runner) : Type 0 where
  pub shut : IsShut r'.seat.view
  pub ended : HasEnded r.seat.view r'.seat.view
  pub reads : reads_of r'.seat.view.seat.hand ≡ r'.space.mora.reads

-- the list was longer: one more entry is known, and the run is open still
pub record IsLonger (b : Board) (r r' : Runner) : Type 0 where
  pub running : IsRunning b r'
  pub on : GoesOn r.seat.view r'.seat.view
  pub more : r'.seat.view.seat.known ≡ suc r.seat.view.seat.known

-- the ticket was carried to its end, and the steps that reduced are counted
pub record HasCarried (r r' : Runner) : Type 0 where
  pub keeps : Keeps r.seat.view r'.seat.view
  pub hand : (h : Hand) × (r'.seat.view.seat.hand ≡ Some h)
  pub published : r'.seat.view.seat.published ≤ r.seat.view.seat.published + (length (reads_of r'.seat.view.seat.hand) - 1)
  pub looks : r'.seat.view.looks + r.seat.view.seat.known + posted_in r'.seat.view.seat.hand ≡ r.seat.view.looks + r'.seat.view.seat.known
  pub count : r'.space.reductions ≡ r.space.reductions + (length (reads_of r'.seat.view.seat.hand) - 1)
  pub few : length (reads_of r'.seat.view.seat.hand) ≤ top r.seat.view.setting + 1
