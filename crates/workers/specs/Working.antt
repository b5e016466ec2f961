-- What contracts see of a worker, and what a turn says of it. Ours.
use Rattle.std.specs.Prelude.{◌≡◌, ℕ, suc, ◌+◌, ◌*◌, ◌-◌, ◌<◌, ◌≤◌, Bool, true, false, List, length, Some, Option, None, if◌then◌else◌}
use Rattle.run_core.specs.Hand.{Hand, reads_of}
use Rattle.reducer_list.specs.View.{View, Sitting, Board, top, is_busy}
use Rattle.reducer_list.specs.Steps.{LastIdle}
use Rattle.reducer_list.specs.Calls.{IsAt, HasLooked, tickets_of}
use Rattle.workers.specs.declared.turn.Turn.{Turn}
use Rattle.workers.specs.declared.turn.Turn.TheVariants.{Worked, Idle}

-- a worker: its seat, how many of its steps reduced, and whether its last turn found no ticket
pub record Working : Type 0 where
  pub seat : Sitting
  pub reductions : ℕ
  pub rests : Bool

-- the numbers of its seat
abbrev pub numbers_of : Working → List ℕ
numbers_of w = w.seat.view.seat.numbers

-- its seat belongs to the board, and has one worker number and no open hand
pub record CanTurn (b : Board) (w : Working) : Type 0 where
  pub board : IsAt b w.seat
  pub one : length (numbers_of w) ≡ 1
  pub shut : is_busy w.seat.view ≡ false

-- so many steps that reduced are at most as many as monomials for each ticket that the seat claimed, and at least those of the entries that
-- it published
pub record HasBounds (v : View) (reductions : ℕ) : Type 0 where
  pub most : reductions ≤ top v.setting * v.seat.claims
  pub least : v.seat.published ≤ reductions

-- the same of a worker
abbrev pub IsCounted : Working → Type 0
IsCounted w = HasBounds w.seat.view w.reductions

-- the readings of the hand but the last: each of them ended with Reduced
abbrev pub reduced_in : View → ℕ
reduced_in v = length (reads_of v.seat.hand) - 1

-- 1 where the entry of the hand is published
abbrev pub posted_in : Option Hand → ℕ
posted_in None = 0
posted_in (Some h) = if h.published then 1 else 0

-- a ticket was carried to its end: it was claimed in this turn; each look learnt an entry, and the one more that is known, if any, is the
-- hand's; the count rose by the steps that reduced
pub record HasWorked (v w : View) (before after : ℕ) : Type 0 where
  pub claims : w.seat.claims ≡ suc v.seat.claims
  pub few : w.seat.claims ≤ tickets_of w.setting (top w.setting)
  pub seen : v.seat.seen < w.seat.seen
  pub hand : (h : Hand) × (w.seat.hand ≡ Some h) × (w.seat.seen ≡ suc h.ticket)
  pub looks : w.looks + v.seat.known + posted_in w.seat.hand ≡ v.looks + w.seat.known
  pub count : after ≡ before + reduced_in w
  pub bound : reduced_in w ≤ top w.setting

-- no ticket was left: at the last load of this turn the seat, as it was then, had seen all tickets of what it knew, and the head behind
-- that was empty
pub record HasRested (v w : View) (before after : ℕ) : Type 0 where
  pub then_ : View
  pub load : HasLooked then_ w
  pub tickets : then_.seat.seen ≡ tickets_of then_.setting then_.seat.known
  pub this : v.looks ≤ then_.looks
  pub idle : w.seat.idle ≡ true
  pub looks : v.looks < w.looks
  pub claims : w.seat.claims ≡ v.seat.claims
  pub seen : v.seat.seen ≤ w.seat.seen
  pub known : w.seat.seen ≡ tickets_of w.setting w.seat.known
  pub last : LastIdle w
  pub count : after ≡ before

-- what the answer of a turn says of what its seat knows, and of the count
abbrev pub TurnSays : Turn → View → View → ℕ → ℕ → Type 0
TurnSays Worked v w before after = HasWorked v w before after
TurnSays Idle v w before after = HasRested v w before after

-- the same of a worker
abbrev pub HasTurned : Working → Turn → Working → Type 0
HasTurned v turn w = TurnSays turn v.seat.view w.seat.view v.reductions w.reductions
