-- What a worker's part of a round does, and how a crew is made and taken apart. Ours.
use Rattle.std.specs.Prelude.{◌≡◌, ℕ, ◌+◌, ◌-◌, ◌<◌, ◌≤◌, true, false, List, length, sum_by, All}
use Rattle.std.specs.List.{range_with_len}
use Rattle.mora_law.specs.Legal.{Legal}
use Rattle.run_core.specs.State.{fresh, steps_of}
use Rattle.run_core.specs.Idle.{SettlesAll}
use Rattle.reducer_list.specs.View.{Setting, View, Board, Begins, one_seat, top}
use Rattle.reducer_list.specs.Calls.{tickets_of}
use Rattle.workers.specs.Working.{Working, CanTurn, IsCounted, numbers_of}
use Rattle.workers.specs.Manned.{IsIdle, HasLast, KnowsOf}

-- the most tickets that there can be
abbrev pub all_tickets : Setting → ℕ
all_tickets p = tickets_of p (top p)

-- a worker that did its part of a round: it found no ticket at last, or claimed some
pub record HasTakenTurns (b : Board) (w w' : Working) : Type 0 where
  pub ready : CanTurn b w'
  pub numbers : numbers_of w' ≡ numbers_of w
  pub more : w.seat.view.seat.claims ≤ w'.seat.view.seat.claims
  pub idle : w'.rests ≡ true → IsIdle w' × HasLast w'
  pub busy : w'.rests ≡ false → (w.seat.view.seat.claims < w'.seat.view.seat.claims) × (w'.seat.view.seat.claims ≤ all_tickets b.setting)

-- how many tickets a worker may still take
abbrev pub left_of : Setting → Working → ℕ
left_of p w = all_tickets p - w.seat.view.seat.claims

-- how many all workers may
abbrev pub left_to : Setting → List Working → ℕ
left_to p ws = sum_by (left_of p) ws

-- a seat with these numbers that knows nothing
abbrev pub seat_with : Setting → List ℕ → View
seat_with p numbers = record (one_seat p) { seat = fresh numbers; chunks = numbers }

-- the seat with the numbers below n
abbrev pub low_seat : Setting → ℕ → View
low_seat p n = seat_with p (range_with_len 0 n)

-- what the seat knows is legal
pub record IsLegalView (v : View) : Type 0 where
  pub legal : Legal v.setting.problem v.list
  pub count : v.seat.known ≡ length v.list

-- a worker at rest, whose seat may be joined
pub record CanEnd (b : Board) (w : Working) : Type 0 where
  pub turn : CanTurn b w
  pub idle : IsIdle w
  pub counted : IsCounted w
  pub legal : IsLegalView w.seat.view

-- the tickets that a worker's seat claimed
abbrev pub claims_of : Working → ℕ
claims_of w = w.seat.view.seat.claims

-- the steps that it published
abbrev pub published_of : Working → ℕ
published_of w = w.seat.view.seat.published

-- the seat v after the workers' seats were joined into it
pub record HasGathered (v : View) (others : List Working) (w : View) : Type 0 where
  pub legal : IsLegalView w
  pub claims : w.seat.claims ≡ v.seat.claims + sum_by claims_of others
  pub published : w.seat.published ≡ v.seat.published + sum_by published_of others
  pub mine : Begins v.list w.list
  pub theirs : All (KnowsOf w.list) others
  pub all : w.seat.claims ≡ tickets_of w.setting w.seat.known
  pub steps : w.seat.published ≡ sum_by steps_of w.list
  pub settled : SettlesAll w.setting.problem w.list
