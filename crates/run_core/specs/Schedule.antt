-- Schedules: events of seats in a row, where an event whose condition doesn't hold changes nothing.
use Rattle.std.specs.Prelude.{ℕ, suc, ◌&&◌, Bool, true, false, not, List, [], ◌∷◌, length, Option, Some, None, nat_lt, nat_le, ◌==◌, if◌then◌else◌}
use Rattle.mora_law.specs.declared.step_end.StepEnd.{StepEnd}
use Rattle.mora_law.specs.declared.step_end.StepEnd.TheVariants.{Zero, Reduced, Stuck}
use Rattle.mora_law.specs.Run.{last_known}
use Rattle.run_core.specs.declared.event.Event.{Event}
use Rattle.run_core.specs.declared.event.Event.TheVariants.{Claim, Corner, Look, Publish, Split, Join}
use Rattle.mora_law.specs.Items.{tickets}
use Rattle.run_core.specs.Hand.{reads_of, hand_end}
use Rattle.run_core.specs.State.{Seat, State, known_by, is_busy, highest, lowest}
use Rattle.run_core.specs.Effects.{with_seat, after_claim, after_corner, learnt, rested, after_publish, after_split, after_join}

-- a place in the list of seats, with the seat there
pub record Found : Type 0 where
  pub place : ℕ
  pub seat : Seat

-- whether a seat with these numbers has the name k
abbrev pub is_named : ℕ → List ℕ → Bool
is_named k [] = false
is_named k (n ∷ ns) = k == lowest (n ∷ ns)

-- the first seat with the name k, where the first of these stands at a place
abbrev pub find_seat : ℕ → ℕ → List Seat → Option Found
find_seat k place [] = None
find_seat k place (v ∷ seats) = if is_named k v.numbers then Some (record { place = place; seat = v }) else find_seat k (suc place) seats

-- whether a run ends with Stuck
abbrev pub is_stuck : Option StepEnd → Bool
is_stuck None = false
is_stuck (Some Zero) = false
is_stuck (Some Reduced) = false
is_stuck (Some Stuck) = true

-- t where the test holds
abbrev pub where_true : Bool → State → Option State
where_true true t = Some t
where_true false t = None

-- Claim by its tests
abbrev pub next_claim : State → Found → Option State
next_claim s f = where_true (not (is_busy s f.seat) && (length f.seat.numbers == 1 && nat_lt f.seat.seen (tickets s.problem f.seat.known))) (after_claim s f.place f.seat)

-- Corner by its test
abbrev pub next_corner : State → Found → Option State
next_corner s f = where_true (is_busy s f.seat) (after_corner s f.place f.seat)

-- Look by its tests: a further entry, or rest
abbrev pub next_look : State → Found → Option State
next_look s f =
    if nat_lt f.seat.known (length s.entries) then Some (with_seat s f.place (learnt f.seat))
    else where_true (f.seat.known == length s.entries && (not (is_busy s f.seat) && nat_le (tickets s.problem f.seat.known) f.seat.seen)) (with_seat s f.place (rested f.seat))

-- Publish by its tests
abbrev pub next_publish : State → Found → Option State
next_publish s f =
    where_true
    (is_busy s f.seat && (f.seat.known == length s.entries && (is_stuck (hand_end s.problem (known_by s f.seat) f.seat.hand) && last_known 0 (reads_of f.seat.hand) == f.seat.known)))
    (after_publish s f.place f.seat)

-- Split by its tests
abbrev pub next_split : ℕ → State → Found → Option State
next_split k s f = where_true (not (is_busy s f.seat) && (nat_lt 1 (length f.seat.numbers) && k == highest f.seat.numbers)) (after_split s f.place f.seat)

-- with the other seat, where there is one
abbrev pub next_join : State → Found → Option Found → Option State
next_join s f None = None
next_join s f (Some g) = where_true (not (is_busy s f.seat) && (not (is_busy s g.seat) && not (f.place == g.place))) (after_join s f.place f.seat g.place g.seat)

-- what an event of a seat makes, where its condition holds
abbrev pub next_at : Event → State → Found → Option State
next_at Claim s f = next_claim s f
next_at Corner s f = next_corner s f
next_at Look s f = next_look s f
next_at Publish s f = next_publish s f
next_at (Split k) s f = next_split k s f
next_at (Join k) s f = next_join s f (find_seat k 0 s.seats)

-- the same where a seat was found
abbrev pub next_by : Event → State → Option Found → Option State
next_by e s None = None
next_by e s (Some f) = next_at e s f

-- what an event of the seat with a name makes: nothing where there is no such seat, or where the condition doesn't hold
abbrev pub next : ℕ → Event → State → Option State
next name e s = next_by e s (find_seat name 0 s.seats)

-- the state that is made, or the old one
abbrev pub or_same : State → Option State → State
or_same s None = s
or_same s (Some t) = t

-- an event of the seat with a name
pub record Action : Type 0 where
  pub name : ℕ
  pub event : Event

-- the state after a schedule: each event whose condition doesn't hold changes nothing
unfoldable pub after : State → List Action → State
after s [] = s
after s (a ∷ more) = after (or_same s (next a.name a.event s)) more
