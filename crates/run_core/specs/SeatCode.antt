-- How the code of the machine speaks of seats, tests and steps.
use Rattle.std.specs.Prelude.{◌≡◌, ℕ, ◌&&◌, ◌==◌, Bool, not, nat_lt, nat_le, length, List, Option, Some, None, is_some, Result, IfOk, OnOk, OnErr, slice_index_or}
use Rattle.std.specs.declared.alloc.AllocError.{AllocError}
use Rattle.entry_code.specs.declared.reading.Reading.{Reading}
use Rattle.mora_law.specs.Run.{last_known}
use Rattle.mora_law.specs.Items.{tickets}
use Rattle.run_core.specs.Hand.{Hand, hand_end, reads_of}
use Rattle.run_core.specs.State.{Seat, State, known_by, is_busy, highest}
use Rattle.run_core.specs.Effects.{nobody}
use Rattle.run_core.specs.Schedule.{Found, is_stuck, or_same}

-- the hand, where there is one, with these readings
abbrev pub with_reads : List Reading → Option Hand → Option Hand
with_reads reads None = None
with_reads reads (Some h) = Some (record h { reads = reads })

-- the seat at a place
abbrev pub seat_at : State → ℕ → Seat
seat_at s i = slice_index_or s.seats i nobody

-- the place with its seat
abbrev pub found_at : State → ℕ → Found
found_at s i = record { place = i; seat = seat_at s i }

-- whether the seat may claim
abbrev pub claim_test : State → Seat → Bool
claim_test s v = not (is_busy s v) && (length v.numbers == 1 && nat_lt v.seen (tickets s.problem v.known))

-- whether it may rest
abbrev pub rest_test : State → Seat → Bool
rest_test s v = v.known == length s.entries && (not (is_busy s v) && nat_le (tickets s.problem v.known) v.seen)

-- whether it may publish
abbrev pub publish_test : State → Seat → Bool
publish_test s v = is_busy s v && (v.known == length s.entries && (is_stuck (hand_end s.problem (known_by s v) v.hand) && last_known 0 (reads_of v.hand) == v.known))

-- whether it may give k away
abbrev pub split_test : ℕ → State → Seat → Bool
split_test k s v = not (is_busy s v) && (nat_lt 1 (length v.numbers) && k == highest v.numbers)

-- whether two seats may be joined
abbrev pub join_test : State → Found → Found → Bool
join_test s f g = not (is_busy s f.seat) && (not (is_busy s g.seat) && not (f.place == g.place))

-- what a call answers and leaves, where t is the state that the event makes, if it makes one
pub record HasStepped (old new : State) (result : Result Bool AllocError) (t : Option State) : Type 0 where
  pub answer : IfOk result (λ b. b ≡ is_some t)
  pub state : OnOk result (new ≡ or_same old t)
  pub failed : OnErr result (new ≡ old)
