-- The events as a relation between states.
use Rattle.std.specs.Prelude.{◌≡◌, ◌≢◌, ◌⊎◌, ℕ, ◌<◌, ◌≤◌, true, false, [], length, Some}
use Rattle.mora_law.specs.declared.step_end.StepEnd.TheVariants.{Stuck}
use Rattle.mora_law.specs.Run.{last_known}
use Rattle.run_core.specs.declared.event.Event.{Event}
use Rattle.run_core.specs.declared.event.Event.TheVariants.{Claim, Corner, Look, Publish, Split, Join}
use Rattle.mora_law.specs.Items.{tickets}
use Rattle.run_core.specs.Hand.{reads_of, hand_end}
use Rattle.run_core.specs.State.{Seat, State, IsAt, known_by, is_busy, highest, lowest}
use Rattle.run_core.specs.Effects.{with_seat, after_claim, after_corner, learnt, rested, after_publish, after_split, after_join}

-- no open hand, one number, and a ticket to claim among those that the seat knows
abbrev pub CanClaim : State → Seat → Type 0
CanClaim s v = (is_busy s v ≡ false) × (length v.numbers ≡ 1) × (v.seen < tickets s.problem v.known)

-- an open hand
abbrev pub CanCorner : State → Seat → Type 0
CanCorner s v = is_busy s v ≡ true

-- a further entry
abbrev pub CanLearn : State → Seat → Type 0
CanLearn s v = v.known < length s.entries

-- no further entry, no open hand, and no ticket to claim
abbrev pub CanRest : State → Seat → Type 0
CanRest s v = (v.known ≡ length s.entries) × (is_busy s v ≡ false) × (tickets s.problem v.known ≤ v.seen)

-- an open hand, whose run ends with Stuck at the whole list
abbrev pub CanPublish : State → Seat → Type 0
CanPublish s v = (is_busy s v ≡ true) × (v.known ≡ length s.entries) × (hand_end s.problem (known_by s v) v.hand ≡ Some Stuck) × (last_known 0 (reads_of v.hand) ≡ v.known)

-- k is the greatest of several numbers, and there is no open hand
abbrev pub CanSplit : State → ℕ → Seat → Type 0
CanSplit s k v = (is_busy s v ≡ false) × (1 < length v.numbers) × (k ≡ highest v.numbers)

-- the other seat has the name k, and neither has an open hand
abbrev pub CanJoin : State → ℕ → Seat → Seat → Type 0
CanJoin s k v w = (is_busy s v ≡ false) × (is_busy s w ≡ false) × (v.numbers ≢ []) × (w.numbers ≢ []) × (k ≡ lowest w.numbers)

-- the event of the seat at place i takes the state s to t
abbrev pub Makes : Event → State → ℕ → State → Type 0
Makes Claim s i t = (v : Seat) × IsAt s i v × CanClaim s v × (t ≡ after_claim s i v)
Makes Corner s i t = (v : Seat) × IsAt s i v × CanCorner s v × (t ≡ after_corner s i v)
Makes Look s i t = (v : Seat) × IsAt s i v × (v.numbers ≢ []) × ((CanLearn s v × (t ≡ with_seat s i (learnt v))) ⊎ (CanRest s v × (t ≡ with_seat s i (rested v))))
Makes Publish s i t = (v : Seat) × IsAt s i v × CanPublish s v × (t ≡ after_publish s i v)
Makes (Split k) s i t = (v : Seat) × IsAt s i v × CanSplit s k v × (t ≡ after_split s i v)
Makes (Join k) s i t = (v : Seat) × (j : ℕ) × (w : Seat) × IsAt s i v × IsAt s j w × (i ≢ j) × CanJoin s k v w × (t ≡ after_join s i v j w)
