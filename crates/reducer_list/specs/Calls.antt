-- What the calls of the board say. Ours.
use Rattle.std.specs.Prelude.{◌≡◌, ℕ, suc, ◌<◌, ◌≤◌, List, length, Some, None}
use Rattle.mora_law.specs.Tickets.{total}
use Rattle.run_core.specs.Effects.{won, later}
use Rattle.reducer_list.specs.View.{Setting, View, Sitting, Board, top}
use Rattle.entry_code.specs.Entry.{Entry}
use Rattle.entry_code.specs.Words.{words_of}
use Rattle.reducer_list.specs.Steps.{with_seat, made, posted, LastIdle, looked, place_read, learnt_view}
use Rattle.reducer_list.specs.declared.answers.Look.{Look}
use Rattle.reducer_list.specs.declared.answers.Look.TheVariants.{Nothing, Learnt}
use Rattle.reducer_list.specs.declared.answers.Publish.{Publish}
use Rattle.reducer_list.specs.declared.answers.Publish.TheVariants.{Published, Longer}
use Rattle.reducer_list.specs.declared.answers.Claim.{Claim}
use Rattle.reducer_list.specs.declared.answers.Claim.TheVariants.{NoneKnown, Claimed, Later}

-- the seat belongs to this board
abbrev pub IsAt : Board → Sitting → Type 0
IsAt b s = (s.table ≡ b.table) × (s.view.setting ≡ b.setting)

-- how many tickets there are with so many entries
abbrev pub tickets_of : Setting → ℕ → ℕ
tickets_of p entries = total (length p.problem.gens) entries

-- the tickets of what the seat knows are used up; or the ticket is won; or another number was found
abbrev pub HasClaimed : View → Claim → View → Type 0
HasClaimed v NoneKnown w = (tickets_of v.setting v.seat.known ≤ v.seat.seen) × (w ≡ v)
HasClaimed v (Claimed k) w = (v.seat.seen < tickets_of v.setting v.seat.known) × (k ≡ v.seat.seen) × (w ≡ with_seat v (won v.seat)) × (w.seat.claims ≤ tickets_of v.setting (top v.setting))
HasClaimed v (Later c) w = (v.seat.seen < tickets_of v.setting v.seat.known) × (v.seat.seen < c) × (w ≡ with_seat v (later c v.seat))

-- the head behind what is known was seen taken
abbrev pub HasSeenTaken : View → View → Type 0
HasSeenTaken v w = (c : ℕ) × (w ≡ record v { taken = Some c })

-- the entry stands in the list, at the place that was known; or the head there was seen taken, and the words of the entry are stored
abbrev pub HasPublished : View → Publish → View → Type 0
HasPublished v (Published i) w = (i ≡ v.seat.known) × (w ≡ posted v)
HasPublished v Longer w = HasSeenTaken (record v { draft = words_of (made v) }) w

-- the head behind what is known was empty at one load, so it had never been seen taken, and the seat has seen all tickets at most
abbrev pub HasLooked : View → View → Type 0
HasLooked v w = (v.taken ≡ None) × (w ≡ looked v) × LastIdle w × (tickets_of v.setting v.seat.known ≤ v.seat.seen → v.seat.seen ≡ tickets_of v.setting v.seat.known)

-- these words of the chunk are read so far
abbrev pub IsReading : ℕ → List ℕ → View → Type 0
IsReading chunk words v = v.reading ≡ Some (record { place = place_read v.reading; chunk = chunk; words = words })

-- nothing was there; or the seat knows the entry at the place behind what it knew
abbrev pub HasSeen : View → Entry → Look → View → Type 0
HasSeen v e Nothing w = HasLooked v w
HasSeen v e (Learnt i) w = (i ≡ v.seat.known) × (w ≡ record (learnt_view e v) { looks = suc v.looks })
