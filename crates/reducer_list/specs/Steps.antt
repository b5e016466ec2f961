-- What each step of the board tells its caller. Ours.
use Rattle.std.specs.Prelude.{◌≡◌, ◌≢◌, ℕ, suc, ◌+◌, ◌-◌, ◌<◌, ◌≤◌, List, [], ◌∷◌, ◌++◌, length, take, sum_by, Some, None, true, min, nat_le, get_or, Option, if◌then◌else◌, ⊤}
use Rattle.atomic_table.specs.Table as table
use Rattle.entry_code.specs.declared.reading.Reading.{Reading}
use Rattle.entry_code.specs.declared.entry.Entry.{Entry as StoredEntry}
use Rattle.entry_code.specs.Entry.{Entry, entry_at}
use Rattle.entry_code.specs.Words.{words_of, IsSpellable}
use Rattle.mora_law.specs.Legal.{Legal}
use Rattle.mora_law.specs.Tickets.{total}
use Rattle.mora_law.specs.declared.step_end.StepEnd.TheVariants.{Stuck}
use Rattle.mora_law.specs.Run.{last_known}
use Rattle.run_core.specs.Hand.{draft, marked, hand_end, reads_of, read}
use Rattle.run_core.specs.State.{Seat, times, steps_of}
use Rattle.run_core.specs.Effects.{won, later, learnt, rested, kept, given, joined, nobody}
use Rattle.run_core.specs.Idle.{SettlesAll}
use Rattle.reducer_list.specs.View.{Setting, BodyReading, View, top, is_busy, Begins}
use Rattle.reducer_list.specs.Rule.{body}

-- a seat's view, and the slots that it has, which are none
abbrev pub Me : Type 0
Me = table.Me StoredEntry View

-- the view with another seat of the machine
abbrev pub with_seat : View → Seat → View
with_seat v u = record v { seat = u }

-- a claim: the ticket is won where the word is what the seat has seen, and else the seat has seen the word
abbrev pub Claimed : table.Step StoredEntry → Me → ℕ → Me → Type 0
Claimed st m found m' =
    (m'.1 ≡ m.1)
    × (found ≡ st.first → (m'.0 ≡ with_seat m.0 (won m.0.seat)) × (m'.0.seat.claims ≤ total (length m.0.setting.problem.gens) (top m.0.setting)))
    × (found ≢ st.first → (m'.0 ≡ with_seat m.0 (later found m.0.seat)) × (m.0.seat.seen < found))

-- the hand has one more reading, of this corner
abbrev pub cornered : ℕ → View → View
cornered c v = with_seat v (record v.seat { hand = read v.setting.problem v.list (record { known = v.seat.known; corner = c }) v.seat.hand })

-- a corner is at most that of each reading
abbrev pub AreAbove : ℕ → List Reading → Type 0
AreAbove c [] = ⊤
AreAbove c (d ∷ ds) = (c ≤ d.corner) × AreAbove c ds

-- a corner: the lesser of the word and the own corner joins the hand
abbrev pub Cornered : table.Step StoredEntry → Me → ℕ → Me → Type 0
Cornered st m found m' = (m'.1 ≡ m.1) × (m'.0 ≡ cornered (min found st.first) m.0) × AreAbove (min found st.first) (reads_of m.0.seat.hand)

-- without the last
abbrev pub all_but_last : List ℕ → List ℕ
all_but_last [] = []
all_but_last (x ∷ []) = []
all_but_last (x ∷ y ∷ ys) = x ∷ all_but_last (y ∷ ys)

-- the last alone
abbrev pub last_only : List ℕ → List ℕ
last_only [] = []
last_only (x ∷ []) = x ∷ []
last_only (x ∷ y ∷ ys) = last_only (y ∷ ys)

-- the half that stays: the last chunk goes with the greatest number
abbrev pub left_half : View → View
left_half v = record v { seat = kept v.seat; chunks = all_but_last v.chunks }

-- the new seat's view
abbrev pub right_half : View → View
right_half v = record {
  setting = v.setting;
  list = v.list;
  seat = given v.seat;
  chunks = last_only v.chunks;
  draft = [];
  taken = None;
  reading = None;
  looks = 0;
  joined = [];
}

-- two views in one: the list is the longer of the two
abbrev pub both : View → View → View
both v w = record {
  setting = v.setting;
  list = if nat_le w.seat.known v.seat.known then v.list else w.list;
  seat = joined v.seat w.seat;
  chunks = v.chunks ++ w.chunks;
  draft = v.draft;
  taken = if nat_le w.seat.known v.seat.known then v.taken else None;
  reading = None;
  looks = v.looks;
  joined = if nat_le w.seat.known v.seat.known then w.list else v.list;
}

-- what is left of a view that was joined away
abbrev pub spent_view : View
spent_view = record {
  setting = record { problem = record { p = 0; n = 0; d = 0; gens = [] }; workers = 0 };
  list = [];
  seat = nobody;
  chunks = [];
  draft = [];
  taken = None;
  reading = None;
  looks = 0;
  joined = [];
}

-- a seat that has all numbers and the idle mark: its counts are those of all, and its list settles every ticket
abbrev pub LastIdle : View → Type 0
LastIdle v =
    ((w : ℕ) → w < v.setting.workers → 0 < times w v.seat.numbers) → v.seat.idle ≡ true
    → (v.seat.claims ≡ total (length v.setting.problem.gens) v.seat.known) × (v.seat.published ≡ sum_by steps_of v.list) × SettlesAll v.setting.problem v.list

-- a load that changes nothing, and shows what the rule says of the seat
abbrev pub Settled : table.Step StoredEntry → Me → ℕ → Me → Type 0
Settled st m found m' = (m'.1 ≡ m.1) × (m'.0 ≡ m.0) × LastIdle m.0 × (length m.0.seat.numbers ≤ m.0.setting.workers) × Begins m.0.joined m.0.list

-- the first of a list of chunks
abbrev pub first_chunk : List ℕ → ℕ
first_chunk [] = 0
first_chunk (c ∷ cs) = c

-- the list with another first chunk
abbrev pub behind_first : ℕ → List ℕ → List ℕ
behind_first c [] = []
behind_first c (x ∷ xs) = c ∷ xs

-- the entry that the seat's hand makes
abbrev pub made : View → Entry
made v = draft v.setting.problem v.list v.seat.hand

-- the hand's run ends with Stuck by a reading of all that the seat knows
abbrev pub IsStuck : View → Type 0
IsStuck v = (hand_end v.setting.problem v.list v.seat.hand ≡ Some Stuck) × (last_known 0 (reads_of v.seat.hand) ≡ v.seat.known)

-- an entry whose words fit into a chunk
abbrev pub FitsChunk : Setting → Entry → Type 0
FitsChunk p e = (length e.reads ≤ top p) × (length e.terms ≤ top p) × (length (words_of e) ≤ top p + 8)

-- a load that changes nothing, and shows that what a stuck hand makes fits into a chunk
abbrev pub Roomy : table.Step StoredEntry → Me → ℕ → Me → Type 0
Roomy st m found m' = (m'.1 ≡ m.1) × (m'.0 ≡ m.0) × (IsStuck m.0 → FitsChunk m.0.setting (made m.0))

-- one word more is stored in the first chunk
abbrev pub stored : ℕ → ℕ → View → View
stored k x v = record v { draft = take k v.draft ++ x ∷ [] }

-- a store into the own unpublished chunk
abbrev pub Stored : table.Step StoredEntry → Me → ℕ → Me → Type 0
Stored st m found m' = (m'.1 ≡ m.1) × (m'.0 ≡ stored (st.word - body m.0.setting (first_chunk m.0.chunks)) st.first m.0)

-- the entry is the last of the list, and the number goes on with a chunk that nobody had
abbrev pub posted : View → View
posted v = record v {
  list = v.list ++ made v ∷ [];
  seat = record v.seat { known = suc v.seat.known; hand = marked v.seat.hand; published = v.seat.published + steps_of (made v) };
  chunks = behind_first (v.setting.workers + v.seat.known) v.chunks;
  draft = [];
  taken = None;
}

-- the head was taken
abbrev pub refused : ℕ → View → View
refused found v = record v { taken = Some (found - 1) }

-- the exchange of the head behind what is known
abbrev pub Posted : table.Step StoredEntry → Me → ℕ → Me → Type 0
Posted st m found m' =
    (m'.1 ≡ m.1)
    × (found ≡ 0 → (m'.0 ≡ posted m.0) × (m.0.seat.known < top m.0.setting) × Legal m.0.setting.problem (posted m.0).list)
    × (found ≢ 0 → m'.0 ≡ refused found m.0)

-- the seat of the machine rests where it has no open hand and has seen all tickets of what it knows
abbrev pub rests_if : View → Seat
rests_if v = if is_busy v then v.seat else (if nat_le (total (length v.setting.problem.gens) v.seat.known) v.seat.seen then rested v.seat else v.seat)

-- the head behind what is known was empty
abbrev pub looked : View → View
looked v = record v { seat = rests_if v; looks = suc v.looks }

-- it names a chunk, whose words are to be read
abbrev pub found_taken : ℕ → View → View
found_taken found v = record v {
  taken = Some (found - 1);
  reading = Some (record { place = v.seat.known; chunk = found - 1; words = [] });
  looks = suc v.looks;
}

-- the load of the head behind what is known
abbrev pub Looked : table.Step StoredEntry → Me → ℕ → Me → Type 0
Looked st m found m' =
    (m'.1 ≡ m.1)
    × (found ≡ 0 → (m.0.taken ≡ None) × (m'.0 ≡ looked m.0) × LastIdle m'.0
    × (total (length m.0.setting.problem.gens) m.0.seat.known ≤ m.0.seat.seen → m.0.seat.seen ≡ total (length m.0.setting.problem.gens) m.0.seat.known))
    × (found ≢ 0 → (m'.0 ≡ found_taken found m.0) × (found ≤ top m.0.setting + m.0.setting.workers) × (m.0.seat.known < top m.0.setting))

-- the words of the known entry at a place are to be read
abbrev pub sought : ℕ → ℕ → View → View
sought place found v = record v { reading = Some (record { place = place; chunk = found - 1; words = [] }) }

-- the load of the head of an entry that is known
abbrev pub Sought : table.Step StoredEntry → Me → ℕ → Me → Type 0
Sought st m found m' = (m'.1 ≡ m.1) × (m'.0 ≡ sought (st.word - 2) found m.0) × (0 < found) × (found ≤ top m.0.setting + m.0.setting.workers)

-- one word more of what is being read
abbrev pub read_more : ℕ → Option BodyReading → Option BodyReading
read_more x None = None
read_more x (Some r) = Some (record r { words = r.words ++ x ∷ [] })

-- the numbers of readings and of terms, once they are read
abbrev pub HasCounted : Setting → Option BodyReading → Type 0
HasCounted p None = ⊤
HasCounted p (Some r) = length r.words ≡ 3 → (1 ≤ get_or r.words 1 0) × (1 ≤ get_or r.words 2 0) × (get_or r.words 1 0 + get_or r.words 2 0 ≤ top p + 1)

-- the load of a word of a body
abbrev pub ReadWord : table.Step StoredEntry → Me → ℕ → Me → Type 0
ReadWord st m found m' = (m'.1 ≡ m.1) × (m'.0 ≡ record m.0 { reading = read_more found m.0.reading }) × HasCounted m.0.setting m'.0.reading

-- the words that were read
abbrev pub words_read : Option BodyReading → List ℕ
words_read None = []
words_read (Some r) = r.words

-- the place of the entry that is being read
abbrev pub place_read : Option BodyReading → ℕ
place_read None = 0
place_read (Some r) = r.place

-- these are the words of the entry, and they can be read back
abbrev pub IsEntryOf : Setting → List ℕ → Entry → Type 0
IsEntryOf p words e = (words_of e ≡ words) × IsSpellable p.problem.p (top p) e

-- the seat knows one entry more
abbrev pub learnt_view : Entry → View → View
learnt_view e v = record v { list = v.list ++ e ∷ []; seat = learnt v.seat; taken = None; reading = None }

-- the load of the last word of the entry behind what is known
abbrev pub LearntWord : table.Step StoredEntry → Me → ℕ → Me → Type 0
LearntWord st m found m' =
    (m'.1 ≡ m.1)
    × ((e : Entry) × IsEntryOf m.0.setting (words_read m.0.reading ++ found ∷ []) e × (m'.0 ≡ learnt_view e m.0) × Legal m.0.setting.problem (learnt_view e m.0).list)

-- nothing is being read
abbrev pub done_reading : View → View
done_reading v = record v { reading = None }

-- the load of the last word of an entry that is known
abbrev pub RecalledWord : table.Step StoredEntry → Me → ℕ → Me → Type 0
RecalledWord st m found m' =
    (m'.1 ≡ m.1) × (m'.0 ≡ done_reading m.0) × IsEntryOf m.0.setting (words_read m.0.reading ++ found ∷ []) (entry_at m.0.list (place_read m.0.reading))

-- these words of the chunk are read so far
abbrev pub reads_on : ℕ → List ℕ → View → View
reads_on chunk words v = record v { reading = Some (record { place = place_read v.reading; chunk = chunk; words = words }) }

-- how many words there are but the last, told by the second and the third of them
abbrev pub AreAllButLast : Setting → ℕ → List ℕ → Type 0
AreAllButLast p last words = (2 < last) × (last ≡ 2 + get_or words 1 0 + get_or words 2 0) × (last < top p + 4)
