-- The rule of the table: its words and views are a sound state of the machine, and each chunk has one owner. Ours.
use Rattle.std.specs.Prelude.{◌≡◌, ◌⊎◌, ℕ, suc, ◌+◌, ◌*◌, ◌<◌, ◌≤◌, List, [], ◌∷◌, map, length, take, get_or, sum_by, Some}
use Rattle.atomic_table.specs.Table as table
use mathlib.Core.Option.{some}
use lib.ListN.{get_elem?}
use Rattle.entry_code.specs.declared.entry.Entry.{Entry as StoredEntry}
use Rattle.entry_code.specs.Entry.{Entry}
use Rattle.entry_code.specs.Words.{words_of}
use Rattle.run_core.specs.State.{Seat, State, times}
use Rattle.run_core.specs.Sound.{IsSound}
use Rattle.reducer_list.specs.View.{Setting, BodyReading, View, top, Begins}

-- the words and the views of the table
abbrev pub Words : Type 0
Words = table.State StoredEntry View

-- where the body of a chunk begins, behind the corner, the ticket number and the heads
abbrev pub body : Setting → ℕ → ℕ
body p c = top p + 3 + c * (top p + 8)

-- how many words the table has
abbrev pub table_words : Setting → ℕ
table_words p = top p + 3 + (top p + p.workers) * (top p + 8)

-- the words from a place on are these
abbrev pub Lies : List ℕ → ℕ → List ℕ → Type 0
Lies words at xs = (k : ℕ) → k < length xs → get_or words (at + k) 0 ≡ get_or xs k 0

-- the seat of the machine
abbrev pub seat_of : View → Seat
seat_of v = v.seat

-- the state of the machine
abbrev pub core : Setting → List Entry → ℕ → ℕ → List View → State
core p entries corner ticket views = record {
  problem = p.problem;
  workers = p.workers;
  entries = entries;
  corner = corner;
  ticket = ticket;
  seats = map seat_of views;
}

-- the state that the words and the views of the table show with these entries
abbrev pub shown_by : Setting → List Entry → Words → State
shown_by p entries s = core p entries (get_or s.words 0 0) (get_or s.words 1 0) s.views

-- what holds of the view of a seat that wasn't joined away: it knows the first entries, has a chunk for each number, its stored words lie
-- in its first chunk, a head that it saw taken still is, what it read of a body is the beginning of that body, and it still
-- knows what it was joined with
pub record Fits (p : Setting) (entries : List Entry) (heads words : List ℕ) (v : View) : Type 0 where
  pub setting : v.setting ≡ p
  pub list : v.list ≡ take v.seat.known entries
  pub chunks : length v.chunks ≡ length v.seat.numbers
  pub draft : (c : ℕ) (cs : List ℕ) → v.chunks ≡ c ∷ cs → Lies words (body p c) v.draft
  pub short : length v.draft ≤ top p + 8
  pub taken : (c : ℕ) → v.taken ≡ Some c → (v.seat.known < length entries) × (get_or heads v.seat.known 0 ≡ c)
  pub reading : (r : BodyReading) → v.reading ≡ Some r
      → (r.place < length entries) × (get_or heads r.place 0 ≡ r.chunk) × Lies words (body p r.chunk) r.words × (length r.words ≤ top p + 8)
  pub joined : Begins v.joined v.list

-- a view that was joined away
abbrev pub IsSpent : View → Type 0
IsSpent v = (v.seat.numbers ≡ []) × (v.chunks ≡ [])

-- how many heads name a chunk and how many numbers have it
abbrev pub held : ℕ → List ℕ → List View → ℕ
held c heads views = times c heads + sum_by (λ v. times c v.chunks) views

-- the rule: the heads name a chunk for each entry, in which its words lie, and are 0 behind them; no chunk has two owners, and each is one
-- of the first; the views fit; and the state that the words and views show is sound
pub record Kept (p : Setting) (s : Words) : Type 0 where
  pub entries : List Entry
  pub heads : List ℕ
  pub size : length s.words ≡ table_words p
  pub few : length entries ≤ top p
  pub count : length heads ≡ length entries
  pub named : (i : ℕ) → i < length heads → get_or s.words (2 + i) 0 ≡ suc (get_or heads i 0)
  pub blank : (i : ℕ) → length heads ≤ i → i ≤ top p → get_or s.words (2 + i) 0 ≡ 0
  pub apart : (c : ℕ) → held c heads s.views ≤ 1
  pub bound : (c : ℕ) → 0 < held c heads s.views → c < p.workers + length entries
  pub spelled : (i : ℕ) (e : Entry) → get_elem? entries i ≡ some e → Lies s.words (body p (get_or heads i 0)) (words_of e) × (length (words_of e) ≤ top p + 8)
  pub views : (i : ℕ) (v : View) → get_elem? s.views i ≡ some v → IsSpent v ⊎ Fits p entries heads s.words v
  pub sound : IsSound (shown_by p entries s)
