-- What every state keeps.
use Rattle.std.specs.Prelude.{◌≡◌, ◌≢◌, ◌⊎◌, ℕ, ◌<◌, ◌≤◌, true, false, List, [], ◌∷◌, length, take, sum_by, Some, None, if◌then◌else◌, nat_lt}
use mathlib.Core.Option.{some}
use lib.ListN.{get_elem?}
use Rattle.sparse_poly.specs.Ideal.{Problem}
use Rattle.entry_code.specs.Entry.{Entry}
use Rattle.mora_law.specs.Ring.{ranks_of_problem, IsAdmissible}
use Rattle.mora_law.specs.declared.step_end.StepEnd.TheVariants.{Reduced}
use Rattle.entry_code.specs.declared.reading.Reading.{Reading}
use Rattle.mora_law.specs.Run.{AreOrderly, last_known}
use Rattle.mora_law.specs.Entries.{basis_of, corner}
use Rattle.mora_law.specs.Legal.{HaveCorners, Legal}
use Rattle.mora_law.specs.Settled.{IsSettled}
use Rattle.mora_law.specs.Items.{item_for, tickets}
use Rattle.run_core.specs.Hand.{Hand, end_of, is_skipped, is_open, has_open}
use Rattle.run_core.specs.State.{Seat, State, count_of, times, steps_of}

-- a hand of a seat that knows these entries: its ticket was claimed and is one of theirs, along its readings the number known
-- never falls and corners never rise, each is between the corner word and the corner of what was known, and each but the last ended with
-- Reduced. Its first reading came when the ticket was one of the entries then known, and its pair isn't skipped. Once its entry is published,
-- more is known than at its last reading
pub record IsHandSound (P : Problem) (word ticket : ℕ) (known : List Entry) (h : Hand) : Type 0 where
  pub below : h.ticket < ticket
  pub within : h.ticket < tickets P (length known)
  pub orderly : AreOrderly (length known) 0 (count_of P) h.reads
  pub corners : HaveCorners (ranks_of_problem P) (basis_of known) word h.reads
  pub before : (j : ℕ) → 0 < j → j < length h.reads → end_of P known h.ticket (take j h.reads) ≡ Some Reduced
  pub begun : (d : Reading) (ds : List Reading) → h.reads ≡ d ∷ ds → (h.ticket < tickets P d.known) × (is_skipped P known (item_for P h.ticket) ≡ false)
  pub marked : h.published ≡ true → last_known 0 h.reads < length known

-- a seat that knows these of so many entries
pub record IsSeatSound (P : Problem) (word ticket count : ℕ) (list : List Entry) (v : Seat) : Type 0 where
  pub known : v.known ≤ count
  pub seen : v.seen ≤ ticket
  pub hand : (h : Hand) → v.hand ≡ Some h → IsHandSound P word ticket list h
  pub idle : v.idle ≡ true → has_open P list v.hand ≡ false
  pub alone : has_open P list v.hand ≡ true → length v.numbers ≡ 1
  pub spent : v.numbers ≡ [] → (v.hand ≡ None) × (v.claims ≡ 0) × (v.published ≡ 0)

-- no two hands have one ticket
abbrev pub AreApart : List Seat → Type 0
AreApart seats = (i j : ℕ) (v w : Seat) (h k : Hand) → get_elem? seats i ≡ some v → get_elem? seats j ≡ some w → v.hand ≡ Some h → w.hand ≡ Some k → h.ticket ≡ k.ticket → i ≡ j

-- ticket k is in an open hand
pub record IsHeld (P : Problem) (entries : List Entry) (seats : List Seat) (k : ℕ) : Type 0 where
  pub place : ℕ
  pub seat : Seat
  pub hand : Hand
  pub there : get_elem? seats place ≡ some seat
  pub has : seat.hand ≡ Some hand
  pub is : hand.ticket ≡ k
  pub opened : is_open P (take seat.known entries) hand ≡ true

-- each ticket that was claimed is settled by the entries, or in an open hand
abbrev pub AreDone : Problem → List Entry → ℕ → List Seat → Type 0
AreDone P entries ticket seats = (k : ℕ) → k < ticket → IsSettled P entries (item_for P k) ⊎ IsHeld P entries seats k

-- some seat knows the whole list, and isn't idle or there is no ticket left
abbrev pub IsWholeKnown : Problem → ℕ → List Entry → List Seat → Type 0
IsWholeKnown P ticket entries seats =
    (i : ℕ) × (v : Seat) × (get_elem? seats i ≡ some v) × (v.numbers ≢ []) × (v.known ≡ length entries) × ((v.idle ≡ false) ⊎ (ticket ≡ tickets P (length entries)))

-- what every state keeps
pub record IsSound (s : State) : Type 0 where
  pub problem : IsAdmissible s.problem
  -- each number below that of the workers belongs to one seat, and no other number to any
  pub numbers : (x : ℕ) → sum_by (λ v. times x v.numbers) s.seats ≡ (if nat_lt x s.workers then 1 else 0)
  pub sizes : sum_by (λ v. length v.numbers) s.seats ≡ s.workers
  pub legal : Legal s.problem s.entries
  pub covers : corner s.problem s.entries ≤ s.corner
  pub within : s.corner ≤ count_of s.problem
  pub tickets : s.ticket ≤ tickets s.problem (length s.entries)
  pub seats : (i : ℕ) (v : Seat) → get_elem? s.seats i ≡ some v → IsSeatSound s.problem s.corner s.ticket (length s.entries) (take v.known s.entries) v
  pub apart : AreApart s.seats
  pub done : AreDone s.problem s.entries s.ticket s.seats
  pub whole : IsWholeKnown s.problem s.ticket s.entries s.seats
  pub claims : sum_by (λ v. v.claims) s.seats ≡ s.ticket
  pub published : sum_by (λ v. v.published) s.seats ≡ sum_by steps_of s.entries
