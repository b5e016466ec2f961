-- The machine with one worker, which always knows the whole list and the ticket word.
use Rattle.std.specs.Prelude.{ℕ, suc, min, false, List, [], ◌∷◌, ◌++◌, length, sum_by, Bool, Option, Some, None}
use Rattle.sparse_poly.specs.Ideal.{Problem}
use Rattle.entry_code.specs.Entry.{Entry}
use Rattle.mora_law.specs.declared.step_end.StepEnd.{StepEnd}
use Rattle.mora_law.specs.Entries.{corner}
use Rattle.run_core.specs.Hand.{Hand, hand_of, has_open, hand_end, read, draft, marked}
use Rattle.run_core.specs.State.{Seat, State, count_of, steps_of}

-- the problem, the entries, the two words, and the hand
pub record Plain : Type 0 where
  pub problem : Problem
  pub entries : List Entry
  pub corner : ℕ
  pub ticket : ℕ
  pub hand : Option Hand

-- no entries, no corner, no ticket claimed, and no hand
abbrev pub plain_opening : Problem → Plain
plain_opening P = record { problem = P; entries = []; corner = count_of P; ticket = 0; hand = None }

-- whether there is still work at the hand
abbrev pub is_working : Plain → Bool
is_working b = has_open b.problem b.entries b.hand

-- how the run of the hand ends, if it has a reading
abbrev pub plain_end : Plain → Option StepEnd
plain_end b = hand_end b.problem b.entries b.hand

-- the entry that the hand's run makes
abbrev pub plain_draft : Plain → Entry
plain_draft b = draft b.problem b.entries b.hand

-- the next ticket is in the hand
abbrev pub plain_claimed : Plain → Plain
plain_claimed b = record b { ticket = suc b.ticket; hand = Some (hand_of b.ticket) }

-- the lesser of the corner and that of the entries
abbrev pub plain_corner : Plain → ℕ
plain_corner b = min b.corner (corner b.problem b.entries)

-- the corner is that one, and the hand has one more reading
abbrev pub plain_cornered : Plain → Plain
plain_cornered b = record b {
  corner = plain_corner b;
  hand = read b.problem b.entries (record { known = length b.entries; corner = plain_corner b }) b.hand;
}

-- the entry of the hand is the last one, and the hand has its mark
abbrev pub plain_published : Plain → Plain
plain_published b = record b { entries = b.entries ++ plain_draft b ∷ []; hand = marked b.hand }

-- its one seat
abbrev pub plain_seat : Plain → Seat
plain_seat b =
    record { numbers = 0 ∷ []; known = length b.entries; seen = b.ticket; hand = b.hand; idle = false; claims = b.ticket; published = sum_by steps_of b.entries }

-- the state that it stands for
abbrev pub plain : Plain → State
plain b = record { problem = b.problem; workers = 1; entries = b.entries; corner = b.corner; ticket = b.ticket; seats = plain_seat b ∷ [] }
