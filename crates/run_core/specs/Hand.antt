-- Hands: a ticket that a seat works at.
use Rattle.std.specs.Prelude.{ℕ, ◌-◌, ◌&&◌, Bool, true, false, not, is_some, List, [], ◌∷◌, ◌++◌, length, take, Option, Some, None}
use Rattle.sparse_poly.specs.Ideal.{Problem}
use Rattle.entry_code.specs.declared.item.Item.{Item}
use Rattle.entry_code.specs.declared.item.Item.TheVariants.{Generator, Pair}
use Rattle.entry_code.specs.declared.reading.Reading.{Reading}
use Rattle.entry_code.specs.declared.term.Term.{Term}
use Rattle.entry_code.specs.Entry.{Entry, no_entry}
use Rattle.mora_law.specs.Ring.{ranks_of_problem}
use Rattle.mora_law.specs.declared.step_end.StepEnd.{StepEnd}
use Rattle.mora_law.specs.declared.step_end.StepEnd.TheVariants.{Zero, Reduced, Stuck}
use Rattle.mora_law.specs.Entries.{terms_of, monic, leads}
use Rattle.mora_law.specs.Start.{run}
use Rattle.mora_law.specs.Skip.{skip}
use Rattle.mora_law.specs.Items.{item_for}

-- a ticket with the readings taken for it, and whether its entry was published
pub record Hand : Type 0 where
  pub ticket : ℕ
  pub reads : List Reading
  pub published : Bool

-- a ticket that was just claimed
abbrev pub hand_of : ℕ → Hand
hand_of k = record { ticket = k; reads = []; published = false }

-- how the run of ticket k by these readings ends, if there is a reading
unfoldable pub end_of : Problem → List Entry → ℕ → List Reading → Option StepEnd
end_of P known k reads = (run P known (item_for P k) reads).end

-- whether the pair of the item is skipped
abbrev pub is_skipped : Problem → List Entry → Item → Bool
is_skipped P known (Generator g) = false
is_skipped P known (Pair i j) = is_some (skip (leads P known) i j)

-- whether a run ends with Zero
abbrev pub is_zero : Option StepEnd → Bool
is_zero None = false
is_zero (Some Zero) = true
is_zero (Some Reduced) = false
is_zero (Some Stuck) = false

-- there is still work at the hand: its pair isn't skipped, its run hasn't ended with Zero, and its entry isn't published
unfoldable pub is_open : Problem → List Entry → Hand → Bool
is_open P known h = not h.published && (not (is_skipped P known (item_for P h.ticket)) && not (is_zero (end_of P known h.ticket h.reads)))

-- there is a hand, and it is open
abbrev pub has_open : Problem → List Entry → Option Hand → Bool
has_open P known None = false
has_open P known (Some h) = is_open P known h

-- the readings, without the last one where that one gave Stuck
abbrev pub but_stuck : Option StepEnd → List Reading → List Reading
but_stuck None reads = reads
but_stuck (Some Zero) reads = reads
but_stuck (Some Reduced) reads = reads
but_stuck (Some Stuck) reads = take (length reads - 1) reads

-- the readings of a hand after one more, which replaces the last one where that one gave Stuck
unfoldable pub more_reads : Problem → List Entry → Hand → Reading → List Reading
more_reads P known h reading = but_stuck (end_of P known h.ticket h.reads) h.reads ++ reading ∷ []

-- the hand after one more reading
abbrev pub read : Problem → List Entry → Reading → Option Hand → Option Hand
read P known reading None = None
read P known reading (Some h) = Some (record h { reads = more_reads P known h reading })

-- the terms of what the hand's run ends with, made monic
unfoldable pub draft_terms : Problem → List Entry → Hand → List Term
draft_terms P known h = terms_of (ranks_of_problem P) (monic (ranks_of_problem P) (run P known (item_for P h.ticket) h.reads).poly)

-- the entry that the hand's run makes
abbrev pub draft_of : Problem → List Entry → Hand → Entry
draft_of P known h = record { item = item_for P h.ticket; reads = h.reads; terms = draft_terms P known h }

-- the same where there is a hand
abbrev pub draft : Problem → List Entry → Option Hand → Entry
draft P known None = no_entry
draft P known (Some h) = draft_of P known h

-- the hand once its entry is published
abbrev pub marked : Option Hand → Option Hand
marked None = None
marked (Some h) = Some (record h { published = true })

-- the readings of a hand
abbrev pub reads_of : Option Hand → List Reading
reads_of None = []
reads_of (Some h) = h.reads

-- how the run of a hand ends
abbrev pub hand_end : Problem → List Entry → Option Hand → Option StepEnd
hand_end P known None = None
hand_end P known (Some h) = end_of P known h.ticket h.reads
