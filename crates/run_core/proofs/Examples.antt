-- The worked example: the definitions compute.
-- Each claim is an equation between values, and holds by computing both sides.
use Rattle.std.proofs.Common.{◌≡◌, ℕ, List, None, refl, ap}
use Rattle.prime_field.specs.Inverse.{inverse}
use Rattle.mono_rank.specs.Rank.{rank_of, mono_of_rank}
use Rattle.entry_code.specs.Entry.{Entry}
use Rattle.rank_algebra.specs.Division.{first_lead, corner_of}
use Rattle.mora_law.specs.Ring.{numbering_of, ranks_of_problem}
use Rattle.mora_law.specs.Lead.{lead, ecart}
use Rattle.mora_law.specs.Entries.{terms_of}
use Rattle.mora_law.specs.Examples.{racing_entries}
use Rattle.mora_law.specs.Skip.{skip}
use Rattle.mora_law.specs.Items.{item_of, tickets}
use Rattle.run_core.specs.declared.event.Event.TheVariants.{Claim, Publish}
use Rattle.run_core.specs.Hand.{end_of, is_open, more_reads, draft_terms}
use Rattle.run_core.specs.State.{State}
use Rattle.run_core.specs.Schedule.{after, next}
use Rattle.run_core.specs.Example.{race}

-- what is seen of a state
record Seen : Type 0 where
  entries : List Entry
  corner : ℕ
  ticket : ℕ

-- a state as it is seen
abbrev seen : State → Seen
seen s = record { entries = s.entries; corner = s.corner; ticket = s.ticket }

-- the schedule makes the entries of the racing corner
race_makes : seen race ≡ record { entries = racing_entries; corner = 5; ticket = 4 }
unfolding ranks_of_problem numbering_of rank_of mono_of_rank inverse lead ecart terms_of corner_of first_lead skip item_of tickets end_of is_open more_reads draft_terms after
race_makes = refl

-- its entries
pub race_entries : race.entries ≡ racing_entries
race_entries = ap (λ s. s.entries) race_makes

-- its corner
pub race_corner : race.corner ≡ 5
race_corner = ap (λ s. s.corner) race_makes

-- its ticket word
pub race_ticket : race.ticket ≡ 4
race_ticket = ap (λ s. s.ticket) race_makes

-- then the first seat has nothing to publish
pub nothing_to_publish : next 0 Publish race ≡ None
unfolding ranks_of_problem numbering_of rank_of mono_of_rank inverse lead ecart terms_of corner_of first_lead skip item_of tickets end_of is_open more_reads draft_terms after
nothing_to_publish = refl

-- and no seat has the name 7
pub no_such_seat : next 7 Claim race ≡ None
unfolding ranks_of_problem numbering_of rank_of mono_of_rank inverse lead ecart terms_of corner_of first_lead skip item_of tickets end_of is_open more_reads draft_terms after
no_such_seat = refl
