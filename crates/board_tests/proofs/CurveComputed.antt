-- The second example: what the definitions give for each hand.
-- Each fact is an equation between values, and holds by computing both sides.
use Rattle.std.proofs.Common.{◌≡◌, true, false, [], ◌∷◌, Some, None, refl}
use Rattle.mora_law.specs.declared.step_end.StepEnd.TheVariants.{Stuck}
use Rattle.mora_law.specs.Entries.{corner}
use Rattle.mora_law.specs.Examples.{reading, kept_problem}
use Rattle.mora_law.proofs.Computes.{computes}
use Rattle.run_core.specs.Hand.{hand_of, end_of, is_open, has_open, more_reads, read, draft_terms, draft, hand_end, marked}
use Rattle.board_tests.specs.Rows.{curve_entry, curve_hand}

-- the hand of ticket 0 is open
pub opened : has_open kept_problem [] (Some (hand_of 0)) ≡ true
unfolding computes end_of is_open
opened = refl

-- no entries have the corner 15
pub no_corner : corner kept_problem [] ≡ 15
unfolding computes
no_corner = refl

-- its reading
pub curve_read : read kept_problem [] (reading 0 15) (Some (hand_of 0)) ≡ Some curve_hand
unfolding computes end_of more_reads
curve_read = refl

-- its run is stuck
pub curve_stuck : hand_end kept_problem [] (Some curve_hand) ≡ Some Stuck
unfolding computes end_of
curve_stuck = refl

-- and makes the first generator as it stands
pub curve_draft : draft kept_problem [] (Some curve_hand) ≡ curve_entry
unfolding computes draft_terms
curve_draft = refl

-- once it is published the hand isn't open
pub curve_done : has_open kept_problem (curve_entry ∷ []) (marked (Some curve_hand)) ≡ false
unfolding is_open
curve_done = refl

-- over the entry the hand of ticket 1 is open
pub line_opened : has_open kept_problem (curve_entry ∷ []) (Some (hand_of 1)) ≡ true
unfolding computes end_of is_open
line_opened = refl

-- and the corner is still 15
pub curve_corner : corner kept_problem (curve_entry ∷ []) ≡ 15
unfolding computes
curve_corner = refl
