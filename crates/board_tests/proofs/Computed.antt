-- The first example: what the definitions give for each hand.
-- Each fact is an equation between values, and holds by computing both sides.
use Rattle.std.proofs.Common.{◌≡◌, ℕ, zero, suc, ◌≤◌, true, List, [], ◌∷◌, Option, Some, refl, arith}
use Rattle.entry_code.specs.Entry.{Entry}
use Rattle.mora_law.specs.declared.step_end.StepEnd.TheVariants.{Stuck}
use Rattle.mora_law.specs.Entries.{corner}
use Rattle.mora_law.specs.Examples.{reading}
use Rattle.mora_law.proofs.Computes.{computes}
use Rattle.run_core.specs.Hand.{Hand, hand_of, end_of, is_open, has_open, more_reads, read, draft_terms, draft, hand_end}
use Rattle.board_tests.specs.Rows.{cubes, once_read, made_cube}

-- the hand of ticket 0 is open
pub first_opened : has_open cubes [] (Some (hand_of 0)) ≡ true
unfolding computes end_of is_open
first_opened = refl

-- so is that of ticket 1
pub second_opened : has_open cubes [] (Some (hand_of 1)) ≡ true
unfolding computes end_of is_open
second_opened = refl

-- so are both
pub opened : (ticket : ℕ) → ticket ≤ 1 → has_open cubes [] (Some (hand_of ticket)) ≡ true
opened zero l = first_opened
opened (suc zero) l = second_opened
opened (suc (suc n)) l = absurd (omega arith)

-- no entries have the corner 21
pub no_corner : corner cubes [] ≡ 21
unfolding computes
no_corner = refl

-- its first reading
pub first_read : read cubes [] (reading 0 21) (Some (hand_of 0)) ≡ Some (once_read 0 0)
unfolding computes end_of more_reads
first_read = refl

-- and that of ticket 1
pub second_read : read cubes [] (reading 0 21) (Some (hand_of 1)) ≡ Some (once_read 1 0)
unfolding computes end_of more_reads
second_read = refl

-- the run of ticket 0 is stuck
pub first_stuck : hand_end cubes [] (Some (once_read 0 0)) ≡ Some Stuck
unfolding computes end_of
first_stuck = refl

-- so is that of ticket 1
pub second_stuck : hand_end cubes [] (Some (once_read 1 0)) ≡ Some Stuck
unfolding computes end_of
second_stuck = refl

-- it makes x^3
pub first_draft : draft cubes [] (Some (once_read 0 0)) ≡ made_cube 0 0
unfolding computes draft_terms
first_draft = refl

-- and that of ticket 1 makes x^2*y
pub second_draft : draft cubes [] (Some (once_read 1 0)) ≡ made_cube 1 0
unfolding computes draft_terms
second_draft = refl

-- so does each
pub reads : (ticket : ℕ) → ticket ≤ 1 → read cubes [] (reading 0 21) (Some (hand_of ticket)) ≡ Some (once_read ticket 0)
reads zero l = first_read
reads (suc zero) l = second_read
reads (suc (suc n)) l = absurd (omega arith)

-- each is stuck
pub stuck : (ticket : ℕ) → ticket ≤ 1 → hand_end cubes [] (Some (once_read ticket 0)) ≡ Some Stuck
stuck zero l = first_stuck
stuck (suc zero) l = second_stuck
stuck (suc (suc n)) l = absurd (omega arith)

-- and makes its entry
pub drafts : (ticket : ℕ) → ticket ≤ 1 → draft cubes [] (Some (once_read ticket 0)) ≡ made_cube ticket 0
drafts zero l = first_draft
drafts (suc zero) l = second_draft
drafts (suc (suc n)) l = absurd (omega arith)

-- over x^3 the hand of ticket 1 is still open
pub still_opened : has_open cubes (made_cube 0 0 ∷ []) (Some (once_read 1 0)) ≡ true
unfolding computes end_of is_open
still_opened = refl

-- the corner of x^3 is 21
pub cube_corner : corner cubes (made_cube 0 0 ∷ []) ≡ 21
unfolding computes
cube_corner = refl

-- its next reading stands in place of the one that was stuck
pub again_read : read cubes (made_cube 0 0 ∷ []) (reading 1 21) (Some (once_read 1 0)) ≡ Some (once_read 1 1)
unfolding computes end_of more_reads
again_read = refl

-- and is stuck too
pub again_stuck : hand_end cubes (made_cube 0 0 ∷ []) (Some (once_read 1 1)) ≡ Some Stuck
unfolding computes end_of
again_stuck = refl

-- it makes x^2*y
pub again_draft : draft cubes (made_cube 0 0 ∷ []) (Some (once_read 1 1)) ≡ made_cube 1 1
unfolding computes draft_terms
again_draft = refl
