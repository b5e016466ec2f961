-- Lists that aren't legal: one clause fails in each.
-- A corner that is computed contradicts its bound, a run has another end, and terms differ.
use Rattle.std.proofs.Common.{◌≡◌, ◌≤◌, [], ◌∷◌, take, get_or, Some, refl, sym, ◌∙◌, ap, arith, lit<}
use Rattle.entry_code.specs.declared.item.Item.TheVariants.{Generator}
use Rattle.entry_code.specs.Entry.{entry_at}
use Rattle.mora_law.specs.declared.step_end.StepEnd.TheVariants.{Reduced, Stuck}
use Rattle.mora_law.specs.Start.{run}
use Rattle.mora_law.specs.Legal.{Legal}
use Rattle.mora_law.specs.Examples.{term, kept_problem, racing_problem, curve_problem, cubes_problem, rising_problem, later_pair, unknown_entry, other_multiple, low_corner, high_corner, short_run, long_run, forgotten_entry, rising_corner}
use Rattle.mora_law.proofs.Computes.{computes}

-- entry 2 isn't before entry 1
pub later_pair_refused : Legal curve_problem later_pair → ⊥
later_pair_refused legal = omega (arith, (legal 1 (lit< tt)).item.1)

-- the number known at the end isn't 1
pub unknown_entry_refused : Legal cubes_problem unknown_entry → ⊥
unknown_entry_refused legal = omega (arith, (legal 1 (lit< tt)).knows)

-- the terms are those of y^3
pub other_multiple_refused : Legal cubes_problem other_multiple → ⊥
unfolding computes
other_multiple_refused legal =
    let same : term 9 2 ∷ [] ≡ term 9 1 ∷ [] = (legal 1 (lit< tt)).terms in
    let coefs : 2 ≡ 1 = ap (λ ts. (get_or ts 0 (term 0 0)).coef) same in omega (arith, coefs)

-- the corner of no entries is 15
pub low_corner_refused : Legal racing_problem low_corner → ⊥
unfolding computes
low_corner_refused legal = let low : 15 ≤ 5 = (legal 0 (lit< tt)).corners.0 in omega (arith, low)

-- the number known falls
pub forgotten_entry_refused : Legal kept_problem forgotten_entry → ⊥
forgotten_entry_refused legal = omega (arith, (legal 1 (lit< tt)).orderly.2.0)

-- the corner of the squares is 5
pub high_corner_refused : Legal racing_problem high_corner → ⊥
unfolding computes
high_corner_refused legal = let high : 9 ≤ 5 = (legal 2 (lit< tt)).corners.1 in omega (arith, high)

-- its last run ends with a reduction
last_is_reduced : (run racing_problem short_run (Generator 2) (entry_at short_run 2).reads).end ≡ Some Reduced
unfolding computes
last_is_reduced = refl

-- and so not with `Stuck`
pub short_run_refused : Legal racing_problem short_run → ⊥
short_run_refused legal = cc (sym last_is_reduced ∙ (legal 2 (lit< tt)).ends.last_end)

-- a reading before the last ends its run
stuck_before : (run racing_problem long_run (Generator 2) (take 2 (entry_at long_run 2).reads)).end ≡ Some Stuck
unfolding computes
stuck_before = refl

-- and not with `Reduced`
pub long_run_refused : Legal racing_problem long_run → ⊥
long_run_refused legal = cc (sym stuck_before ∙ (legal 2 (lit< tt)).ends.before 2 (lit< tt) (lit< tt))

-- the corner rises
pub rising_corner_refused : Legal rising_problem rising_corner → ⊥
rising_corner_refused legal = omega (arith, (legal 2 (lit< tt)).orderly.2.1)
