-- A worked example: a schedule of two seats in which one reads a corner that the entries it knows don't justify.
use Rattle.std.specs.Prelude.{ℕ, List, [], ◌∷◌, ◌++◌}
use Rattle.sparse_poly.specs.Ideal.{Problem}
use Rattle.mora_law.specs.Examples.{written, plane, racing_problem}
use Rattle.run_core.specs.declared.event.Event.{Event}
use Rattle.run_core.specs.declared.event.Event.TheVariants.{Claim, Corner, Look, Publish, Split}
use Rattle.run_core.specs.State.{State, opening}
use Rattle.run_core.specs.Schedule.{Action, after}

-- an event of a seat
abbrev pub by : ℕ → Event → Action
by name event = record { name = name; event = event }

-- x^2, y^2, x^2 + x*y + x^3 and once more x^2 modulo degree 5
abbrev pub race_problem : Problem
race_problem = plane 4 (racing_problem.gens ++ (written 1 2 0 ∷ []) ∷ [])

-- the first seat publishes x^2 and y^2, of which the second seat learns the first alone; it then runs the third generator, while the
-- corner word is already that of both
abbrev pub race_schedule : List Action
race_schedule =
    by 0 (Split 1) ∷ by 0 Claim ∷ by 0 Corner ∷ by 0 Publish ∷ by 1 Look ∷ by 0 Claim ∷ by 0 Corner ∷ by 0 Publish ∷ by 1 Claim ∷ by 1 Claim
    ∷ by 0 Claim ∷ by 0 Claim ∷ by 0 Corner ∷ by 0 Corner ∷ by 1 Corner ∷ by 1 Look ∷ by 1 Corner ∷ by 1 Publish ∷ []

-- the state after it
abbrev pub race : State
race = after (opening race_problem 2) race_schedule
