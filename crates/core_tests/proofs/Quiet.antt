-- Where no seat that has a name has an open hand, and every ticket is claimed, every ticket is settled.
-- A claimed ticket is settled or in an open hand, and the seat of an open hand has a name below the number of workers.
use Rattle.std.proofs.Common.{◌≡◌, ℕ, ◌+◌, ◌<◌, true, length, None, refl, ap, ◌∙◌, subst, inl, ⊎_elim, arith}
use Rattle.std.specs.Prelude.{sum_by, if◌then◌else◌}
use Rattle.std.proofs.lemmas.Bool.{le-ltb, cases_lt}
use mathlib.Core.Logic.{dite}
use mathlib.Core.Option.{some}
use lib.ListN.{get_elem?}
use native.Mathlib.Decide.{dec_lt}
use Rattle.mora_law.specs.Tickets.{ticket_of, total}
use Rattle.mora_law.specs.Settled.{IsSettled, AllSettled}
use Rattle.mora_law.proofs.Items.{item_back}
use Rattle.run_core.specs.declared.event.Event.TheVariants.{Corner}
use Rattle.run_core.specs.Hand.{has_open}
use Rattle.run_core.specs.State.{Seat, State, known_by, is_busy, times, lowest}
use Rattle.run_core.specs.Effects.{after_corner}
use Rattle.run_core.specs.Sound.{IsSound, IsHeld}
use Rattle.run_core.specs.Schedule.{next}
use Rattle.run_core.proofs.Numbers.{has_lowest}
use Rattle.run_core.proofs.Places.{sum_one}
use Rattle.run_core.proofs.Seats.{some_number}
use Rattle.run_core.proofs.Taken.{takes}

-- the seats with the first names have no open hand
abbrev pub AreShut : State → ℕ → Type 0
AreShut s k = (y : ℕ) → y < k → next y Corner s ≡ None

-- one name more
pub shut_more : (s : State) (k : ℕ) → AreShut s k → next k Corner s ≡ None → AreShut s (k + 1)
shut_more s k shut none y l = ⊎_elim (λ less. shut y less) (λ more. let e : y ≡ k = omega (arith, l, more) in ap (λ n. next n Corner s) e ∙ none) (cases_lt y k)

module _ (s : State) (ok : IsSound s) (shut : AreShut s s.workers) where
  -- the name of a seat is below the number of workers
  is_below : (i : ℕ) (v : Seat) → get_elem? s.seats i ≡ some v → 0 < length v.numbers → lowest v.numbers < s.workers
  is_below i v at full =
      let x : ℕ = lowest v.numbers in
      dite (dec_lt x s.workers) (λ l. l)
      (λ more. let none : sum_by (λ (y : Seat). times x y.numbers) s.seats ≡ 0 = ok.numbers x ∙ ap (λ b. if b then 1 else 0) (le-ltb x s.workers (omega arith)) in
      absurd (omega (arith, none, sum_one (λ (y : Seat). times x y.numbers) s.seats i v at, has_lowest v.numbers full)))

  -- no ticket is in an open hand
  none_held : (k : ℕ) → IsHeld s.problem s.entries s.seats k → ⊥
  none_held k held =
      let v = held.seat in
      let busy : is_busy s v ≡ true = ap (has_open s.problem (known_by s v)) held.has ∙ held.opened in
      let full : 0 < length v.numbers = omega (arith, (ok.seats held.place v held.there).alone busy) in
      let made = takes s ok (after_corner s held.place v) held.place v Corner held.there (some_number v.numbers full) (v, held.there, busy, refl) in
      let not = shut (lowest v.numbers) (is_below held.place v held.there full) in
      absurd (cc (made, not))

  -- so every ticket is settled
  pub all_settled : s.ticket ≡ total (length s.problem.gens) (length s.entries) → AllSettled s.problem s.entries
  all_settled all item h l =
      let k : ℕ = ticket_of (length s.problem.gens) item in
      inl
      (subst (IsSettled s.problem s.entries) (item_back (length s.problem.gens) item h)
      (⊎_elim (λ x. x) (λ held. absurd (none_held k held)) (ok.done k (omega (arith, l, all)))))
