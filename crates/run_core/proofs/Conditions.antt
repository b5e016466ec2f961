-- What the conditions of the events leave out follows in a sound state.
-- A hand whose run is stuck at all that its seat knows is open; a seat without numbers has no hand, so no condition holds of it.
use Rattle.std.proofs.Common.{◌≡◌, ℕ, true, [], length, Option, Some, None, refl, sym, ap, ◌∙◌, arith}
use Rattle.std.proofs.lemmas.List.{length-take-le}
use Rattle.mora_law.specs.declared.step_end.StepEnd.TheVariants.{Stuck}
use Rattle.mora_law.specs.Run.{last_known}
use Rattle.run_core.specs.declared.event.Event.{Event}
use Rattle.run_core.specs.declared.event.Event.TheVariants.{Claim, Corner, Look, Publish, Split, Join}
use Rattle.run_core.specs.Hand.{Hand, has_open, hand_end, reads_of}
use Rattle.run_core.specs.State.{Seat, State, IsAt, known_by, is_busy}
use Rattle.run_core.specs.Makes.{CanPublish, Makes}
use Rattle.run_core.specs.Sound.{IsSound}
use Rattle.run_core.proofs.Hands.{stuck_opened}
use Rattle.run_core.proofs.Seats.{is_seat}

module _ (s : State) (i : ℕ) (v : Seat) (ok : IsSound s) (at : IsAt s i v) where
  -- a seat that knows the whole list, and whose run is stuck there, may publish
  pub may_publish : v.known ≡ length s.entries → hand_end s.problem (known_by s v) v.hand ≡ Some Stuck → last_known 0 (reads_of v.hand) ≡ v.known → CanPublish s v
  may_publish all stuck knows = (by_hand v.hand refl, all, stuck, knows)
    where
      by_hand : (o : Option Hand) → v.hand ≡ o → is_busy s v ≡ true
      by_hand None e = absurd (cc (ap (hand_end s.problem (known_by s v)) e, stuck))
      by_hand (Some h) e =
          let n : length (known_by s v) ≡ v.known = length-take-le v.known s.entries (ok.seats i v at).known in
          ap (has_open s.problem (known_by s v)) e
          ∙ stuck_opened s.problem s.corner s.ticket (known_by s v) h ((ok.seats i v at).hand h e) (ap (hand_end s.problem (known_by s v)) (sym e) ∙ stuck)
          (ap (λ o. last_known 0 (reads_of o)) (sym e) ∙ knows ∙ sym n)

  -- a seat without numbers has no open hand
  not_busy : (u : Seat) → IsAt s i u → v.numbers ≡ [] → is_busy s u ≡ true → ⊥
  not_busy u there none busy =
      let one = (ok.seats i u there).alone busy in
      let is = ap (λ (z : Seat). length z.numbers) (is_seat s.seats i i u v there at refl) in
      let zero : length v.numbers ≡ 0 = ap length none in
      omega (arith, one, is, zero)

  -- so it makes no event
  pub spent_rests : (t : State) (e : Event) → v.numbers ≡ [] → Makes e s i t → ⊥
  spent_rests t Claim none m =
      let one = m.2.1 in
      let is = ap (λ (z : Seat). length z.numbers) (is_seat s.seats i i m.0 v m.1 at refl) in
      let zero : length v.numbers ≡ 0 = ap length none in
      omega (arith, one, is, zero)
  spent_rests t Corner none m = not_busy m.0 m.1 none m.2
  spent_rests t Look none m = m.2 (ap (λ (z : Seat). z.numbers) (is_seat s.seats i i m.0 v m.1 at refl) ∙ none)
  spent_rests t Publish none m = not_busy m.0 m.1 none m.2.0
  spent_rests t (Split k) none m =
      let two = m.2.1 in
      let is = ap (λ (z : Seat). length z.numbers) (is_seat s.seats i i m.0 v m.1 at refl) in
      let zero : length v.numbers ≡ 0 = ap length none in
      omega (arith, two, is, zero)
  spent_rests t (Join k) none m = m.6.2 (ap (λ (z : Seat). z.numbers) (is_seat s.seats i i m.0 v m.3 at refl) ∙ none)
