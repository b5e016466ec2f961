-- With one worker each call is an event of the only seat.
-- The only seat knows the whole list and the ticket word, so it meets the conditions of each event.
use Rattle.std.proofs.Common.{◌≡◌, ℕ, zero, suc, ◌+◌, ◌<◌, ◌≤◌, true, false, List, [], ◌∷◌, ◌++◌, length, take, Some, refl, sym, ap, ap₂, ◌∙◌, inr, arith, eq-eqb, length-append}
use Rattle.std.specs.Prelude.{sum_by, min, if◌then◌else◌}
use Rattle.std.proofs.lemmas.List.{take_all}
use Rattle.std.proofs.lemmas.List.Sums.{sum_by-append}
use mathlib.Core.Option.{some-injective, some-ne-none}
use Rattle.sparse_poly.specs.Ideal.{Problem}
use Rattle.entry_code.specs.Entry.{Entry}
use Rattle.mora_law.specs.Ring.{IsAdmissible}
use Rattle.mora_law.specs.declared.step_end.StepEnd.TheVariants.{Stuck}
use Rattle.mora_law.specs.Run.{last_known}
use Rattle.mora_law.specs.Entries.{corner}
use Rattle.mora_law.specs.Tickets.{total}
use Rattle.run_core.specs.declared.event.Event.TheVariants.{Claim, Corner, Look, Publish}
use Rattle.mora_law.specs.Items.{tickets}
use Rattle.run_core.specs.Hand.{has_open, hand_end, reads_of, read, draft, marked}
use Rattle.run_core.specs.State.{Seat, State, steps_of}
use Rattle.run_core.specs.Effects.{won, later, with_seat, rested}
use Rattle.run_core.specs.Makes.{CanPublish, Makes}
use Rattle.run_core.specs.Sound.{IsSound}
use Rattle.run_core.specs.Idle.{AllIdle, SettlesAll}
use Rattle.run_core.specs.Plain.{Plain, plain_opening, is_working, plain_end, plain_draft, plain_claimed, plain_cornered, plain_published, plain_seat, plain}
use Rattle.mora_law.proofs.Items.{tickets_is}
use Rattle.run_core.proofs.Keeps.{keeps_sound}
use Rattle.run_core.proofs.Opening.{opening_is_sound}
use Rattle.run_core.proofs.Idle.{idle_settles}

-- the opening state
pub plain_opens : (P : Problem) → IsAdmissible P → IsSound (plain (plain_opening P))
plain_opens P ok = opening_is_sound P 1 ok (omega arith)

module _ (b : Plain) where
  -- the seat knows the whole list
  all : take (length b.entries) b.entries ≡ b.entries
  all = take_all (length b.entries) b.entries (omega arith)

  -- a claim wins
  pub plain_claims : is_working b ≡ false → b.ticket < tickets b.problem (length b.entries) → Makes Claim (plain b) 0 (plain (plain_claimed b))
  plain_claims shut less = (
    plain_seat b,
    refl,
    (ap (λ l. has_open b.problem l b.hand) all ∙ shut, refl, less),
    sym (ap
        (λ c. if c then record (plain b) { ticket = suc b.ticket; seats = won (plain_seat b) ∷ [] } else record (plain b) { seats = later b.ticket (plain_seat b) ∷ [] })
        (eq-eqb b.ticket b.ticket refl)),
  )

  -- a reading is taken
  pub plain_reads : is_working b ≡ true → Makes Corner (plain b) 0 (plain (plain_cornered b))
  plain_reads opened = (
    plain_seat b,
    refl,
    ap (λ l. has_open b.problem l b.hand) all ∙ opened,
    ap (λ l. plain (record b {
      corner = min b.corner (corner b.problem l);
      hand = read b.problem l (record { known = length b.entries; corner = min b.corner (corner b.problem l) }) b.hand;
    })) (sym all),
  )

  -- the seat may publish the entry of its hand
  pub plain_can_publish : is_working b ≡ true → plain_end b ≡ Some Stuck → last_known 0 (reads_of b.hand) ≡ length b.entries → CanPublish (plain b) (plain_seat b)
  plain_can_publish opened stuck knows = (ap (λ l. has_open b.problem l b.hand) all ∙ opened, refl, ap (λ l. hand_end b.problem l b.hand) all ∙ stuck, knows)

  -- an entry is published
  pub plain_publishes : is_working b ≡ true → plain_end b ≡ Some Stuck → last_known 0 (reads_of b.hand) ≡ length b.entries →
      Makes Publish (plain b) 0 (plain (plain_published b))
  plain_publishes opened stuck knows = (
    plain_seat b,
    refl,
    plain_can_publish opened stuck knows,
    by_count ∙ ap (λ l. made (b.entries ++ draft b.problem l b.hand ∷ []) (suc (length b.entries)) (sum_by steps_of b.entries + steps_of (draft b.problem l b.hand))) (sym all),
  )
    where
      made : List Entry → ℕ → ℕ → State
      made entries known published = record (plain b) {
        entries = entries;
        seats = record (plain_seat b) { known = known; hand = marked b.hand; published = published } ∷ [];
      }

      e : Entry
      e = plain_draft b

      by_count : made (b.entries ++ e ∷ []) (length (b.entries ++ e ∷ [])) (sum_by steps_of (b.entries ++ e ∷ [])) ≡ made (b.entries ++ e ∷ []) (suc (length b.entries)) (sum_by steps_of b.entries + steps_of e)
      by_count = ap₂ (made (b.entries ++ e ∷ [])) (omega (arith, length-append b.entries (e ∷ []))) (omega (arith, sum_by-append steps_of b.entries (e ∷ [])))

  -- once there is no ticket left, the seat may rest, so every ticket is settled
  pub plain_settles : IsSound (plain b) → is_working b ≡ false → tickets b.problem (length b.entries) ≤ b.ticket →
      SettlesAll b.problem b.entries × (b.ticket ≡ total (length b.problem.gens) (length b.entries))
  plain_settles ok shut done = (
    idle_settles (with_seat (plain b) 0 (rested (plain_seat b))) (keeps_sound (plain b) (with_seat (plain b) 0 (rested (plain_seat b))) 0 Look ok rests) idle,
    omega (arith, done, ok.tickets, tickets_is b.problem (length b.entries)),
  )
    where
      rests : Makes Look (plain b) 0 (with_seat (plain b) 0 (rested (plain_seat b)))
      rests = (plain_seat b, refl, (λ e. absurd (cc)), inr ((refl, ap (λ l. has_open b.problem l b.hand) all ∙ shut, done), refl))

      idle : AllIdle (with_seat (plain b) 0 (rested (plain_seat b)))
      idle zero v at full = ap (λ (z : Seat). z.idle) (sym (some-injective (rested (plain_seat b)) v at))
      idle (suc i) v at full = absurd (some-ne-none v (sym at))
