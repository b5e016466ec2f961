-- What a sound state tells of one seat.
-- There are at most as many legal entries as ranks, and a beginning of a legal list is legal.
use Rattle.std.proofs.Common.{◌≡◌, ℕ, ◌≤◌, length, Option, Some, None, refl, sym, ap, ◌∙◌, subst, arith, le_trans}
use Rattle.mora_law.proofs.Existence.{few_entries}
use Rattle.mora_law.proofs.Growth.{legal_take}
use Rattle.mora_law.proofs.Prefixes.{prefix_take}
use Rattle.mora_law.specs.Ring.{ranks_of_problem, generators_of}
use Rattle.mora_law.proofs.Ring.{ranks_are}
use Rattle.run_core.specs.Hand.{Hand, hand_end}
use Rattle.run_core.specs.State.{Seat, State, IsAt, count_of, known_by}
use Rattle.run_core.specs.Sound.{IsSound}
use Rattle.run_core.specs.Within.{IsWithin}
use Rattle.run_core.proofs.Places.{sum_one}
use Rattle.mora_law.proofs.Items.{tickets_up, tickets_is}
use Rattle.run_core.proofs.Ends.{end_longer}
use Rattle.run_core.proofs.Seats.{has_open_longer}

-- by the facts of the state
pub within : (s : State) (i : ℕ) (v : Seat) → IsSound s → IsAt s i v → IsWithin s v
within s i v ok at =
    let mine = ok.seats i v at in
    let few : length s.entries ≤ count_of s.problem = few_entries (ranks_of_problem s.problem) (ranks_are s.problem ok.problem) (generators_of s.problem) s.entries ok.legal in
    record {
      known = mine.known;
      few = few;
      legal = legal_take s.problem s.entries v.known mine.known ok.legal;
      seen = mine.seen;
      numbers = omega (arith, sum_one (λ (u : Seat). length u.numbers) s.seats i v at, ok.sizes);
      claims = omega (arith, sum_one (λ (u : Seat). u.claims) s.seats i v at, ok.claims);
      ticket = subst (λ n. s.ticket ≤ n) (tickets_is s.problem (length s.entries)) ok.tickets;
      most = subst (λ n. s.ticket ≤ n) (tickets_is s.problem (count_of s.problem)) (le_trans ok.tickets (tickets_up s.problem (length s.entries) (count_of s.problem) few));
      alike = has_open_longer s.problem s.corner s.ticket (known_by s v) s.entries v.hand (prefix_take v.known s.entries mine.known) mine.hand;
    }

-- over the whole list the run of a seat's hand ends as over the entries that the seat knows
pub ends_alike : (s : State) (i : ℕ) (v : Seat) → IsSound s → IsAt s i v → hand_end s.problem s.entries v.hand ≡ hand_end s.problem (known_by s v) v.hand
ends_alike s i v ok at = by_hand v.hand refl
  where
    by_hand : (o : Option Hand) → v.hand ≡ o → hand_end s.problem s.entries v.hand ≡ hand_end s.problem (known_by s v) v.hand
    by_hand None e = ap (hand_end s.problem s.entries) e ∙ sym (ap (hand_end s.problem (known_by s v)) e)
    by_hand (Some h) e =
        let mine = ok.seats i v at in
        let sound = mine.hand h e in
        ap (hand_end s.problem s.entries) e
        ∙ end_longer s.problem (known_by s v) s.entries (prefix_take v.known s.entries mine.known) h.ticket h.reads sound.within sound.orderly
        ∙ sym (ap (hand_end s.problem (known_by s v)) e)
