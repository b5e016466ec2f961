-- Claim keeps states sound.
-- The ticket word rises by one: its ticket is in the new hand, or settled where that hand is not open.
use Rattle.std.proofs.Common.{◌≡◌, ◌≢◌, ◌⊎◌, ℕ, suc, ◌<◌, Bool, true, false, true≢false, [], length, take, set, Some, refl, sym, ap, ◌∙◌, subst, inl, inr, ⊎_elim, arith, eq-eqb, ne_eqb, lt_of_lt_of_le}
use Rattle.std.specs.Prelude.{if◌then◌else◌}
use Rattle.std.proofs.lemmas.Bool.{cases_lt}
use Rattle.std.proofs.lemmas.List.{length-take-le}
use mathlib.Core.Logic.{dite}
use native.Mathlib.Decide.{ℕ_discrete}
use Rattle.mora_law.specs.Settled.{IsSettled}
use Rattle.mora_law.proofs.Prefixes.{prefix_take}
use Rattle.run_core.specs.declared.event.Event.TheVariants.{Claim}
use Rattle.mora_law.specs.Items.{item_for, tickets}
use Rattle.run_core.specs.Hand.{Hand, hand_of, is_open}
use Rattle.run_core.specs.State.{Seat, State, IsAt, known_by, times}
use Rattle.run_core.specs.Effects.{won, later}
use Rattle.run_core.specs.Makes.{CanClaim, Makes}
use Rattle.run_core.specs.Sound.{IsHandSound, IsSeatSound, IsSound, IsHeld, IsWholeKnown, AreDone}
use Rattle.run_core.proofs.Places.{set_here, set_else, sum_set}
use Rattle.mora_law.proofs.Items.{tickets_up}
use Rattle.run_core.proofs.Hands.{hand_fresh, closed_settled}
use Rattle.run_core.proofs.Seats.{each_set, sum_kept, is_seat, apart_set, apart_same, whole_same, seat_later, held_set, not_open, some_number}

module _ (s : State) (i : ℕ) (v : Seat) (ok : IsSound s) (at : IsAt s i v) (can : CanClaim s v) where
  -- the ticket is one of the list's
  below_all : v.seen < tickets s.problem (length s.entries)
  below_all = lt_of_lt_of_le can.2 (tickets_up s.problem v.known (length s.entries) (ok.seats i v at).known)

  -- the seat has a number
  numbered : v.numbers ≢ []
  numbered = some_number v.numbers (omega (arith, can.1))

  -- the new hand
  hand_won : (k : Hand) → Some (hand_of v.seen) ≡ Some k → v.seen ≡ s.ticket → IsHandSound s.problem s.corner (suc s.ticket) (known_by s v) k
  hand_won k e hit =
      let same : hand_of v.seen ≡ k = cc in
      let n : length (known_by s v) ≡ v.known = length-take-le v.known s.entries (ok.seats i v at).known in
      subst (IsHandSound s.problem s.corner (suc s.ticket) (known_by s v)) same
      (hand_fresh s.problem s.corner (suc s.ticket) (known_by s v) v.seen (omega arith) (subst (λ x. v.seen < tickets s.problem x) (sym n) can.2))

  -- its ticket is settled, or in the hand
  done_won : s.ticket ≡ v.seen → AreDone s.problem s.entries (suc s.ticket) (set s.seats i (won v))
  done_won hit k l = ⊎_elim
      (λ x. ⊎_elim inl (held_set s.problem s.entries s.entries s.seats i v (won v) k at (λ _ _ _ _. refl) (λ h e _ opened. absurd (not_open s.problem (known_by s v) v.hand h can.0 e opened))) (ok.done k x))
      (λ x. new (is_open s.problem (known_by s v) (hand_of v.seen)) refl (omega arith))
      (cases_lt k s.ticket)
    where
      new : (b : Bool) → is_open s.problem (known_by s v) (hand_of v.seen) ≡ b → v.seen ≡ k → IsSettled s.problem s.entries (item_for s.problem k) ⊎ IsHeld s.problem s.entries (set s.seats i (won v)) k
      new true e is = inr record { place = i; seat = won v; hand = hand_of v.seen; there = set_here s.seats i v (won v) at; has = refl; is = is; opened = e }
      new false e is = inl (subst (λ n. IsSettled s.problem s.entries (item_for s.problem n)) is
          (closed_settled s.problem s.corner (suc s.ticket) (known_by s v) s.entries (hand_of v.seen) ok.problem (prefix_take v.known s.entries (ok.seats i v at).known) ok.covers (hand_won (hand_of v.seen) refl (sym hit)) refl e))

  -- some seat still knows the whole list, and isn't idle
  whole_won : s.ticket ≡ v.seen → IsWholeKnown s.problem (suc s.ticket) s.entries (set s.seats i (won v))
  whole_won hit = let w = ok.whole in dite (ℕ_discrete w.0 i)
      (λ same. let is : w.1 ≡ v = is_seat s.seats i w.0 w.1 v w.2 at same in (i, won v, set_here s.seats i v (won v) at, numbered, ap (λ (z : Seat). z.known) (sym is) ∙ w.4, inl refl))
      (λ apart. (w.0, w.1, set_else s.seats i w.0 (won v) apart ∙ w.2, w.3, w.4, inl (⊎_elim (λ busy. busy) (λ all. absurd (more all)) w.5)))
    where
      more : s.ticket ≡ tickets s.problem (length s.entries) → ⊥
      more all = omega (arith, all, below_all, hit)

  -- the ticket word was what the seat had seen
  keeps_won : s.ticket ≡ v.seen → IsSound (record s { ticket = suc s.ticket; seats = set s.seats i (won v) })
  keeps_won hit =
      let mine = ok.seats i v at in
      record {
        problem = ok.problem;
        numbers = λ x. sum_kept (λ u. times x u.numbers) s.seats i v (won v) at refl ∙ ok.numbers x;
        sizes = sum_kept (λ u. length u.numbers) s.seats i v (won v) at refl ∙ ok.sizes;
        legal = ok.legal;
        covers = ok.covers;
        within = ok.within;
        tickets = omega (arith, below_all, hit);
        seats = each_set (λ _ u. IsSeatSound s.problem s.corner (suc s.ticket) (length s.entries) (take u.known s.entries) u) s.seats i (won v)
            (λ j u ne e. seat_later s.problem s.corner s.corner s.ticket (suc s.ticket) (length s.entries) (length s.entries) (take u.known s.entries) u (omega arith) (omega arith) (omega arith) (ok.seats j u e))
            record {
              known = mine.known;
              seen = omega (arith, hit);
              hand = λ k e. hand_won k e (sym hit);
              idle = λ e. absurd (true≢false (sym e));
              alone = λ _. can.1;
              spent = λ e. absurd (numbered e);
            };
        apart = apart_set s.seats i (won v) ok.apart (λ j u h k ne e eh ek same. let below = ((ok.seats j u e).hand h eh).below in let is : hand_of v.seen ≡ k = cc in let t : v.seen ≡ k.ticket = ap (λ (z : Hand). z.ticket) is in omega (arith, below, t, hit, same));
        done = done_won hit;
        whole = whole_won hit;
        claims = omega (arith, sum_set (λ u. u.claims) s.seats i v (won v) at, ok.claims);
        published = sum_kept (λ u. u.published) s.seats i v (won v) at refl ∙ ok.published;
      }

  -- another word was found
  keeps_later : IsSound (record s { seats = set s.seats i (later s.ticket v) })
  keeps_later =
      let mine = ok.seats i v at in
      let w : Seat = later s.ticket v in
      record {
        problem = ok.problem;
        numbers = λ x. sum_kept (λ u. times x u.numbers) s.seats i v w at refl ∙ ok.numbers x;
        sizes = sum_kept (λ u. length u.numbers) s.seats i v w at refl ∙ ok.sizes;
        legal = ok.legal;
        covers = ok.covers;
        within = ok.within;
        tickets = ok.tickets;
        seats = each_set (λ _ u. IsSeatSound s.problem s.corner s.ticket (length s.entries) (take u.known s.entries) u) s.seats i w
            (λ j u ne e. ok.seats j u e)
            record { known = mine.known; seen = omega arith; hand = mine.hand; idle = mine.idle; alone = mine.alone; spent = mine.spent };
        apart = apart_same s.seats i v w at ok.apart (λ k e. (k, e, refl));
        done = λ k l. ⊎_elim inl (held_set s.problem s.entries s.entries s.seats i v w k at (λ _ _ _ _. refl) (λ h e is opened. inr (h, e, is, opened))) (ok.done k l);
        whole = whole_same s.problem s.ticket s.entries s.seats i v w at refl refl refl ok.whole;
        claims = sum_kept (λ u. u.claims) s.seats i v w at refl ∙ ok.claims;
        published = sum_kept (λ u. u.published) s.seats i v w at refl ∙ ok.published;
      }

-- Claim
pub keeps_claim : (s t : State) (i : ℕ) → IsSound s → Makes Claim s i t → IsSound t
keeps_claim s t i ok m = subst IsSound (sym m.3) (dite (ℕ_discrete s.ticket m.0.seen)
    (λ hit. subst (λ b. IsSound (if b then record s { ticket = suc s.ticket; seats = set s.seats i (won m.0) } else record s { seats = set s.seats i (later s.ticket m.0) })) (sym (eq-eqb s.ticket m.0.seen hit)) (keeps_won s i m.0 ok m.1 m.2 hit))
    (λ miss. subst (λ b. IsSound (if b then record s { ticket = suc s.ticket; seats = set s.seats i (won m.0) } else record s { seats = set s.seats i (later s.ticket m.0) })) (sym (ne_eqb s.ticket m.0.seen miss)) (keeps_later s i m.0 ok m.1 m.2)))
