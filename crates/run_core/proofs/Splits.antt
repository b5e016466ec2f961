-- Split keeps states sound.
-- The number given away leaves one list and makes the other; the new seat has no hand.
use Rattle.std.proofs.Common.{◌≡◌, ◌≢◌, ℕ, ◌+◌, ◌<◌, true≢false, List, [], ◌∷◌, ◌++◌, length, take, set, Some, None, refl, sym, ap, ◌∙◌, subst, inl, inr, ⊎_elim, arith}
use Rattle.std.specs.Prelude.{sum_by}
use Rattle.std.proofs.lemmas.List.Sums.{sum_by-append}
use mathlib.Core.Logic.{dite}
use native.Mathlib.Decide.{ℕ_discrete}
use Rattle.run_core.specs.declared.event.Event.TheVariants.{Split}
use Rattle.run_core.specs.Hand.{Hand}
use Rattle.run_core.specs.State.{Seat, State, IsAt, known_by, times, highest, without}
use Rattle.run_core.specs.Effects.{kept, given, after_split}
use Rattle.run_core.specs.Makes.{CanSplit, Makes}
use Rattle.run_core.specs.Sound.{IsSeatSound, IsSound, AreApart, IsHeld, AreDone, IsWholeKnown}
use Rattle.run_core.proofs.Places.{set_here, set_else, at_snoc, at_longer, sum_set}
use Rattle.run_core.proofs.Numbers.{has_highest, times_without, length_without}
use Rattle.run_core.proofs.Seats.{each_set, is_seat, apart_same, held_set, not_open, some_number}

-- a seat with no hand has none
pub no_hand : (u : Seat) (h : Hand) → u.hand ≡ None → u.hand ≡ Some h → ⊥
no_hand u h e f = absurd (cc)

module _ (k : ℕ) (s : State) (i : ℕ) (v : Seat) (ok : IsSound s) (at : IsAt s i v) (can : CanSplit s k v) where
  -- the seat has its greatest number
  has : 0 < times (highest v.numbers) v.numbers
  has = has_highest v.numbers (omega (arith, can.1))

  -- without it the list is shorter by one
  shorter : length (without (highest v.numbers) v.numbers) + 1 ≡ length v.numbers
  shorter = length_without (highest v.numbers) v.numbers has

  -- a number is left
  left : without (highest v.numbers) v.numbers ≢ []
  left = some_number (without (highest v.numbers) v.numbers) (omega (arith, shorter, can.1))

  -- the numbers of the two are those of the one
  numbers_split : (x : ℕ) → sum_by (λ u. times x u.numbers) (set s.seats i (kept v) ++ given v ∷ []) ≡ sum_by (λ u. times x u.numbers) s.seats
  numbers_split x = omega (arith, sum_set (λ u. times x u.numbers) s.seats i v (kept v) at, sum_by-append (λ u. times x u.numbers) (set s.seats i (kept v)) (given v ∷ []), times_without (highest v.numbers) x v.numbers has)

  -- so are their sizes
  sizes_split : sum_by (λ u. length u.numbers) (set s.seats i (kept v) ++ given v ∷ []) ≡ sum_by (λ u. length u.numbers) s.seats
  sizes_split = omega (arith, sum_set (λ u. length u.numbers) s.seats i v (kept v) at, sum_by-append (λ u. length u.numbers) (set s.seats i (kept v)) (given v ∷ []), shorter)

  -- a new seat without counts adds nothing
  same_split : (f : Seat → ℕ) → f (kept v) ≡ f v → f (given v) ≡ 0 → sum_by f (set s.seats i (kept v) ++ given v ∷ []) ≡ sum_by f s.seats
  same_split f e z = omega (arith, sum_set f s.seats i v (kept v) at, sum_by-append f (set s.seats i (kept v)) (given v ∷ []), e, z)

  -- the two seats are sound
  kept_sound : IsSeatSound s.problem s.corner s.ticket (length s.entries) (known_by s v) (kept v)
  kept_sound = let mine = ok.seats i v at in record {
    known = mine.known;
    seen = mine.seen;
    hand = mine.hand;
    idle = mine.idle;
    alone = λ e. absurd (true≢false (sym e ∙ can.0));
    spent = λ e. absurd (left e);
  }

  -- so is the new seat
  given_sound : IsSeatSound s.problem s.corner s.ticket (length s.entries) (known_by s v) (given v)
  given_sound = let mine = ok.seats i v at in record {
    known = mine.known;
    seen = mine.seen;
    hand = λ h e. absurd (cc);
    idle = λ _. refl;
    alone = λ e. absurd (true≢false (sym e));
    spent = λ _. (refl, refl, refl);
  }

  -- the new seat has no hand, so hands stay apart
  apart_split : AreApart (set s.seats i (kept v) ++ given v ∷ [])
  apart_split a b x y h h' ea eb eh eh' same = ⊎_elim
      (λ oa. ⊎_elim
      (λ ob. apart_same s.seats i v (kept v) at ok.apart (λ n e. (n, e, refl)) a b x y h h' oa ob eh eh' same)
      (λ nb. absurd (no_hand y h' (ap (λ (z : Seat). z.hand) (sym nb.1)) eh'))
      (at_snoc (set s.seats i (kept v)) (given v) y b eb))
      (λ na. absurd (no_hand x h (ap (λ (z : Seat). z.hand) (sym na.1)) eh))
      (at_snoc (set s.seats i (kept v)) (given v) x a ea)

  -- tickets in open hands stay there
  done_split : AreDone s.problem s.entries s.ticket (set s.seats i (kept v) ++ given v ∷ [])
  done_split n l = ⊎_elim inl
      (λ held. ⊎_elim inl (λ h. inr (more h)) (held_set s.problem s.entries s.entries s.seats i v (kept v) n at (λ _ _ _ _. refl) (λ h e _ opened. absurd (not_open s.problem (known_by s v) v.hand h can.0 e opened)) held))
      (ok.done n l)
    where
      more : IsHeld s.problem s.entries (set s.seats i (kept v)) n → IsHeld s.problem s.entries (set s.seats i (kept v) ++ given v ∷ []) n
      more h = record { place = h.place; seat = h.seat; hand = h.hand; there = at_longer (set s.seats i (kept v)) (given v ∷ []) h.place h.seat h.there; has = h.has; is = h.is; opened = h.opened }

  -- the seat that knew the whole list still does
  whole_split : IsWholeKnown s.problem s.ticket s.entries (set s.seats i (kept v) ++ given v ∷ [])
  whole_split = let w = ok.whole in let seats : List Seat = set s.seats i (kept v) in dite (ℕ_discrete w.0 i)
      (λ same. let is = is_seat s.seats i w.0 w.1 v w.2 at same in (i, kept v, at_longer seats (given v ∷ []) i (kept v) (set_here s.seats i v (kept v) at), left, ap (λ (z : Seat). z.known) (sym is) ∙ w.4, ⊎_elim (λ busy. inl (ap (λ (z : Seat). z.idle) (sym is) ∙ busy)) (λ all. inr all) w.5))
      (λ apart. (w.0, w.1, at_longer seats (given v ∷ []) w.0 w.1 (set_else s.seats i w.0 (kept v) apart ∙ w.2), w.3, w.4, w.5))

  -- the state with the new seat
  keeps_two : IsSound (after_split s i v)
  keeps_two = record {
    problem = ok.problem;
    numbers = λ x. numbers_split x ∙ ok.numbers x;
    sizes = sizes_split ∙ ok.sizes;
    legal = ok.legal;
    covers = ok.covers;
    within = ok.within;
    tickets = ok.tickets;
    seats = λ j u e. ⊎_elim
        (λ old. each_set (λ _ y. IsSeatSound s.problem s.corner s.ticket (length s.entries) (take y.known s.entries) y) s.seats i (kept v) (λ a y _ e'. ok.seats a y e') kept_sound j u old)
        (λ new. subst (λ (y : Seat). IsSeatSound s.problem s.corner s.ticket (length s.entries) (take y.known s.entries) y) new.1 given_sound)
        (at_snoc (set s.seats i (kept v)) (given v) u j e);
    apart = apart_split;
    done = done_split;
    whole = whole_split;
    claims = same_split (λ u. u.claims) refl refl ∙ ok.claims;
    published = same_split (λ u. u.published) refl refl ∙ ok.published;
  }

-- Split
pub keeps_split : (k : ℕ) (s t : State) (i : ℕ) → IsSound s → Makes (Split k) s i t → IsSound t
keeps_split k s t i ok m = subst IsSound (sym m.3) (keeps_two k s i m.0 ok m.1 m.2)
