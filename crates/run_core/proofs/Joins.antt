-- Join keeps states sound.
-- The two seats put their numbers and counts together and have no open hand; the new seat knows what the one that knew more did.
use Rattle.std.proofs.Common.{◌≡◌, ◌≢◌, ◌⊎◌, ℕ, ◌+◌, Bool, true, false, true≢false, List, [], ◌∷◌, ◌++◌, length, take, set, refl, sym, ap, ◌∙◌, subst, inl, inr, ⊎_elim, arith, length-append}
use Rattle.std.specs.Prelude.{sum_by, max, ◌&&◌}
use mathlib.Core.Logic.{dite}
use mathlib.Core.Option.{some}
use native.Mathlib.Decide.{ℕ_discrete}
use lib.ListN.{get_elem?}
use Rattle.run_core.specs.declared.event.Event.TheVariants.{Join}
use Rattle.run_core.specs.State.{Seat, State, IsAt, known_by, times}
use Rattle.run_core.specs.Effects.{joined, nobody, after_join}
use Rattle.run_core.specs.Makes.{CanJoin, Makes}
use Rattle.run_core.specs.Sound.{IsSeatSound, IsSound, AreDone, IsWholeKnown}
use Rattle.run_core.proofs.Places.{set_here, set_else, sum_set}
use Rattle.run_core.proofs.Numbers.{times_append}
use Rattle.run_core.proofs.Seats.{each_set, is_seat, apart_set, held_set, not_open}

-- one of two that is false makes both false
and_false : (a b : Bool) → (a ≡ false) ⊎ (b ≡ false) → (a && b) ≡ false
and_false false b e = refl
and_false true false e = refl
and_false true true e = ⊎_elim (λ x. x) (λ x. x) e

-- a list with another after it is not empty where the first is not
joined_some : (xs ys : List ℕ) → xs ≢ [] → (xs ++ ys) ≢ []
joined_some [] ys full e = full refl
joined_some (x ∷ xs) ys full e = absurd (cc)

module _ (k : ℕ) (s : State) (i : ℕ) (v : Seat) (j : ℕ) (u : Seat) (ok : IsSound s) (at : IsAt s i v) (there : IsAt s j u) (ne : i ≢ j) (can : CanJoin s k v u) where
  -- the other seat is still there once the first one has its numbers
  away : get_elem? (set s.seats i (joined v u)) j ≡ some u
  away = set_else s.seats i j (joined v u) (λ e. ne (sym e)) ∙ there

  -- the joined seat is there once the other place is left
  stays : get_elem? (set (set s.seats i (joined v u)) j nobody) i ≡ some (joined v u)
  stays = set_else (set s.seats i (joined v u)) j i nobody ne ∙ set_here s.seats i v (joined v u) at

  -- the joined seat has a number
  numbered : v.numbers ++ u.numbers ≢ []
  numbered = joined_some v.numbers u.numbers can.2

  -- what the two counted, the one counts
  sum_joined : (f : Seat → ℕ) → f (joined v u) ≡ f v + f u → f nobody ≡ 0 → sum_by f (set (set s.seats i (joined v u)) j nobody) ≡ sum_by f s.seats
  sum_joined f e z = omega (arith, sum_set f s.seats i v (joined v u) at, sum_set f (set s.seats i (joined v u)) j u nobody away, e, z)

  -- the joined seat is sound
  joined_sound : IsSeatSound s.problem s.corner s.ticket (length s.entries) (take (max v.known u.known) s.entries) (joined v u)
  joined_sound = record {
    known = omega (arith, (ok.seats i v at).known, (ok.seats j u there).known);
    seen = omega (arith, (ok.seats i v at).seen, (ok.seats j u there).seen);
    hand = λ h e. absurd (cc);
    idle = λ _. refl;
    alone = λ e. absurd (true≢false (sym e));
    spent = λ e. absurd (numbered e);
  }

  -- so is what is left of the other
  nobody_sound : IsSeatSound s.problem s.corner s.ticket (length s.entries) (take 0 s.entries) nobody
  nobody_sound = record {
    known = omega arith;
    seen = omega arith;
    hand = λ h e. absurd (cc);
    idle = λ _. refl;
    alone = λ e. absurd (true≢false (sym e));
    spent = λ _. (refl, refl, refl);
  }

  -- no open hand was at the two
  done_joined : AreDone s.problem s.entries s.ticket (set (set s.seats i (joined v u)) j nobody)
  done_joined n l = ⊎_elim inl
      (λ held. ⊎_elim inl
      (held_set s.problem s.entries s.entries (set s.seats i (joined v u)) j u nobody n away (λ _ _ _ _. refl) (λ h e _ opened. absurd (not_open s.problem (known_by s u) u.hand h can.1 e opened)))
      (held_set s.problem s.entries s.entries s.seats i v (joined v u) n at (λ _ _ _ _. refl) (λ h e _ opened. absurd (not_open s.problem (known_by s v) v.hand h can.0 e opened)) held))
      (ok.done n l)

  -- the seat that knows the whole list is the joined one where it was one of the two
  whole_joined : IsWholeKnown s.problem s.ticket s.entries (set (set s.seats i (joined v u)) j nobody)
  whole_joined = let w = ok.whole in let most = (ok.seats i v at).known in let most' = (ok.seats j u there).known in dite (ℕ_discrete w.0 i)
      (λ same. let is = is_seat s.seats i w.0 w.1 v w.2 at same in
      (i, joined v u, stays, numbered, full (inl (ap (λ (z : Seat). z.known) (sym is) ∙ w.4)), ⊎_elim (λ busy. inl (and_false v.idle u.idle (inl (ap (λ (z : Seat). z.idle) (sym is) ∙ busy)))) (λ all. inr all) w.5))
      (λ other. dite (ℕ_discrete w.0 j)
      (λ same. let is = is_seat s.seats j w.0 w.1 u w.2 there same in
      (i, joined v u, stays, numbered, full (inr (ap (λ (z : Seat). z.known) (sym is) ∙ w.4)), ⊎_elim (λ busy. inl (and_false v.idle u.idle (inr (ap (λ (z : Seat). z.idle) (sym is) ∙ busy)))) (λ all. inr all) w.5))
      (λ other'. (w.0, w.1, set_else (set s.seats i (joined v u)) j w.0 nobody other' ∙ set_else s.seats i w.0 (joined v u) other ∙ w.2, w.3, w.4, w.5)))
    where
      full : (v.known ≡ length s.entries) ⊎ (u.known ≡ length s.entries) → max v.known u.known ≡ length s.entries
      full (inl e) = omega (arith, (ok.seats i v at).known, (ok.seats j u there).known)
      full (inr e) = omega (arith, (ok.seats i v at).known, (ok.seats j u there).known)

  -- the state with the joined seat
  keeps_one : IsSound (after_join s i v j u)
  keeps_one = record {
    problem = ok.problem;
    numbers = λ x. sum_joined (λ y. times x y.numbers) (times_append x v.numbers u.numbers) refl ∙ ok.numbers x;
    sizes = sum_joined (λ y. length y.numbers) (length-append v.numbers u.numbers) refl ∙ ok.sizes;
    legal = ok.legal;
    covers = ok.covers;
    within = ok.within;
    tickets = ok.tickets;
    seats = each_set (λ _ y. IsSeatSound s.problem s.corner s.ticket (length s.entries) (take y.known s.entries) y) (set s.seats i (joined v u)) j nobody
        (λ a y _ e. each_set (λ _ z. IsSeatSound s.problem s.corner s.ticket (length s.entries) (take z.known s.entries) z) s.seats i (joined v u) (λ b z _ e'. ok.seats b z e') joined_sound a y e)
        nobody_sound;
    apart = apart_set (set s.seats i (joined v u)) j nobody (apart_set s.seats i (joined v u) ok.apart (λ _ _ _ _ _ _ _ e. absurd (cc))) (λ _ _ _ _ _ _ _ e. absurd (cc));
    done = done_joined;
    whole = whole_joined;
    claims = sum_joined (λ y. y.claims) refl refl ∙ ok.claims;
    published = sum_joined (λ y. y.published) refl refl ∙ ok.published;
  }

-- Join
pub keeps_join : (k : ℕ) (s t : State) (i : ℕ) → IsSound s → Makes (Join k) s i t → IsSound t
keeps_join k s t i ok m = subst IsSound (sym m.7) (keeps_one k s i m.0 m.1 m.2 ok m.3 m.4 m.5 m.6)
