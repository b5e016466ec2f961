-- The exchange of the ticket number is the event Claim, whether the ticket is won or not.
-- By cases on the word that is found.
use Rattle.std.proofs.Common.{◌≡◌, ℕ, suc, ◌+◌, ◌<◌, ◌≤◌, Bool, false, length, map, take, set, get_or, refl, sym, ap, ◌∙◌, subst, arith, eq-eqb, ne_eqb, get_or-set_other, get_or-set_same}
use Rattle.std.specs.Prelude.{if◌then◌else◌, ◌==◌}
use mathlib.Core.Logic.{dite}
use mathlib.Core.Option.{some, none}
use native.Mathlib.Decide.{ℕ_discrete}
use lib.ListN.{get_elem?}
use prog.Atomic.{either}
use Rattle.atomic_table.specs.Table.{step, keeps, Allows}
use Rattle.atomic_table.proofs.Lists.{at_map}
use Rattle.run_core.specs.State.{Seat, State}
use Rattle.run_core.specs.Sound.{IsSound}
use Rattle.run_core.specs.Hand.{has_open}
use Rattle.run_core.specs.Makes.{CanClaim}
use Rattle.run_core.proofs.Places.{sum_one}
use Rattle.reducer_list.specs.View.{Setting, View, top, is_busy}
use Rattle.reducer_list.specs.Rule.{Words, shown_by, seat_of, Fits, Kept}
use Rattle.reducer_list.specs.Steps.{Me, with_seat}
use Rattle.run_core.specs.declared.event.Event.TheVariants.{Claim}
use Rattle.run_core.specs.Effects.{won, later}
use Rattle.mora_law.specs.Tickets.{total}
use Rattle.mora_law.proofs.Items.{tickets_is, tickets_up}
use Rattle.reducer_list.specs.Steps.{Claimed}
use Rattle.reducer_list.proofs.Frames.{Law, fits_now, one_number, known_at, kept_core, sound_core, two_words}

-- the hand is shut over the list of the view exactly where it is over the entries that the seat knows
pub shut_here : (p : Setting) (s : Words) (k : Kept p s) (v : View) (b : Bool) → Fits p k.entries k.heads s.words v → is_busy v ≡ b → has_open p.problem (take v.seat.known k.entries) v.seat.hand ≡ b
shut_here p s k v b f e = (λ i. has_open ((sym f.setting i).problem) (sym f.list i) v.seat.hand) ∙ e

module _ (law : Law) (p : Setting) (slots id : ℕ) (me : Me) (is : me.0.setting ≡ p) (shut : is_busy me.0 ≡ false) (one : length me.0.seat.numbers ≡ 1) (below : me.0.seat.seen < total (length p.problem.gens) me.0.seat.known) (s : Words) (k : Kept p s) (at : get_elem? s.views id ≡ some me.0) where
  -- the seat may claim
  can : CanClaim (shown_by p k.entries s) me.0.seat
  can = (shut_here p s k me.0 false (fits_now p s k id me.0 at (one_number me.0.seat.numbers one)) shut, one, subst (λ n. me.0.seat.seen < n) (sym (tickets_is p.problem me.0.seat.known)) below)

  -- the claims of a seat that wins one more are at most the tickets of all entries that there can be
  most : get_or s.words 1 0 ≡ me.0.seat.seen → suc me.0.seat.claims ≤ total (length me.0.setting.problem.gens) (top me.0.setting)
  most hit = subst (λ (q : Setting). suc me.0.seat.claims ≤ total (length q.problem.gens) (top q)) (sym is)
      (omega (
        arith,
        hit,
        below,
        sum_one (λ (y : Seat). y.claims) (map seat_of s.views) id me.0.seat (at_map seat_of s.views id me.0 at),
        k.sound.claims,
        k.few,
        known_at p s k id me.0 at,
        (k.sound.seats id me.0.seat (at_map seat_of s.views id me.0 at)).seen,
        tickets_up p.problem me.0.seat.known (top p) (omega (arith, k.few, known_at p s k id me.0 at)),
        tickets_is p.problem me.0.seat.known,
        tickets_is p.problem (top p),
      ))

-- the exchange of the ticket number keeps the rule and tells the view
pub claims : Law → (p : Setting) (slots id : ℕ) (me : Me) → me.0.setting ≡ p → is_busy me.0 ≡ false → length me.0.seat.numbers ≡ 1 → me.0.seat.seen < total (length p.problem.gens) me.0.seat.known
    → Allows (Kept p) slots id me 1 (λ n. either (n == me.0.seat.seen) (me.0.seat.seen + 1) n) (Claimed (step slots 1 me.0.seat.seen (me.0.seat.seen + 1) none) me)
claims law p slots id me is shut one below s k _ at _ = dite (ℕ_discrete (get_or s.words 1 0) me.0.seat.seen)
    (λ hit.
    let v : View = me.0 in
    let u : Seat = won v.seat in
    let ticket : ℕ = get_or s.words 1 0 in
    let before : State = shown_by p k.entries s in
    let next : State = record before { ticket = suc ticket; seats = set (map seat_of s.views) id u } in
    let word : either (ticket == v.seat.seen) (v.seat.seen + 1) ticket ≡ suc ticket = ap (λ b. either b (v.seat.seen + 1) ticket) (eq-eqb ticket v.seat.seen hit) ∙ (omega arith) in
    let sound : IsSound next = law before next id Claim k.sound (v.seat, at_map seat_of s.views id v at, can law p slots id me is shut one below s k at, sym (ap (λ b. if b then next else record before { seats = set (map seat_of s.views) id (later ticket v.seat) }) (eq-eqb ticket v.seat.seen hit))) in (
      with_seat v u,
      keeps,
      tt,
      subst (λ (n : ℕ). Kept p (record { words = set s.words 1 n; homes = s.homes; views = set s.views id (with_seat v u) })) (sym word)
          (kept_core p s k id v u 1 (suc ticket) at (one_number v.seat.numbers one) refl refl (omega arith)
          (sound_core p s k id v u (get_or s.words 0 0) (suc ticket) (set s.words 1 (suc ticket)) (get_or-set_other s.words 1 0 (suc ticket) 0 (λ e. omega arith)) (get_or-set_same s.words 1 (suc ticket) 0 (two_words p s k)) sound)),
      (refl, (λ _. (refl, most law p slots id me is shut one below s k at hit)), (λ miss. absurd (miss hit))),
    ))
    (λ miss.
    let v : View = me.0 in
    let ticket : ℕ = get_or s.words 1 0 in
    let u : Seat = later ticket v.seat in
    let before : State = shown_by p k.entries s in
    let next : State = record before { seats = set (map seat_of s.views) id u } in
    let word : either (ticket == v.seat.seen) (v.seat.seen + 1) ticket ≡ ticket = ap (λ b. either b (v.seat.seen + 1) ticket) (ne_eqb ticket v.seat.seen miss) in
    let sound : IsSound next = law before next id Claim k.sound (v.seat, at_map seat_of s.views id v at, can law p slots id me is shut one below s k at, sym (ap (λ b. if b then record before { ticket = suc ticket; seats = set (map seat_of s.views) id (won v.seat) } else next) (ne_eqb ticket v.seat.seen miss))) in
    let seen = (k.sound.seats id v.seat (at_map seat_of s.views id v at)).seen in (
      with_seat v u,
      keeps,
      tt,
      subst (λ (n : ℕ). Kept p (record { words = set s.words 1 n; homes = s.homes; views = set s.views id (with_seat v u) })) (sym word)
          (kept_core p s k id v u 1 ticket at (one_number v.seat.numbers one) refl refl (omega arith)
          (sound_core p s k id v u (get_or s.words 0 0) ticket (set s.words 1 ticket) (get_or-set_other s.words 1 0 ticket 0 (λ e. omega arith)) (get_or-set_same s.words 1 ticket 0 (two_words p s k)) sound)),
      (refl, (λ hit. absurd (miss hit)), (λ _. (refl, omega arith))),
    ))

-- the same for the number that the code has
pub claims_at : Law → (p : Setting) (slots id : ℕ) (me : Me) (old : ℕ) → old ≡ me.0.seat.seen → me.0.setting ≡ p → is_busy me.0 ≡ false → length me.0.seat.numbers ≡ 1 → old < total (length p.problem.gens) me.0.seat.known
    → Allows (Kept p) slots id me 1 (λ n. either (n == old) (old + 1) n) (Claimed (step slots 1 old (old + 1) none) me)
claims_at law p slots id me old is set shut one below =
    subst (λ (k : ℕ). k < total (length p.problem.gens) me.0.seat.known → Allows (Kept p) slots id me 1 (λ n. either (n == k) (k + 1) n) (Claimed (step slots 1 k (k + 1) none) me)) (sym is) (claims law p slots id me set shut one) below
