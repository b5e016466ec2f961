-- The exchange of the corner word with the lesser is the event Corner.
-- The own corner is that of the entries that the seat knows, so the lesser is what the machine's seat reads.
use Rattle.std.proofs.Common.{◌≡◌, ◌≢◌, ℕ, ◌≤◌, true, List, [], ◌∷◌, map, take, set, get_or, refl, ap, ◌∙◌, arith, get_or-set_other, get_or-set_same}
use Rattle.std.specs.Prelude.{Option, Some, None, min}
use mathlib.Core.Option.{some, none}
use lib.ListN.{get_elem?}
use Rattle.atomic_table.specs.Table.{step, keeps, Allows}
use Rattle.atomic_table.proofs.Lists.{at_map}
use Rattle.run_core.specs.State.{Seat, State}
use Rattle.run_core.specs.Sound.{IsSound}
use Rattle.reducer_list.specs.View.{Setting, View, is_busy}
use Rattle.reducer_list.specs.Rule.{seat_of, core, Kept}
use Rattle.reducer_list.specs.Steps.{Me}
use Rattle.run_core.specs.declared.event.Event.TheVariants.{Corner}
use Rattle.entry_code.specs.declared.reading.Reading.{Reading}
use Rattle.rank_algebra.specs.Ranks.{Ranks}
use Rattle.rank_algebra.specs.Division.{Basis}
use Rattle.mora_law.specs.Ring.{ranks_of_problem}
use Rattle.mora_law.specs.Entries.{basis_of, corner}
use Rattle.mora_law.specs.Legal.{HaveCorners}
use Rattle.run_core.specs.Hand.{Hand, reads_of, read}
use Rattle.run_core.specs.Effects as machine
use Rattle.run_core.specs.Effects.{read_corner}
use Rattle.reducer_list.specs.Steps.{Cornered, cornered, AreAbove}
use Rattle.reducer_list.proofs.Frames.{Law, fits_now, kept_core, sound_core, two_words}
use Rattle.reducer_list.proofs.Claiming.{shut_here}

-- the corner word is at most each corner of a hand
all_above : (R : Ranks) (B : Basis) (word : ℕ) (reads : List Reading) → HaveCorners R B word reads → AreAbove word reads
all_above R B word [] h = tt
all_above R B word (d ∷ ds) h = (h.0, all_above R B word ds h.2)

-- a lesser corner too
above_less : (a b : ℕ) (reads : List Reading) → a ≤ b → AreAbove b reads → AreAbove a reads
above_less a b [] le h = tt
above_less a b (d ∷ ds) le h = (omega (arith, le, h.0), above_less a b ds le h.1)

-- so where there is a hand
hand_above : (word : ℕ) (o : Option Hand) → ((h : Hand) → o ≡ Some h → AreAbove word h.reads) → AreAbove word (reads_of o)
hand_above word None each = tt
hand_above word (Some h) each = each h refl

-- the lessening of the corner word keeps the rule and tells the view
pub corners : Law → (p : Setting) (slots id : ℕ) (me : Me) (own : ℕ) → me.0.setting ≡ p → me.0.seat.numbers ≢ [] → is_busy me.0 ≡ true → own ≡ corner me.0.setting.problem me.0.list
    → Allows (Kept p) slots id me 0 (λ n. min n own) (Cornered (step slots 0 own 0 none) me)
corners law p slots id me own is full busy mine s k _ at _ =
    let v : View = me.0 in
    let word : ℕ = get_or s.words 0 0 in
    let now : State = core p k.entries word (get_or s.words 1 0) s.views in
    let there : get_elem? (map seat_of s.views) id ≡ some v.seat = at_map seat_of s.views id v at in
    let f = fits_now p s k id v at full in
    let w : View = cornered (min word own) v in
    let u : Seat = w.seat in
    let least : min word own ≡ read_corner now v.seat = ap (min word) (mine ∙ (λ i. corner ((is i).problem) (f.list i))) in
    let u_is : u ≡ machine.cornered now v.seat = λ i. record v.seat { hand = read ((is i).problem) (f.list i) (record { known = v.seat.known; corner = least i }) v.seat.hand } in
    let next : State = record now { corner = min word own; seats = set (map seat_of s.views) id u } in
    let sound : IsSound next = law now next id Corner k.sound (v.seat, there, shut_here p s k v true f busy, (λ i. record now { corner = least i; seats = set (map seat_of s.views) id (u_is i) })) in
    let two = two_words p s k in (
      w,
      keeps,
      tt,
      kept_core p s k id v u 0 (min word own) at full refl refl (omega arith)
          (sound_core p s k id v u (min word own) (get_or s.words 1 0) (set s.words 0 (min word own)) (get_or-set_same s.words 0 (min word own) 0 (omega arith)) (get_or-set_other s.words 0 1 (min word own) 0 (λ e. omega arith)) sound),
      (refl, refl, above_less (min word own) word (reads_of v.seat.hand) (omega arith) (hand_above word v.seat.hand (λ h e. all_above (ranks_of_problem p.problem) (basis_of (take v.seat.known k.entries)) word h.reads ((k.sound.seats id v.seat there).hand h e).corners))),
    )
