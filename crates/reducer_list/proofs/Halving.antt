-- Making a seat is the event Split: the greatest number goes to the new seat, with the last chunk.
-- What both halves know is what the seat knew, and their chunks are its chunks.
use Rattle.std.proofs.Common.{◌≡◌, ◌≢◌, ℕ, zero, suc, ◌+◌, ◌-◌, ◌<◌, ◌≤◌, false, List, [], ◌∷◌, ◌++◌, length, map, take, set, get_or, refl, sym, ap, ◌∙◌, subst, inr, ⊎_elim, arith}
use mathlib.Core.Option.{some}
use lib.ListN.{get_elem?}
use lib.Seq.{map-set}
use Rattle.atomic_table.proofs.Lists.{at_set, at_map}
use Rattle.run_core.specs.State.{Seat, State, times}
use Rattle.run_core.specs.Sound.{IsSound}
use Rattle.run_core.proofs.Places.{sum_set}
use Rattle.reducer_list.specs.View.{Setting, View, is_busy}
use Rattle.reducer_list.specs.Rule.{seat_of, core, Fits, held, Kept}
use mathlib.Core.List.{map-append}
use Rattle.std.proofs.lemmas.List.Sums.{sum_by-append}
use Rattle.atomic_table.specs.Table.{Splits}
use Rattle.run_core.specs.declared.event.Event.TheVariants.{Split}
use Rattle.run_core.specs.State.{highest, without}
use Rattle.run_core.specs.Effects.{kept, given}
use Rattle.run_core.proofs.Numbers.{has_highest, length_without}
use Rattle.run_core.proofs.Places.{at_snoc}
use Rattle.reducer_list.specs.Steps.{first_chunk, all_but_last, last_only, left_half, right_half}
use Rattle.reducer_list.proofs.Bodies.{times_cut}
use Rattle.reducer_list.proofs.Frames.{Law, fits_now}
use Rattle.reducer_list.proofs.Claiming.{shut_here}

-- a list that is not empty
pub not_empty : (ns : List ℕ) → 0 < length ns → ns ≢ []
not_empty ns less e = let z : length ns ≡ 0 = ap length e in omega arith

-- the first chunk stays
head_of_front : (xs : List ℕ) (c : ℕ) (cs : List ℕ) → all_but_last xs ≡ c ∷ cs → (ds : List ℕ) × (xs ≡ c ∷ ds)
head_of_front [] c cs e = absurd (cc)
head_of_front (x ∷ []) c cs e = absurd (cc)
head_of_front (x ∷ y ∷ ys) c cs e = (y ∷ ys, (let is : x ≡ c = ap first_chunk e in ap (λ (n : ℕ). n ∷ y ∷ ys) is))

-- a list of chunks is cut in one less and one
chunks_cut : (n : ℕ) (cs : List ℕ) → length cs ≡ n + 1 → (length (all_but_last cs) ≡ n) × (length (last_only cs) ≡ 1)
chunks_cut n [] e = absurd (omega (arith, e))
chunks_cut n (c ∷ []) e = (omega (arith, e), refl)
chunks_cut zero (c ∷ d ∷ cs) e = absurd (omega (arith, e))
chunks_cut (suc n) (c ∷ d ∷ cs) e = let r = chunks_cut n (d ∷ cs) (omega (arith, e)) in (ap suc r.0, r.1)

-- as many chunks as numbers in both halves
pub lengths_cut : (ns cs : List ℕ) → 0 < length ns → length cs ≡ length ns → (length (all_but_last cs) ≡ length (without (highest ns) ns)) × (length (last_only cs) ≡ 1)
lengths_cut ns cs l e = chunks_cut (length (without (highest ns) ns)) cs (omega (arith, e, length_without (highest ns) ns (has_highest ns l)))

-- the step keeps the rule
pub splits : Law → (p : Setting) (id : ℕ) (v : View) → is_busy v ≡ false → 1 < length v.seat.numbers → Splits (Kept p) id v (left_half v) (right_half v)
splits law p id v shut many s k at =
    let f = fits_now p s k id v at (not_empty v.seat.numbers (omega arith)) in
    let l : View = left_half v in
    let r : View = right_half v in
    let now : State = core p k.entries (get_or s.words 0 0) (get_or s.words 1 0) s.views in
    let cut = lengths_cut v.seat.numbers v.chunks (omega arith) f.chunks in
    record {
      entries = k.entries;
      heads = k.heads;
      size = k.size;
      few = k.few;
      count = k.count;
      named = k.named;
      blank = k.blank;
      apart = λ c. subst (λ (n : ℕ). n ≤ 1) (sym (same c)) (k.apart c);
      bound = λ c some_held. k.bound c (subst (λ (n : ℕ). 0 < n) (same c) some_held);
      spelled = k.spelled;
      views = λ i u e. ⊎_elim
          (λ old. ⊎_elim
          (λ (t : (i ≡ id) × (l ≡ u)). inr (subst (Fits p k.entries k.heads s.words) t.1
          record {
            setting = f.setting;
            list = f.list;
            chunks = cut.0;
            draft = (λ c cs e. let h = head_of_front v.chunks c cs e in f.draft c h.0 h.1);
            short = f.short;
            taken = f.taken;
            reading = f.reading;
            joined = f.joined;
          }))
          (λ (t : (i ≢ id) × (get_elem? s.views i ≡ some u)). k.views i u t.1)
          (at_set s.views id i l u old))
          (λ new. inr (subst (Fits p k.entries k.heads s.words) new.1
          record {
            setting = f.setting;
            list = f.list;
            chunks = cut.1;
            draft = (λ c cs e n less. absurd (omega arith));
            short = omega arith;
            taken = (λ c e. absurd (cc));
            reading = (λ q e. absurd (cc));
            joined = refl;
          }))
          (at_snoc (set s.views id l) r u i e);
      sound = subst (λ (ss : List Seat). IsSound (record now { seats = ss })) seats_are (law now (record now { seats = set (map seat_of s.views) id (kept v.seat) ++ given v.seat ∷ [] }) id (Split (highest v.seat.numbers)) k.sound (v.seat, at_map seat_of s.views id v at, (shut_here p s k v false f shut, many, refl), refl));
    }
  where
    same : (c : ℕ) → held c k.heads (set s.views id (left_half v) ++ right_half v ∷ []) ≡ held c k.heads s.views
    same c = let t = sum_set (λ (y : View). times c y.chunks) s.views id v (left_half v) at in omega (arith, times_cut c v.chunks, sum_by-append (λ (y : View). times c y.chunks) (set s.views id (left_half v)) (right_half v ∷ []))

    seats_are : set (map seat_of s.views) id (kept v.seat) ++ given v.seat ∷ [] ≡ map seat_of (set s.views id (left_half v) ++ right_half v ∷ [])
    seats_are = ap (λ (l : List Seat). l ++ given v.seat ∷ []) (sym (map-set seat_of s.views id (left_half v))) ∙ sym (map-append seat_of (set s.views id (left_half v)) (right_half v ∷ []))

-- the chunks of a seat, when the last is taken off
pub cut_chunks : (c n : ℕ) (rest : List ℕ) → 0 < n → n ≤ length rest → (all_but_last (c ∷ take n rest) ≡ c ∷ take (n - 1) rest) × (last_only (c ∷ take n rest) ≡ get_or rest (n - 1) 0 ∷ [])
cut_chunks c zero rest some_left le = absurd (omega arith)
cut_chunks c (suc n) [] some_left le = absurd (omega arith)
cut_chunks c (suc zero) (x ∷ rest) some_left le = (refl, refl)
cut_chunks c (suc (suc n)) (x ∷ []) some_left le = absurd (omega arith)
cut_chunks c (suc (suc n)) (x ∷ y ∷ rest) some_left le = let r = cut_chunks x (suc n) (y ∷ rest) (omega arith) (omega arith) in
    let m : suc (suc n) - 1 ≡ suc n = omega arith in let m' : suc n - 1 ≡ n = omega arith in (
      ap (λ (l : List ℕ). c ∷ l) (r.0 ∙ ap (λ (k : ℕ). x ∷ take k (y ∷ rest)) m') ∙ ap (λ (k : ℕ). c ∷ take k (x ∷ y ∷ rest)) (sym m),
      r.1 ∙ ap (λ (k : ℕ). get_or (y ∷ rest) k 0 ∷ []) m' ∙ ap (λ (k : ℕ). get_or (x ∷ y ∷ rest) k 0 ∷ []) (sym m),
    )
