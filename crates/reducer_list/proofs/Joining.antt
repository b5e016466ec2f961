-- Joining a seat is the event Join, and the load behind it shows what the rule says of the seat that is left.
-- The joined view knows the longer of the two lists, and its chunks are those of both.
use Rattle.std.proofs.Common.{◌≡◌, ◌≢◌, ℕ, ◌<◌, ◌≤◌, Bool, true, false, List, [], ◌∷◌, ◌++◌, length, map, take, set, get_or, refl, sym, ap, ◌∙◌, subst, inl, inr, ⊎_elim, arith, length-append}
use Rattle.std.proofs.lemmas.List.{set-get_or, length-take-le, take-take}
use Rattle.std.specs.Prelude.{sum_by, if◌then◌else◌, Some, None, max}
use mathlib.Core.Option.{some, none}
use lib.ListN.{get_elem?}
use lib.Seq.{map-set}
use Rattle.atomic_table.specs.Table.{step, keeps, Allows}
use Rattle.atomic_table.proofs.Lists.{at_set, at_map}
use Rattle.entry_code.specs.Entry.{Entry}
use Rattle.run_core.specs.State.{Seat, State, times}
use Rattle.run_core.specs.Sound.{IsSound}
use Rattle.run_core.proofs.Places.{sum_set, sum_one}
use Rattle.reducer_list.specs.View.{Setting, View, is_busy, Begins}
use Rattle.reducer_list.specs.Rule.{seat_of, core, Fits, IsSpent, held, Kept}
use Rattle.reducer_list.specs.Steps.{first_chunk, Me}
use Rattle.std.specs.Prelude.{nat_le}
use Rattle.std.proofs.lemmas.Bool.{leb-true, leb-false}
use Rattle.atomic_table.specs.Table.{Joins}
use Rattle.run_core.specs.declared.event.Event.TheVariants.{Join}
use Rattle.run_core.specs.State.{IsAt, lowest, steps_of}
use Rattle.run_core.specs.Effects.{joined, nobody}
use Rattle.run_core.specs.Idle.{HasAll, IsLast, SettlesAll}
use Rattle.run_core.proofs.Places.{set_else}
use Rattle.run_core.proofs.Numbers.{times_append}
use Rattle.mora_law.specs.Tickets.{total}
use Rattle.reducer_list.specs.Steps.{first_chunk, both, spent_view, Settled}
use Rattle.reducer_list.proofs.Bodies.{take_all}
use Rattle.reducer_list.proofs.Frames.{Law, fits_now, known_at, kept_view}
use Rattle.reducer_list.proofs.Claiming.{shut_here}

-- two beginnings of a list: the shorter one begins the longer one
begin_both : (l m entries : List Entry) (j k : ℕ) → j ≤ k → j ≤ length entries → l ≡ take j entries → m ≡ take k entries → Begins l m
begin_both l m entries j k le few is is' =
    (λ i. take (length (is i)) (is' i)) ∙ ap (λ n. take n (take k entries)) (length-take-le j entries few) ∙ take-take j k entries le ∙ sym is

-- each of two joined lists begins the list of both
pub both_begin : (v w : View) → Begins (both v w).joined (both v w).list → Begins v.list (both v w).list × Begins w.list (both v w).list
both_begin v w h = go (nat_le w.seat.known v.seat.known) h
  where
    go : (b : Bool) → Begins (if b then w.list else v.list) (if b then v.list else w.list) → Begins v.list (if b then v.list else w.list) × Begins w.list (if b then v.list else w.list)
    go true h = (take_all v.list (length v.list) refl, h)
    go false h = (h, take_all w.list (length w.list) refl)

-- what the law of the last idle seat says
abbrev pub LastLaw : Type 0
LastLaw = (s : State) (i : ℕ) (v : Seat) → IsSound s → IsAt s i v → HasAll s v → v.idle ≡ true → IsLast s v

-- two lists in one begin as the first does
head_of_both : (xs ys : List ℕ) (c : ℕ) (cs : List ℕ) → xs ≢ [] → xs ++ ys ≡ c ∷ cs → (ds : List ℕ) × (xs ≡ c ∷ ds)
head_of_both [] ys c cs full e = absurd (full refl)
head_of_both (x ∷ xs) ys c cs full e = (xs, (let is : x ≡ c = ap first_chunk e in ap (λ (n : ℕ). n ∷ xs) is))

-- the view of both fits where each does: it knows the longer of the two lists
both_fit : (p : Setting) (entries : List Entry) (heads words : List ℕ) (v w : View) → v.seat.numbers ≢ [] → Fits p entries heads words v → Fits p entries heads words w → v.seat.known ≤ length entries → w.seat.known ≤ length entries
    → Fits p entries heads words (both v w)
both_fit p entries heads words v w full f g l m = record {
  setting = f.setting;
  list = lists (nat_le w.seat.known v.seat.known) refl;
  chunks = omega (arith, length-append v.chunks w.chunks, length-append v.seat.numbers w.seat.numbers, f.chunks, g.chunks);
  draft = λ c cs e. let h = head_of_both v.chunks w.chunks c cs (λ none. full (empty v.seat.numbers (sym f.chunks ∙ ap length none))) e in f.draft c h.0 h.1;
  short = f.short;
  taken = λ c e. takes (nat_le w.seat.known v.seat.known) refl c e;
  reading = λ q e. absurd (cc);
  joined = begins (nat_le w.seat.known v.seat.known) refl;
}
  where
    empty : (ns : List ℕ) → length ns ≡ 0 → ns ≡ []
    empty [] e = refl
    empty (n ∷ ns) e = absurd (omega arith)

    begins : (b : Bool) → nat_le w.seat.known v.seat.known ≡ b → Begins (if b then w.list else v.list) (if b then v.list else w.list)
    begins true e = begin_both w.list v.list entries w.seat.known v.seat.known (leb-true w.seat.known v.seat.known e) m g.list f.list
    begins false e = let gt = leb-false w.seat.known v.seat.known e in begin_both v.list w.list entries v.seat.known w.seat.known (omega (arith, gt)) l f.list g.list

    lists : (b : Bool) → nat_le w.seat.known v.seat.known ≡ b → (if b then v.list else w.list) ≡ take (max v.seat.known w.seat.known) entries
    lists true e = let le = leb-true w.seat.known v.seat.known e in f.list ∙ ap (λ (n : ℕ). take n entries) (omega arith)
    lists false e = let gt = leb-false w.seat.known v.seat.known e in g.list ∙ ap (λ (n : ℕ). take n entries) (omega arith)

    takes : (b : Bool) → nat_le w.seat.known v.seat.known ≡ b → (c : ℕ) → (if b then v.taken else None) ≡ Some c → (max v.seat.known w.seat.known < length entries) × (get_or heads (max v.seat.known w.seat.known) 0 ≡ c)
    takes true e c is = let le = leb-true w.seat.known v.seat.known e in let m : v.seat.known ≡ max v.seat.known w.seat.known = omega arith in subst (λ (n : ℕ). (n < length entries) × (get_or heads n 0 ≡ c)) m (f.taken c is)
    takes false e c is = absurd (cc)

-- the joining of a seat keeps the rule
pub joins : Law → (p : Setting) (id : ℕ) (v : View) (other : ℕ) (w : View) → is_busy v ≡ false → is_busy w ≡ false → v.seat.numbers ≢ [] → w.seat.numbers ≢ [] → Joins (Kept p) id v other w (both v w) spent_view
joins law p id v other w shut shut' full full' s k at ne there' =
    let there : get_elem? s.views other ≡ some w = sym (set_else s.views id other (both v w) ne) ∙ there' in
    let f = fits_now p s k id v at full in
    let g = fits_now p s k other w there full' in
    let b : View = both v w in
    let now : State = core p k.entries (get_or s.words 0 0) (get_or s.words 1 0) s.views in
    record {
      entries = k.entries;
      heads = k.heads;
      size = k.size;
      few = k.few;
      count = k.count;
      named = k.named;
      blank = k.blank;
      apart = λ c. subst (λ (n : ℕ). n ≤ 1) (sym (same c)) (k.apart c);
      bound = λ c some_held. k.bound c (subst (λ (n : ℕ). 0 < n) (same c) some_held);
      spelled = k.spelled;
      views = λ i u e. ⊎_elim
          (λ (t : (i ≡ other) × (spent_view ≡ u)). inl (subst IsSpent t.1 (refl, refl)))
          (λ (t : (i ≢ other) × (get_elem? (set s.views id b) i ≡ some u)). ⊎_elim
          (λ (t' : (i ≡ id) × (b ≡ u)). inr (subst (Fits p k.entries k.heads s.words) t'.1 (both_fit p k.entries k.heads s.words v w full f g (known_at p s k id v at) (known_at p s k other w there))))
          (λ (t' : (i ≢ id) × (get_elem? s.views i ≡ some u)). k.views i u t'.1)
          (at_set s.views id i b u t.1))
          (at_set (set s.views id b) other i spent_view u e);
      sound = subst (λ (ss : List Seat). IsSound (record now { seats = ss })) seats_are
          (law now (record now { seats = set (set (map seat_of s.views) id (joined v.seat w.seat)) other nobody }) id (Join (lowest w.seat.numbers)) k.sound
          (v.seat, other, w.seat, at_map seat_of s.views id v at, at_map seat_of s.views other w there, (λ e. ne (sym e)), (shut_here p s k v false f shut, shut_here p s k w false g shut', full, full', refl), refl));
    }
  where
    same : (c : ℕ) → held c k.heads (set (set s.views id (both v w)) other spent_view) ≡ held c k.heads s.views
    same c = let t = sum_set (λ (y : View). times c y.chunks) s.views id v (both v w) at in let t' = sum_set (λ (y : View). times c y.chunks) (set s.views id (both v w)) other w spent_view there' in omega (arith, times_append c v.chunks w.chunks)

    seats_are : set (set (map seat_of s.views) id (joined v.seat w.seat)) other nobody ≡ map seat_of (set (set s.views id (both v w)) other spent_view)
    seats_are = ap (λ (l : List Seat). set l other nobody) (sym (map-set seat_of s.views id (both v w))) ∙ sym (map-set seat_of (set s.views id (both v w)) other spent_view)

-- what the rule says of a seat, at a load of word 0
pub settles : LastLaw → (p : Setting) (slots id : ℕ) (me : Me) → me.0.setting ≡ p → me.0.seat.numbers ≢ [] → Allows (Kept p) slots id me 0 (λ n. n) (Settled (step slots 0 0 0 none) me)
settles last p slots id me is full s k _ at _ =
    let v : View = me.0 in
    let f = fits_now p s k id v at full in
    let now : State = core p k.entries (get_or s.words 0 0) (get_or s.words 1 0) s.views in
    let there : get_elem? (map seat_of s.views) id ≡ some v.seat = at_map seat_of s.views id v at in
    let most = sum_one (λ (u : Seat). length u.numbers) (map seat_of s.views) id v.seat there in
    let sizes = k.sound.sizes in (
      v,
      keeps,
      tt,
      kept_view p s k id v v (set s.words 0 (get_or s.words 0 0)) (set-get_or s.words 0 0) at refl refl f,
      (
        refl,
        refl,
        (λ has idle.
            let l = last now id v.seat k.sound there (λ n less. has n (subst (λ (q : Setting). n < q.workers) (sym is) less)) idle in
            let list : v.list ≡ k.entries = f.list ∙ take_all k.entries v.seat.known l.0 in
            (l.1 ∙ (λ i. total (length ((sym is i).problem.gens)) v.seat.known), l.2 ∙ ap (λ (es : List Entry). sum_by steps_of es) (sym list), subst (λ (x : Setting × List Entry). SettlesAll x.0.problem x.1) (λ i. (sym is i, sym list i)) l.3)),
        subst (λ (q : Setting). length v.seat.numbers ≤ q.workers) (sym is) (omega arith),
        f.joined,
      ),
    )
