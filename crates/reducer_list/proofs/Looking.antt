-- The load of a head. Where the head behind what is known is empty the seat knows the whole list, and a seat that rests makes the event Look; else
-- the machine stays as it was, and the view has the chunk whose words are to be read.
use Rattle.std.proofs.Common.{◌≡◌, ◌≢◌, ℕ, ◌+◌, ◌-◌, ◌<◌, ◌≤◌, Bool, true, false, List, [], length, map, take, set, get_or, refl, sym, ap, ◌∙◌, subst, inr, arith}
use Rattle.std.proofs.lemmas.Bool.{leb-true}
use Rattle.std.proofs.lemmas.List.{set-get_or}
use Rattle.std.specs.Prelude.{if◌then◌else◌, nat_le, sum_by, Option, Some, None}
use mathlib.Core.Logic.{dite}
use mathlib.Core.Option.{some, none}
use native.Mathlib.Decide.{ℕ_discrete, dec_le}
use lib.ListN.{get_elem?}
use lib.Seq.{map-set}
use Rattle.atomic_table.specs.Table as table
use Rattle.atomic_table.specs.Table.{step, keeps, Allows}
use Rattle.atomic_table.proofs.Lists.{at_map, set_again}
use Rattle.entry_code.specs.Entry.{Entry}
use Rattle.entry_code.specs.declared.entry.Entry.{Entry as StoredEntry}
use Rattle.mora_law.specs.Tickets.{total}
use Rattle.mora_law.proofs.Items.{tickets_is}
use Rattle.run_core.specs.declared.event.Event.TheVariants.{Look}
use Rattle.run_core.specs.State.{Seat, State, steps_of}
use Rattle.run_core.specs.Effects.{rested}
use Rattle.run_core.specs.Sound.{IsSound}
use Rattle.run_core.specs.Idle.{SettlesAll}
use Rattle.run_core.proofs.Places.{set_here}
use Rattle.reducer_list.specs.View.{Setting, BodyReading, View, top, is_busy}
use Rattle.reducer_list.specs.Rule.{Words, body, Lies, shown_by, seat_of, core, Fits, Kept}
use Rattle.reducer_list.specs.Steps.{Me, LastIdle, rests_if, looked, found_taken, Looked, sought, Sought}
use Rattle.reducer_list.proofs.Bodies.{take_all, times_here}
use Rattle.reducer_list.proofs.Frames.{Law, fits_now, known_at, kept_view, kept_sound}
use Rattle.reducer_list.proofs.Claiming.{shut_here}
use Rattle.reducer_list.proofs.Joining.{LastLaw}

-- a seat that rests keeps what it knows and its numbers
rests_same : (v : View) → ((rests_if v).known ≡ v.seat.known) × ((rests_if v).numbers ≡ v.seat.numbers)
rests_same v = by_bool (is_busy v) (nat_le (total (length v.setting.problem.gens) v.seat.known) v.seat.seen)
  where
    by_bool : (a b : Bool) → ((if a then v.seat else (if b then rested v.seat else v.seat)).known ≡ v.seat.known) × ((if a then v.seat else (if b then rested v.seat else v.seat)).numbers ≡ v.seat.numbers)
    by_bool true b = (refl, refl)
    by_bool false true = (refl, refl)
    by_bool false false = (refl, refl)

-- a seat that knows the whole list and rests leaves the machine sound
rests_sound : Law → (p : Setting) (s : Words) (k : Kept p s) (id : ℕ) (v : View) → v.setting ≡ p → v.seat.numbers ≢ [] → Fits p k.entries k.heads s.words v → get_elem? s.views id ≡ some v → v.seat.known ≡ length k.entries
    → IsSound (record (shown_by p k.entries s) { seats = set (map seat_of s.views) id (rests_if v) })
rests_sound law p s k id v is full f at all = by_bool (is_busy v) (nat_le (total (length v.setting.problem.gens) v.seat.known) v.seat.seen) refl refl
  where
    now : State
    now = shown_by p k.entries s

    there : get_elem? (map seat_of s.views) id ≡ some v.seat
    there = at_map seat_of s.views id v at

    same : IsSound (record now { seats = set (map seat_of s.views) id v.seat })
    same = subst (λ (l : List Seat). IsSound (record now { seats = l })) (sym (set_again (map seat_of s.views) id v.seat there)) k.sound

    by_bool : (a b : Bool) → is_busy v ≡ a → nat_le (total (length v.setting.problem.gens) v.seat.known) v.seat.seen ≡ b → IsSound (record now { seats = set (map seat_of s.views) id (if a then v.seat else (if b then rested v.seat else v.seat)) })
    by_bool true b _ _ = same
    by_bool false true shut done = law now (record now { seats = set (map seat_of s.views) id (rested v.seat) }) id Look k.sound
        (v.seat, there, full, inr ((all, shut_here p s k v false f shut, subst (λ n. n ≤ v.seat.seen) (sym (tickets_is p.problem v.seat.known)) (subst (λ (q : Setting). total (length q.problem.gens) v.seat.known ≤ v.seat.seen) is (leb-true (total (length v.setting.problem.gens) v.seat.known) v.seat.seen done))), refl))
    by_bool false false _ _ = same

-- where a head is 0 there are no more entries
all_known : (p : Setting) (s : Words) (k : Kept p s) (i : ℕ) → i ≤ length k.entries → get_or s.words (2 + i) 0 ≡ 0 → i ≡ length k.entries
all_known p s k i le hit = let count = k.count in dite (dec_le (length k.entries) i) (λ more. omega arith) (λ less. let n = k.named i (omega arith) in absurd (omega arith))

-- where it is not, there is one, in the chunk that it names
more_known : (p : Setting) (s : Words) (k : Kept p s) (i : ℕ) → i ≤ top p → get_or s.words (2 + i) 0 ≢ 0 → (i < length k.entries) × (get_or k.heads i 0 ≡ get_or s.words (2 + i) 0 - 1)
more_known p s k i low miss =
    let count = k.count in
    let less : i < length k.entries = dite (dec_le (length k.entries) i) (λ all. absurd (miss (k.blank i (omega arith) low))) (λ not. omega arith) in
    let named = k.named i (omega arith) in
    (less, omega arith)

-- a head that names a chunk names one of the table
chunk_low : (p : Setting) (s : Words) (k : Kept p s) (i : ℕ) → i < length k.entries → get_or k.heads i 0 < p.workers + length k.entries
chunk_low p s k i less = let count = k.count in let named = times_here k.heads i (omega arith) in k.bound (get_or k.heads i 0) (omega arith)

-- what the load of the head behind what is known owes
abbrev LooksAt : Setting → ℕ → ℕ → Me → Words → Type 0
LooksAt p slots id me s =
    (w : View) × (a : table.Act StoredEntry) × table.Valid s.homes me.1 a
    × Kept p (table.stepped s (2 + me.0.seat.known) (get_or s.words (2 + me.0.seat.known) 0) id me.1 w a)
    × Looked (step slots (2 + me.0.seat.known) 0 0 none) me (get_or s.words (2 + me.0.seat.known) 0) (w, table.carried_after me.1 a)

-- where it is empty
looks_empty : Law → LastLaw → (p : Setting) (slots id : ℕ) (me : Me) (s : Words) (k : Kept p s) → me.0.setting ≡ p → me.0.seat.numbers ≢ [] → get_elem? s.views id ≡ some me.0 → get_or s.words (2 + me.0.seat.known) 0 ≡ 0 → LooksAt p slots id me s
looks_empty law last p slots id me s k is full at hit = (
  looked me.0,
  keeps,
  tt,
  kept_sound p s k id me.0 (looked me.0) (set s.words (2 + me.0.seat.known) (get_or s.words (2 + me.0.seat.known) 0)) (set-get_or s.words (2 + me.0.seat.known) 0) at refl fits sound,
  (
    refl,
    (λ _. (none_taken me.0.taken refl, refl, last_idle, tickets)),
    (λ miss. absurd (miss hit)),
  ),
)
  where
    f : Fits p k.entries k.heads s.words me.0
    f = fits_now p s k id me.0 at full

    all : me.0.seat.known ≡ length k.entries
    all = all_known p s k me.0.seat.known (known_at p s k id me.0 at) hit

    same : ((rests_if me.0).known ≡ me.0.seat.known) × ((rests_if me.0).numbers ≡ me.0.seat.numbers)
    same = rests_same me.0

    fits : Fits p k.entries k.heads s.words (looked me.0)
    fits = record {
      setting = f.setting;
      list = f.list ∙ ap (λ (n : ℕ). take n k.entries) (sym same.0);
      chunks = f.chunks ∙ ap length (sym same.1);
      draft = f.draft;
      short = f.short;
      taken = λ c e. subst (λ (n : ℕ). (n < length k.entries) × (get_or k.heads n 0 ≡ c)) (sym same.0) (f.taken c e);
      reading = f.reading;
      joined = f.joined;
    }

    sound : IsSound (core p k.entries (get_or s.words 0 0) (get_or s.words 1 0) (set s.views id (looked me.0)))
    sound = subst (λ (l : List Seat). IsSound (record (shown_by p k.entries s) { seats = l })) (sym (map-set seat_of s.views id (looked me.0))) (rests_sound law p s k id me.0 is full f at all)

    none_taken : (o : Option ℕ) → me.0.taken ≡ o → me.0.taken ≡ None
    none_taken None e = e
    none_taken (Some c) e = let t = f.taken c e in let less = t.0 in let a = all in absurd (omega arith)

    last_idle : LastIdle (looked me.0)
    last_idle has idle =
        let l = last (core p k.entries (get_or s.words 0 0) (get_or s.words 1 0) (set s.views id (looked me.0))) id (looked me.0).seat sound (at_map seat_of (set s.views id (looked me.0)) id (looked me.0) (set_here s.views id me.0 (looked me.0) at)) (λ n less. has n (subst (λ (q : Setting). n < q.workers) (sym is) less)) idle in
        let list : me.0.list ≡ k.entries = f.list ∙ take_all k.entries me.0.seat.known all in
        (l.1 ∙ (λ i. total (length ((sym is i).problem.gens)) (looked me.0).seat.known), l.2 ∙ ap (λ (es : List Entry). sum_by steps_of es) (sym list), subst (λ (x : Setting × List Entry). SettlesAll x.0.problem x.1) (λ i. (sym is i, sym list i)) l.3)

    tickets : total (length me.0.setting.problem.gens) me.0.seat.known ≤ me.0.seat.seen → me.0.seat.seen ≡ total (length me.0.setting.problem.gens) me.0.seat.known
    tickets done =
        let seen = (k.sound.seats id me.0.seat (at_map seat_of s.views id me.0 at)).seen in
        let least = k.sound.tickets in
        let most = tickets_is p.problem (length k.entries) in
        let here : total (length p.problem.gens) (length k.entries) ≡ total (length me.0.setting.problem.gens) me.0.seat.known = λ i. total (length ((sym is i).problem.gens)) (sym all i) in
        omega (arith, done, seen, least, most, here)

-- where it names a chunk
looks_taken : (p : Setting) (slots id : ℕ) (me : Me) (s : Words) (k : Kept p s) → me.0.setting ≡ p → me.0.seat.numbers ≢ [] → me.0.seat.known ≤ top p → get_elem? s.views id ≡ some me.0 → get_or s.words (2 + me.0.seat.known) 0 ≢ 0 → LooksAt p slots id me s
looks_taken p slots id me s k is full low at miss =
    let v : View = me.0 in
    let found : ℕ = get_or s.words (2 + v.seat.known) 0 in
    let w : View = found_taken found v in
    let f = fits_now p s k id v at full in
    let more = more_known p s k v.seat.known low miss in
    let few = k.few in
    let less = more.0 in
    let chunk = chunk_low p s k v.seat.known less in
    let there = more.1 in
    let some_top : v.seat.known < top v.setting = subst (λ (q : Setting). v.seat.known < top q) (sym is) (omega arith) in
    let most : found ≤ top v.setting + v.setting.workers = subst (λ (q : Setting). found ≤ top q + q.workers) (sym is) (omega arith) in (
      w,
      keeps,
      tt,
      kept_view p s k id v w (set s.words (2 + v.seat.known) found) (set-get_or s.words (2 + v.seat.known) 0) at refl refl
          record {
            setting = f.setting;
            list = f.list;
            chunks = f.chunks;
            draft = f.draft;
            short = f.short;
            taken = (λ c e. let same : found - 1 ≡ c = cc in (more.0, more.1 ∙ same));
            reading = (λ r e. let same : record { place = v.seat.known; chunk = found - 1; words = [] } ≡ r = cc in subst (λ (q : BodyReading). (q.place < length k.entries) × (get_or k.heads q.place 0 ≡ q.chunk) × Lies s.words (body p q.chunk) q.words × (length q.words ≤ top p + 8)) same (more.0, more.1, (λ n less. absurd (omega arith)), omega arith));
            joined = f.joined;
          },
      (refl, (λ hit. absurd (miss hit)), (λ _. (refl, most, some_top))),
    )

-- the load of the head behind what is known
pub looks : Law → LastLaw → (p : Setting) (slots id : ℕ) (me : Me) → me.0.setting ≡ p → me.0.seat.numbers ≢ [] → me.0.seat.known ≤ top p → Allows (Kept p) slots id me (2 + me.0.seat.known) (λ n. n) (Looked (step slots (2 + me.0.seat.known) 0 0 none) me)
looks law last p slots id me is full low s k _ at _ = dite (ℕ_discrete (get_or s.words (2 + me.0.seat.known) 0) 0)
    (λ hit. looks_empty law last p slots id me s k is full at hit)
    (λ miss. looks_taken p slots id me s k is full low at miss)

-- the load of the head of an entry that is known
pub seeks : (p : Setting) (slots id : ℕ) (me : Me) (i : ℕ) → me.0.setting ≡ p → me.0.seat.numbers ≢ [] → i < me.0.seat.known → Allows (Kept p) slots id me (2 + i) (λ n. n) (Sought (step slots (2 + i) 0 0 none) me)
seeks p slots id me i is full less s k _ at _ =
    let v : View = me.0 in
    let found : ℕ = get_or s.words (2 + i) 0 in
    let f = fits_now p s k id v at full in
    let known = known_at p s k id v at in
    let few = k.few in
    let count = k.count in
    let within : i < length k.entries = omega arith in
    let named = k.named i (omega arith) in
    let here : get_or k.heads i 0 ≡ found - 1 = omega arith in
    let chunk = chunk_low p s k i within in
    let place : 2 + i - 2 ≡ i = omega arith in
    let most : found ≤ top v.setting + v.setting.workers = subst (λ (q : Setting). found ≤ top q + q.workers) (sym is) (omega arith) in (
      sought i found v,
      keeps,
      tt,
      kept_view p s k id v (sought i found v) (set s.words (2 + i) found) (set-get_or s.words (2 + i) 0) at refl refl
          record {
            setting = f.setting;
            list = f.list;
            chunks = f.chunks;
            draft = f.draft;
            short = f.short;
            taken = f.taken;
            reading = (λ r e. let same : record { place = i; chunk = found - 1; words = [] } ≡ r = cc in subst (λ (q : BodyReading). (q.place < length k.entries) × (get_or k.heads q.place 0 ≡ q.chunk) × Lies s.words (body p q.chunk) q.words × (length q.words ≤ top p + 8)) same (within, here, (λ n less. absurd (omega arith)), omega arith));
            joined = f.joined;
          },
      (refl, ap (λ (n : ℕ). sought n found v) (sym place), omega arith, most),
    )
