-- The exchange of the head behind what a seat knows is the event Publish where it finds 0, and else leaves the machine as it was.
-- Where it finds 0 the seat knows the whole list; the new head names the chunk in which the words of the entry lie.
use Rattle.std.proofs.Common.{◌≡◌, ◌≢◌, ℕ, zero, suc, ◌+◌, ◌-◌, ◌*◌, ◌<◌, ◌≤◌, List, [], ◌∷◌, ◌++◌, length, map, take, set, get_or, refl, sym, ap, ◌∙◌, subst, inl, inr, ⊎_elim, arith, eq-eqb, ne_eqb, get_or-set_other, get_or-set_same, length-set, length-append}
use Rattle.std.proofs.lemmas.List.{set-get_or}
use Rattle.std.specs.Prelude.{◌==◌, Some}
use mathlib.Core.Logic.{dite}
use mathlib.Core.Option.{some, none}
use native.Mathlib.Decide.{ℕ_discrete, dec_le}
use lib.ListN.{get_elem?}
use lib.Seq.{map-set}
use prog.Atomic.{either}
use Rattle.atomic_table.specs.Table as table
use Rattle.atomic_table.specs.Table.{step, keeps, Allows}
use Rattle.atomic_table.proofs.Lists.{at_set, at_map}
use Rattle.entry_code.specs.Entry.{Entry}
use Rattle.entry_code.specs.declared.entry.Entry.{Entry as StoredEntry}
use Rattle.entry_code.specs.Words.{words_of}
use Rattle.run_core.specs.State.{Seat, State, times}
use Rattle.run_core.specs.Sound.{IsSound}
use Rattle.run_core.proofs.Places.{sum_set, at_snoc}
use Rattle.reducer_list.specs.View.{Setting, View, top, Begins}
use Rattle.reducer_list.specs.Rule.{Words, body, Lies, shown_by, seat_of, Fits, held, Kept}
use Rattle.reducer_list.specs.Steps.{Me, behind_first, made, IsStuck, FitsChunk, Roomy, posted, refused, Posted}
use Rattle.reducer_list.proofs.Bodies.{lies_low, get_front, get_last, take_front, take_all, times_snoc, times_one}
use Rattle.reducer_list.proofs.Frames.{Law, below, kept_view, fits_now, known_at}
use Rattle.entry_code.proofs.Spellings.{count_words}
use Rattle.mora_law.specs.declared.step_end.StepEnd.TheVariants.{Stuck}
use Rattle.mora_law.specs.Run.{last_known}
use Rattle.mora_law.specs.Legal.{Legal}
use Rattle.run_core.specs.declared.event.Event.TheVariants.{Publish}
use Rattle.run_core.specs.Hand.{draft, marked, reads_of, hand_end}
use Rattle.run_core.specs.State.{IsAt, count_of, known_by, steps_of}
use Rattle.run_core.specs.Effects.{draft_by, shown, after_publish}
use Rattle.run_core.specs.Makes.{CanPublish}
use Rattle.run_core.proofs.Numbers.{times_first}

-- what the laws say of seats that may publish: the machine's law, that a stuck hand of a seat that knows the whole list may, and its room
abbrev pub OpenLaw : Type 0
OpenLaw = (s : State) (i : ℕ) (v : Seat) → IsSound s → IsAt s i v → v.known ≡ length s.entries → hand_end s.problem (known_by s v) v.hand ≡ Some Stuck → last_known 0 (reads_of v.hand) ≡ v.known → CanPublish s v

abbrev pub PlaceLaw : Type 0
PlaceLaw = (s : State) (i : ℕ) (v : Seat) → IsSound s → IsAt s i v → CanPublish s v → (length (draft_by s v).reads + length (draft_by s v).terms ≤ count_of s.problem + 1) × (v.known < count_of s.problem)

abbrev pub RoomLaw : Type 0
RoomLaw = (s : State) (i : ℕ) (v : Seat) → IsSound s → IsAt s i v → hand_end s.problem (known_by s v) v.hand ≡ Some Stuck
    → (length (draft_by s v).reads ≤ count_of s.problem) × (length (draft_by s v).terms ≤ count_of s.problem) × (length (draft_by s v).reads + length (draft_by s v).terms ≤ count_of s.problem + 1)

-- a part of a list is no longer
short_part : (n : ℕ) (l : List Entry) → length (take n l) ≤ length l
short_part zero l = omega arith
short_part (suc n) [] = omega arith
short_part (suc n) (x ∷ l) = let r = short_part n l in omega (arith, r)

-- what begins a list begins a longer one
pub begins_more : (l m : List Entry) (x : Entry) → Begins l m → Begins l (m ++ x ∷ [])
begins_more l m x h = take_front m (x ∷ []) (length l) (let r = short_part (length l) m in omega (arith, r, ap length h)) ∙ h

-- what a seat is told at a load that changes nothing: a chunk has room for the words of what its stuck hand makes
pub roomy : RoomLaw → (p : Setting) (slots id : ℕ) (me : Me) → me.0.setting ≡ p → me.0.seat.numbers ≢ [] → Allows (Kept p) slots id me 0 (λ n. n) (Roomy (step slots 0 0 0 none) me)
roomy law p slots id me is full s k _ at _ =
    let v : View = me.0 in
    let f = fits_now p s k id v at full in
    let now : State = shown_by p k.entries s in
    let made_is : made v ≡ draft_by now v.seat = λ i. draft ((is i).problem) (f.list i) v.seat.hand in (
      v,
      keeps,
      tt,
      kept_view p s k id v v (set s.words 0 (get_or s.words 0 0)) (set-get_or s.words 0 0) at refl refl f,
      (
        refl,
        refl,
        (λ (stuck : IsStuck v).
            let few = law now id v.seat k.sound (at_map seat_of s.views id v at) ((λ i. hand_end ((sym is i).problem) (sym f.list i) v.seat.hand) ∙ stuck.0) in
            subst (λ (q : Setting). FitsChunk q (made v)) (sym is) (subst (FitsChunk p) (sym made_is) (few.0, few.1, omega (arith, few.2, count_words (draft_by now v.seat))))),
      ),
    )

-- what the exchange owes
abbrev TakesHead : Setting → ℕ → ℕ → Me → ℕ → Words → Type 0
TakesHead p slots id me c s =
    (w : View) × (a : table.Act StoredEntry) × table.Valid s.homes me.1 a
    × Kept p (table.stepped s (2 + me.0.seat.known) (either (get_or s.words (2 + me.0.seat.known) 0 == 0) (c + 1) (get_or s.words (2 + me.0.seat.known) 0)) id me.1 w a)
    × Posted (step slots (2 + me.0.seat.known) 0 (c + 1) none) me (get_or s.words (2 + me.0.seat.known) 0) (w, table.carried_after me.1 a)

-- where the head is taken
pub posts_refused : (p : Setting) (slots id : ℕ) (me : Me) (c : ℕ) (s : Words) (k : Kept p s) → me.0.seat.numbers ≢ [] → me.0.seat.known ≤ top p → get_elem? s.views id ≡ some me.0
    → get_or s.words (2 + me.0.seat.known) 0 ≢ 0 → TakesHead p slots id me c s
posts_refused p slots id me c s k some_numbers low at miss =
    let v : View = me.0 in
    let j : ℕ = 2 + v.seat.known in
    let found : ℕ = get_or s.words j 0 in
    let w : View = refused found v in
    let f = fits_now p s k id v at some_numbers in
    let le = known_at p s k id v at in
    let count = k.count in
    let less : v.seat.known < length k.entries = dite (dec_le (length k.entries) v.seat.known) (λ all. absurd (miss (k.blank v.seat.known (omega arith) low))) (λ not. omega arith) in
    let named = k.named v.seat.known (omega arith) in
    let word : set s.words j (either (found == 0) (c + 1) found) ≡ s.words = ap (λ b. set s.words j (either b (c + 1) found)) (ne_eqb found 0 miss) ∙ set-get_or s.words j 0 in (
      w,
      keeps,
      tt,
      kept_view p s k id v w (set s.words j (either (found == 0) (c + 1) found)) word at refl refl
          record {
            setting = f.setting;
            list = f.list;
            chunks = f.chunks;
            draft = f.draft;
            short = f.short;
            taken = (λ d is. let same : found - 1 ≡ d = cc in (less, omega arith));
            reading = f.reading;
            joined = f.joined;
          },
      (refl, (λ hit. absurd (miss hit)), (λ _. refl)),
    )

module _ (laws : Law × OpenLaw × PlaceLaw) (p : Setting) (slots id : ℕ) (me : Me) (c : ℕ) (cs : List ℕ) (s : Words) (k : Kept p s) (is : me.0.setting ≡ p) (full : me.0.seat.numbers ≢ []) (stuck : IsStuck me.0) (chunks : me.0.chunks ≡ c ∷ cs)
    (draft_is : me.0.draft ≡ words_of (made me.0)) (at : get_elem? s.views id ≡ some me.0) (hit : get_or s.words (2 + me.0.seat.known) 0 ≡ 0) where
  -- the word becomes the chunk and 1
  word : either ((get_or s.words (2 + me.0.seat.known) 0) == 0) (c + 1) (get_or s.words (2 + me.0.seat.known) 0) ≡ suc c
  word = ap (λ b. either b (c + 1) (get_or s.words (2 + me.0.seat.known) 0)) (eq-eqb (get_or s.words (2 + me.0.seat.known) 0) 0 hit) ∙ (omega arith)

  -- the seat's view fits
  f : Fits p k.entries k.heads s.words me.0
  f = fits_now p s k id me.0 at full

  -- the seat knows all entries
  all : me.0.seat.known ≡ length k.entries
  all = let le = known_at p s k id me.0 at in let count = k.count in
      dite (dec_le (length k.entries) me.0.seat.known) (λ more. omega arith) (λ less. let n = k.named me.0.seat.known (omega arith) in absurd (omega arith))

  -- its entry is that of the machine's seat
  made_is : made me.0 ≡ draft_by (shown_by p k.entries s) me.0.seat
  made_is = λ i. draft ((is i).problem) (f.list i) me.0.seat.hand

  -- so is its seat afterwards
  seat_is : shown (shown_by p k.entries s) me.0.seat ≡ (posted me.0).seat
  seat_is = λ i. record me.0.seat { known = suc me.0.seat.known; hand = marked me.0.seat.hand; published = me.0.seat.published + steps_of (sym made_is i) }

  -- the machine's seat may publish
  can : CanPublish (shown_by p k.entries s) me.0.seat
  can = laws.1 (shown_by p k.entries s) id me.0.seat k.sound (at_map seat_of s.views id me.0 at) all ((λ i. hand_end ((sym is i).problem) (sym f.list i) me.0.seat.hand) ∙ stuck.0) stuck.1

  -- there is room for the entry in its chunk, and for its head
  place : (length (draft_by (shown_by p k.entries s) me.0.seat).reads + length (draft_by (shown_by p k.entries s) me.0.seat).terms ≤ top p + 1) × (me.0.seat.known < top p)
  place = laws.2 (shown_by p k.entries s) id me.0.seat k.sound (at_map seat_of s.views id me.0 at) can

  -- its words fit into the chunk
  long : length (words_of (made me.0)) ≤ top p + 8
  long = subst (λ (e : Entry). length (words_of e) ≤ top p + 8) (sym made_is) (omega (arith, place.0, count_words (draft_by (shown_by p k.entries s) me.0.seat)))

  -- there is one entry more
  many : length (k.entries ++ made me.0 ∷ []) ≡ suc (length k.entries)
  many = omega (arith, length-append k.entries (made me.0 ∷ []))

  -- and one head
  many_heads : length (k.heads ++ c ∷ []) ≡ suc (length k.entries)
  many_heads = let count = k.count in omega (arith, length-append k.heads (c ∷ []))

  -- the head is a word of the table
  room : (2 + me.0.seat.known) < length s.words
  room = let size = k.size in let z : ℕ = (top p + p.workers) * (top p + 8) in let size' : length s.words ≡ top p + 3 + z = size in omega (arith, size', place.1)

  -- it stands before all bodies
  moves : (d : ℕ) (xs : List ℕ) → Lies s.words (body p d) xs → Lies (set s.words (2 + me.0.seat.known) (suc c)) (body p d) xs
  moves d xs = lies_low p s.words (2 + me.0.seat.known) (suc c) d xs (omega (arith, place.1))

  -- the heads before name what they named
  old_head : (i : ℕ) → i < length k.entries → get_or (k.heads ++ c ∷ []) i 0 ≡ get_or k.heads i 0
  old_head i less = let count = k.count in get_front k.heads (c ∷ []) i (omega arith)

  -- the new head names the seat's chunk
  new_head : get_or (k.heads ++ c ∷ []) me.0.seat.known 0 ≡ c
  new_head = ap (λ (n : ℕ). get_or (k.heads ++ c ∷ []) n 0) (all ∙ sym k.count) ∙ get_last k.heads c

  -- the number goes on with a chunk that nobody had
  next : (posted me.0).chunks ≡ (p.workers + me.0.seat.known) ∷ cs
  next = ap (behind_first (me.0.setting.workers + me.0.seat.known)) chunks ∙ ap (λ (q : Setting). (q.workers + me.0.seat.known) ∷ cs) is

  -- which is the one chunk more that has an owner
  count_held : (d : ℕ) → held d (k.heads ++ c ∷ []) (set s.views id (posted me.0)) ≡ held d k.heads s.views + times d ((p.workers + me.0.seat.known) ∷ [])
  count_held d =
      let t = sum_set (λ (y : View). times d y.chunks) s.views id me.0 (posted me.0) at in
      let a = ap (times d) chunks in
      let b = ap (times d) next in
      let h = times_snoc d c k.heads in
      omega (arith, t, a, b, h, times_first d c cs, times_first d (p.workers + me.0.seat.known) cs)

  -- the other views still fit
  fit_more : (u : View) → u.seat.known ≤ length k.entries → Fits p k.entries k.heads s.words u → Fits p (k.entries ++ made me.0 ∷ []) (k.heads ++ c ∷ []) (set s.words (2 + me.0.seat.known) (suc c)) u
  fit_more u le g = let mn = many in record {
    setting = g.setting;
    list = g.list ∙ sym (take_front k.entries (made me.0 ∷ []) u.seat.known le);
    chunks = g.chunks;
    draft = λ d ds same. moves d u.draft (g.draft d ds same);
    short = g.short;
    taken = λ d same. let t = g.taken d same in let less = t.0 in (omega arith, old_head u.seat.known t.0 ∙ t.1);
    reading = λ r same. let t = g.reading r same in let less = t.0 in (omega arith, old_head r.place t.0 ∙ t.1, moves r.chunk r.words t.2, t.3);
    joined = g.joined;
  }

  -- and so does the seat's own
  fit_posted : Fits p (k.entries ++ made me.0 ∷ []) (k.heads ++ c ∷ []) (set s.words (2 + me.0.seat.known) (suc c)) (posted me.0)
  fit_posted =
      let mn = many in
      let al = all in record {
        setting = f.setting;
        list = ap (λ (l : List Entry). l ++ made me.0 ∷ []) (f.list ∙ take_all k.entries me.0.seat.known all) ∙ sym (take_all (k.entries ++ made me.0 ∷ []) (suc me.0.seat.known) (omega arith));
        chunks = ap length next ∙ sym (ap length chunks) ∙ f.chunks;
        joined = begins_more me.0.joined me.0.list (made me.0) f.joined;
        draft = (λ d ds same n less. absurd (omega arith));
        short = omega arith;
        taken = (λ d same. absurd (cc));
        reading = (λ r same. let t = f.reading r same in let less = t.0 in (omega arith, old_head r.place t.0 ∙ t.1, moves r.chunk r.words t.2, t.3));
      }

  -- each head names the chunk of its entry
  named_more : (i : ℕ) → i < length (k.heads ++ c ∷ []) → get_or (set s.words (2 + me.0.seat.known) (suc c)) (2 + i) 0 ≡ suc (get_or (k.heads ++ c ∷ []) i 0)
  named_more i less =
      let al = all in
      let mh = many_heads in
      let count = k.count in
      dite (ℕ_discrete i me.0.seat.known)
      (λ here. subst (λ (n : ℕ). get_or (set s.words (2 + me.0.seat.known) (suc c)) (2 + n) 0 ≡ suc (get_or (k.heads ++ c ∷ []) n 0)) (sym here) (get_or-set_same s.words (2 + me.0.seat.known) (suc c) 0 room ∙ ap suc (sym new_head)))
      (λ other. let less' : i < length k.heads = omega arith in get_or-set_other s.words (2 + me.0.seat.known) (2 + i) (suc c) 0 (λ same. other (omega arith)) ∙ k.named i less' ∙ ap suc (sym (old_head i (omega arith))))

  -- no chunk has two owners
  apart_more : (d : ℕ) → held d (k.heads ++ c ∷ []) (set s.views id (posted me.0)) ≤ 1
  apart_more d =
      let al = all in
      let h = count_held d in
      let a = k.apart d in
      let b = k.bound d in
      ⊎_elim
      (λ (t : (d ≡ p.workers + me.0.seat.known) × (times d ((p.workers + me.0.seat.known) ∷ []) ≡ 1)).
      let n = t.0 in
      let o = t.1 in
      dite (dec_le 1 (held d k.heads s.views)) (λ some_held. let x = b (omega arith) in absurd (omega arith)) (λ none_held. omega arith))
      (λ t. let o = t.1 in omega arith)
      (times_one d (p.workers + me.0.seat.known))

  -- each is one of the first
  bound_more : (d : ℕ) → 0 < held d (k.heads ++ c ∷ []) (set s.views id (posted me.0)) → d < p.workers + length (k.entries ++ made me.0 ∷ [])
  bound_more d some_held =
      let al = all in
      let mn = many in
      let h = count_held d in
      let b = k.bound d in
      ⊎_elim
      (λ (t : (d ≡ p.workers + me.0.seat.known) × (times d ((p.workers + me.0.seat.known) ∷ []) ≡ 1)). let n = t.0 in omega arith)
      (λ t. let o = t.1 in let x = b (omega arith) in omega arith)
      (times_one d (p.workers + me.0.seat.known))

  -- the words of each entry lie in its chunk
  spelled_more : (i : ℕ) (x : Entry) → get_elem? (k.entries ++ made me.0 ∷ []) i ≡ some x
      → Lies (set s.words (2 + me.0.seat.known) (suc c)) (body p (get_or (k.heads ++ c ∷ []) i 0)) (words_of x) × (length (words_of x) ≤ top p + 8)
  spelled_more i x there = ⊎_elim
      (λ old.
      let t = k.spelled i x old in
      let less = below k.entries i x old in
      (subst (λ (n : ℕ). Lies (set s.words (2 + me.0.seat.known) (suc c)) (body p n) (words_of x)) (sym (old_head i less)) (moves (get_or k.heads i 0) (words_of x) t.0), t.1))
      (λ (last : (i ≡ length k.entries) × (made me.0 ≡ x)).
      let here : get_or (k.heads ++ c ∷ []) i 0 ≡ c = ap (λ (n : ℕ). get_or (k.heads ++ c ∷ []) n 0) (last.0 ∙ sym all) ∙ new_head in
      let lies : Lies s.words (body p c) (words_of (made me.0)) = subst (Lies s.words (body p c)) draft_is (f.draft c cs chunks) in
      subst (λ (y : Entry). Lies (set s.words (2 + me.0.seat.known) (suc c)) (body p (get_or (k.heads ++ c ∷ []) i 0)) (words_of y) × (length (words_of y) ≤ top p + 8)) last.1
      (subst (λ (n : ℕ). Lies (set s.words (2 + me.0.seat.known) (suc c)) (body p n) (words_of (made me.0))) (sym here) (moves c (words_of (made me.0)) lies), long))
      (at_snoc k.entries (made me.0) x i there)

  -- the state is that after the event Publish, which is sound
  sound_more : IsSound (shown_by p (k.entries ++ made me.0 ∷ []) (record { words = set s.words (2 + me.0.seat.known) (suc c); homes = s.homes; views = set s.views id (posted me.0) }))
  sound_more = subst IsSound (λ i. record {
    problem = p.problem;
    workers = p.workers;
    entries = (k.entries ++ (sym made_is i) ∷ []);
    corner = sym (get_or-set_other s.words (2 + me.0.seat.known) 0 (suc c) 0 (λ same. omega arith)) i;
    ticket = sym (get_or-set_other s.words (2 + me.0.seat.known) 1 (suc c) 0 (λ same. omega arith)) i;
    seats = (ap (set (map seat_of s.views) id) seat_is ∙ sym (map-set seat_of s.views id (posted me.0))) i;
  }) (laws.0 (shown_by p k.entries s) (after_publish (shown_by p k.entries s) id me.0.seat) id Publish k.sound (me.0.seat, at_map seat_of s.views id me.0 at, can, refl))

  -- the rule holds afterwards
  kept : Kept p (record { words = set s.words (2 + me.0.seat.known) (suc c); homes = s.homes; views = set s.views id (posted me.0) })
  kept =
      let few = k.few in
      let al = all in
      let mn = many in
      let mh = many_heads in
      let lw = place.1 in
      let count = k.count in
      record {
        entries = (k.entries ++ made me.0 ∷ []);
        heads = (k.heads ++ c ∷ []);
        size = length-set s.words (2 + me.0.seat.known) (suc c) ∙ k.size;
        few = omega arith;
        count = omega arith;
        named = named_more;
        blank = λ i le top. get_or-set_other s.words (2 + me.0.seat.known) (2 + i) (suc c) 0 (λ same. omega arith) ∙ k.blank i (omega arith) top;
        apart = apart_more;
        bound = bound_more;
        spelled = spelled_more;
        views = λ i u there. ⊎_elim
            (λ (t : (i ≡ id) × ((posted me.0) ≡ u)). inr (subst (Fits p (k.entries ++ made me.0 ∷ []) (k.heads ++ c ∷ []) (set s.words (2 + me.0.seat.known) (suc c))) t.1 fit_posted))
            (λ (t : (i ≢ id) × (get_elem? s.views i ≡ some u)). ⊎_elim (λ spent. inl spent) (λ g. inr (fit_more u (known_at p s k i u t.1) g)) (k.views i u t.1))
            (at_set s.views id i (posted me.0) u there);
        sound = sound_more;
      }

  -- the list is legal
  legal : Legal me.0.setting.problem (posted me.0).list
  legal = subst (λ (x : Setting × List Entry). Legal x.0.problem x.1) (λ i. (sym is i, sym (f.list ∙ take_all k.entries me.0.seat.known all) i ++ made me.0 ∷ [])) sound_more.legal

  -- where the head is empty
  pub posts_taken : TakesHead p slots id me c s
  posts_taken = (
    posted me.0,
    keeps,
    tt,
    subst (λ (n : ℕ). Kept p (record { words = set s.words (2 + me.0.seat.known) n; homes = s.homes; views = set s.views id (posted me.0) })) (sym word) kept,
    (refl, (λ _. (refl, subst (λ (q : Setting). me.0.seat.known < top q) (sym is) place.1, legal)), (λ miss. absurd (miss hit))),
  )

-- the exchange of the head behind the known entries
pub posts : Law × OpenLaw × PlaceLaw → (p : Setting) (slots id : ℕ) (me : Me) (c : ℕ) (cs : List ℕ) → me.0.setting ≡ p → me.0.seat.numbers ≢ [] → IsStuck me.0 → me.0.chunks ≡ c ∷ cs → me.0.seat.known ≤ top p
    → me.0.draft ≡ words_of (made me.0) → Allows (Kept p) slots id me (2 + me.0.seat.known) (λ n. either (n == 0) (c + 1) n) (Posted (step slots (2 + me.0.seat.known) 0 (c + 1) none) me)
posts laws p slots id me c cs is full stuck chunks low draft_is s k _ at _ = dite (ℕ_discrete (get_or s.words (2 + me.0.seat.known) 0) 0)
    (λ hit. posts_taken laws p slots id me c cs s k is full stuck chunks draft_is at hit)
    (λ miss. posts_refused p slots id me c s k full low at miss)
