-- What a step keeps of the rule where it changes one word or none, and one view.
-- The other views fit as before; the parts of the rule that the step doesn't reach are those of before.
use Rattle.std.proofs.Common.{◌≡◌, ◌≢◌, ◌⊎◌, ℕ, zero, suc, ◌+◌, ◌*◌, ◌<◌, ◌≤◌, List, [], ◌∷◌, length, map, take, set, get_or, sym, ap, ◌∙◌, subst, inl, inr, ⊎_elim, arith, get_or-set_other, length-set}
use mathlib.Core.Option.{some, some-ne-none}
use lib.ListN.{get_elem?}
use lib.Seq.{map-set}
use Rattle.atomic_table.proofs.Lists.{at_set, at_map, set_again}
use Rattle.entry_code.specs.Entry.{Entry}
use Rattle.entry_code.specs.Words.{words_of}
use Rattle.run_core.specs.declared.event.Event.{Event}
use Rattle.run_core.specs.State.{Seat, State, times}
use Rattle.run_core.specs.Sound.{IsSound}
use Rattle.run_core.specs.Makes.{Makes}
use Rattle.run_core.proofs.Places.{sum_set}
use Rattle.reducer_list.specs.View.{Setting, View, top}
use Rattle.reducer_list.specs.Rule.{Words, body, Lies, seat_of, core, Fits, held, Kept}
use Rattle.reducer_list.specs.Steps.{with_seat}
use Rattle.reducer_list.proofs.Bodies.{times_here, lies_low}

-- what the law of the machine says: every event keeps states sound
abbrev pub Law : Type 0
Law = (s : State) (t : State) (i : ℕ) (e : Event) → IsSound s → Makes e s i t → IsSound t

-- a view fits over other words where bodies that it or a head has are as before
pub fits_moved : (p : Setting) (entries : List Entry) (heads words new : List ℕ) (v : View) → length heads ≡ length entries
    → ((d : ℕ) (xs : List ℕ) → length xs ≤ top p + 8 → (0 < times d v.chunks) ⊎ (0 < times d heads) → Lies words (body p d) xs → Lies new (body p d) xs)
    → Fits p entries heads words v → Fits p entries heads new v
fits_moved p entries heads words new v count moves f = record {
  setting = f.setting;
  list = f.list;
  chunks = f.chunks;
  draft = λ c cs is. moves c v.draft f.short (inl (subst (λ (l : List ℕ). 0 < times c l) (sym is) (first c cs))) (f.draft c cs is);
  short = f.short;
  taken = f.taken;
  reading = λ r is. let t = f.reading r is in let less = t.0 in (t.0, t.1, moves r.chunk r.words t.3 (inr (subst (λ (n : ℕ). 0 < times n heads) t.1 (times_here heads r.place (omega arith)))) t.2, t.3);
  joined = f.joined;
}
  where
    first : (c : ℕ) (cs : List ℕ) → 0 < times c (c ∷ cs)
    first c cs = times_here (c ∷ cs) 0 (omega arith)

-- the place of an entry is within the list
pub below : (es : List Entry) (i : ℕ) (e : Entry) → get_elem? es i ≡ some e → i < length es
below [] i e h = absurd (some-ne-none e (sym h))
below (x ∷ xs) zero e h = omega arith
below (x ∷ xs) (suc i) e h = let r = below xs i e h in omega arith

-- a step that changes no word, by a seat that stays the same seat with the same chunks
pub kept_view : (p : Setting) (s : Words) (k : Kept p s) (id : ℕ) (v w : View) (new : List ℕ) → new ≡ s.words → get_elem? s.views id ≡ some v → w.seat ≡ v.seat → w.chunks ≡ v.chunks → Fits p k.entries k.heads s.words w
    → Kept p (record { words = new; homes = s.homes; views = set s.views id w })
kept_view p s k id v w new is at seat chunks fits = subst (λ (ws : List ℕ). Kept p (record { words = ws; homes = s.homes; views = set s.views id w })) (sym is)
    record {
      entries = k.entries;
      heads = k.heads;
      size = k.size;
      few = k.few;
      count = k.count;
      named = k.named;
      blank = k.blank;
      apart = λ c. subst (λ (n : ℕ). n ≤ 1) (sym (same c)) (k.apart c);
      bound = λ c some_held. k.bound c (subst (λ (n : ℕ). 0 < n) (same c) some_held);
      spelled = k.spelled;
      views = λ i u e. ⊎_elim
          (λ (t : (i ≡ id) × (w ≡ u)). inr (subst (Fits p k.entries k.heads s.words) t.1 fits))
          (λ (t : (i ≢ id) × (get_elem? s.views i ≡ some u)). k.views i u t.1)
          (at_set s.views id i w u e);
      sound = subst (λ (l : List Seat). IsSound (record { problem = p.problem; workers = p.workers; entries = k.entries; corner = get_or s.words 0 0; ticket = get_or s.words 1 0; seats = l })) seats_are k.sound;
    }
  where
    same : (c : ℕ) → held c k.heads (set s.views id w) ≡ held c k.heads s.views
    same c = let t = sum_set (λ (y : View). times c y.chunks) s.views id v w at in let e = ap (times c) chunks in omega arith

    seats_are : map seat_of s.views ≡ map seat_of (set s.views id w)
    seats_are = sym (set_again (map seat_of s.views) id v.seat (at_map seat_of s.views id v at)) ∙ ap (set (map seat_of s.views) id) (sym seat) ∙ sym (map-set seat_of s.views id w)

-- a view that has numbers fits
pub fits_now : (p : Setting) (s : Words) (k : Kept p s) (id : ℕ) (v : View) → get_elem? s.views id ≡ some v → v.seat.numbers ≢ [] → Fits p k.entries k.heads s.words v
fits_now p s k id v at some_numbers = ⊎_elim (λ spent. absurd (some_numbers spent.0)) (λ f. f) (k.views id v at)

-- a list of one number has a number
pub one_number : (ns : List ℕ) → length ns ≡ 1 → ns ≢ []
one_number ns one e = let z : length ns ≡ 0 = ap length e in omega arith

-- a seat knows at most the list
pub known_at : (p : Setting) (s : Words) (k : Kept p s) (id : ℕ) (v : View) → get_elem? s.views id ≡ some v → v.seat.known ≤ length k.entries
known_at p s k id v at = (k.sound.seats id v.seat (at_map seat_of s.views id v at)).known

-- a step on word 0 or 1, by a seat that keeps its numbers, its chunks and what it knows
pub kept_core : (p : Setting) (s : Words) (k : Kept p s) (id : ℕ) (v : View) (u : Seat) (j x : ℕ) → get_elem? s.views id ≡ some v → v.seat.numbers ≢ [] → u.numbers ≡ v.seat.numbers → u.known ≡ v.seat.known → j < 2
    → IsSound (core p k.entries (get_or (set s.words j x) 0 0) (get_or (set s.words j x) 1 0) (set s.views id (with_seat v u)))
    → Kept p (record { words = set s.words j x; homes = s.homes; views = set s.views id (with_seat v u) })
kept_core p s k id v u j x at some_numbers numbers known low sound =
    let count = k.count in
    let f = fits_now p s k id v at some_numbers in
    record {
      entries = k.entries;
      heads = k.heads;
      size = length-set s.words j x ∙ k.size;
      few = k.few;
      count = k.count;
      named = λ i less. get_or-set_other s.words j (2 + i) x 0 (λ e. omega arith) ∙ k.named i less;
      blank = λ i le top. get_or-set_other s.words j (2 + i) x 0 (λ e. omega arith) ∙ k.blank i le top;
      apart = λ c. subst (λ (n : ℕ). n ≤ 1) (sym (same c)) (k.apart c);
      bound = λ c some_held. k.bound c (subst (λ (n : ℕ). 0 < n) (same c) some_held);
      spelled = λ i e there. let t = k.spelled i e there in (lies_low p s.words j x (get_or k.heads i 0) (words_of e) (omega arith) t.0, t.1);
      views = λ i y e. ⊎_elim
          (λ (t : (i ≡ id) × (with_seat v u ≡ y)). inr (subst (Fits p k.entries k.heads (set s.words j x)) t.1 (fits_moved p k.entries k.heads s.words (set s.words j x) (with_seat v u) k.count (λ d xs _ _ l. moves d xs l) (fits_core f))))
          (λ (t : (i ≢ id) × (get_elem? s.views i ≡ some y)). ⊎_elim (λ spent. inl spent) (λ g. inr (fits_moved p k.entries k.heads s.words (set s.words j x) y k.count (λ d xs _ _ l. moves d xs l) g)) (k.views i y t.1))
          (at_set s.views id i (with_seat v u) y e);
      sound = sound;
    }
  where
    same : (c : ℕ) → held c k.heads (set s.views id (with_seat v u)) ≡ held c k.heads s.views
    same c = let t = sum_set (λ (y : View). times c y.chunks) s.views id v (with_seat v u) at in omega arith

    moves : (d : ℕ) (xs : List ℕ) → Lies s.words (body p d) xs → Lies (set s.words j x) (body p d) xs
    moves d xs = lies_low p s.words j x d xs (omega arith)

    fits_core : Fits p k.entries k.heads s.words v → Fits p k.entries k.heads s.words (with_seat v u)
    fits_core f = record {
      setting = f.setting;
      list = f.list ∙ ap (λ (n : ℕ). take n k.entries) (sym known);
      chunks = f.chunks ∙ ap length (sym numbers);
      draft = f.draft;
      short = f.short;
      taken = λ c is. subst (λ (n : ℕ). (n < length k.entries) × (get_or k.heads n 0 ≡ c)) (sym known) (f.taken c is);
      reading = f.reading;
      joined = f.joined;
    }

-- the machine's state after such a step
pub sound_core : (p : Setting) (s : Words) (k : Kept p s) (id : ℕ) (v : View) (u : Seat) (corner ticket : ℕ) (new : List ℕ) → get_or new 0 0 ≡ corner → get_or new 1 0 ≡ ticket
    → IsSound (record { problem = p.problem; workers = p.workers; entries = k.entries; corner = corner; ticket = ticket; seats = set (map seat_of s.views) id u })
    → IsSound (core p k.entries (get_or new 0 0) (get_or new 1 0) (set s.views id (with_seat v u)))
sound_core p s k id v u corner ticket new first second ok = subst IsSound (λ i. record {
  problem = p.problem;
  workers = p.workers;
  entries = k.entries;
  corner = sym first i;
  ticket = sym second i;
  seats = sym (map-set seat_of s.views id (with_seat v u)) i;
}) ok

-- there are at least two words
pub two_words : (p : Setting) (s : Words) (k : Kept p s) → 1 < length s.words
two_words p s k = let n = k.size in let z : ℕ = (top p + p.workers) * (top p + 8) in let n' : length s.words ≡ top p + 3 + z = n in omega arith

-- a step that changes no word, by a seat that keeps its chunks
pub kept_sound : (p : Setting) (s : Words) (k : Kept p s) (id : ℕ) (v w : View) (new : List ℕ) → new ≡ s.words → get_elem? s.views id ≡ some v → w.chunks ≡ v.chunks → Fits p k.entries k.heads s.words w
    → IsSound (core p k.entries (get_or s.words 0 0) (get_or s.words 1 0) (set s.views id w)) → Kept p (record { words = new; homes = s.homes; views = set s.views id w })
kept_sound p s k id v w new is at chunks fits sound = subst (λ (ws : List ℕ). Kept p (record { words = ws; homes = s.homes; views = set s.views id w })) (sym is)
    record {
      entries = k.entries;
      heads = k.heads;
      size = k.size;
      few = k.few;
      count = k.count;
      named = k.named;
      blank = k.blank;
      apart = λ c. subst (λ (n : ℕ). n ≤ 1) (sym (same c)) (k.apart c);
      bound = λ c some_held. k.bound c (subst (λ (n : ℕ). 0 < n) (same c) some_held);
      spelled = k.spelled;
      views = λ i u e. ⊎_elim
          (λ (t : (i ≡ id) × (w ≡ u)). inr (subst (Fits p k.entries k.heads s.words) t.1 fits))
          (λ (t : (i ≢ id) × (get_elem? s.views i ≡ some u)). k.views i u t.1)
          (at_set s.views id i w u e);
      sound = sound;
    }
  where
    same : (c : ℕ) → held c k.heads (set s.views id w) ≡ held c k.heads s.views
    same c = let t = sum_set (λ (y : View). times c y.chunks) s.views id v w at in let e = ap (times c) chunks in omega arith
