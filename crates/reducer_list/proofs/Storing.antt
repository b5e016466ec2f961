-- A store into the own unpublished chunk changes no word of a body that anybody reads, and nothing of the machine.
-- No other seat and no head has that chunk.
use Rattle.std.proofs.Common.{◌≡◌, ◌≢◌, ◌⊎◌, ℕ, ◌+◌, ◌-◌, ◌<◌, ◌≤◌, List, [], ◌∷◌, length, map, take, set, get_or, refl, sym, ap, ◌∙◌, subst, inl, inr, ⊎_elim, arith, get_or-set_other, length-set, length-append}
use mathlib.Core.Option.{some, none}
use lib.ListN.{get_elem?}
use lib.Seq.{map-set}
use Rattle.atomic_table.specs.Table.{step, keeps, Allows}
use Rattle.atomic_table.proofs.Lists.{at_set, at_map, set_again}
use Rattle.entry_code.specs.Words.{words_of}
use Rattle.run_core.specs.State.{times}
use Rattle.run_core.specs.Sound.{IsSound}
use Rattle.run_core.proofs.Places.{sum_set, sum_one, sum_two}
use Rattle.run_core.proofs.Numbers.{has_first}
use Rattle.reducer_list.specs.View.{Setting, View, top}
use Rattle.reducer_list.specs.Rule.{Words, body, Lies, seat_of, core, Fits, IsSpent, held, Kept}
use Rattle.reducer_list.specs.Steps.{Me, first_chunk, stored, Stored}
use Rattle.reducer_list.proofs.Bodies.{lies_elsewhere, lies_more, length_take, inside, times_here}
use Rattle.reducer_list.proofs.Frames.{fits_moved, below}

-- a step on a word of a body, by a seat that stays the same seat with the same chunks
pub kept_moved : (p : Setting) (s : Words) (k : Kept p s) (id : ℕ) (v w : View) (j x : ℕ) → get_elem? s.views id ≡ some v → w.seat ≡ v.seat → w.chunks ≡ v.chunks → top p + 3 ≤ j
    → ((d : ℕ) (xs : List ℕ) → length xs ≤ top p + 8 → (0 < times d k.heads) ⊎ ((i : ℕ) × (u : View) × (i ≢ id) × (get_elem? s.views i ≡ some u) × (0 < times d u.chunks)) → Lies s.words (body p d) xs → Lies (set s.words j x) (body p d) xs)
    → Fits p k.entries k.heads (set s.words j x) w
    → Kept p (record { words = set s.words j x; homes = s.homes; views = set s.views id w })
kept_moved p s k id v w j x at seat chunks high moves fits =
    let new : List ℕ = set s.words j x in
    let few = k.few in
    let count = k.count in
    let same : (c : ℕ) → held c k.heads (set s.views id w) ≡ held c k.heads s.views = λ c. let t = sum_set (λ (y : View). times c y.chunks) s.views id v w at in let e = ap (times c) chunks in omega arith in
    record {
      entries = k.entries;
      heads = k.heads;
      size = length-set s.words j x ∙ k.size;
      few = k.few;
      count = k.count;
      named = λ i less. get_or-set_other s.words j (2 + i) x 0 (λ e. omega arith) ∙ k.named i less;
      blank = λ i le top. get_or-set_other s.words j (2 + i) x 0 (λ e. omega arith) ∙ k.blank i le top;
      apart = λ c. subst (λ (n : ℕ). n ≤ 1) (sym (same c)) (k.apart c);
      bound = λ c some_held. k.bound c (subst (λ (n : ℕ). 0 < n) (same c) some_held);
      spelled = λ i e there. let t = k.spelled i e there in let less = below k.entries i e there in (moves (get_or k.heads i 0) (words_of e) t.1 (inl (times_here k.heads i (omega arith))) t.0, t.1);
      views = λ i u e. ⊎_elim
          (λ (t : (i ≡ id) × (w ≡ u)). inr (subst (Fits p k.entries k.heads new) t.1 fits))
          (λ (t : (i ≢ id) × (get_elem? s.views i ≡ some u)). ⊎_elim
          (λ spent. inl spent)
          (λ f. inr (fits_moved p k.entries k.heads s.words new u k.count (λ d xs short has lies. moves d xs short (⊎_elim (λ mine. inr (i, u, t.0, t.1, mine)) (λ head. inl head) has) lies) f))
          (k.views i u t.1))
          (at_set s.views id i w u e);
      sound = subst IsSound (sound_same new) k.sound;
    }
  where
    sound_same : (new : List ℕ) → core p k.entries (get_or s.words 0 0) (get_or s.words 1 0) s.views ≡ core p k.entries (get_or (set s.words j x) 0 0) (get_or (set s.words j x) 1 0) (set s.views id w)
    sound_same new = λ i. record {
      problem = p.problem;
      workers = p.workers;
      entries = k.entries;
      corner = sym (get_or-set_other s.words j 0 x 0 (λ e. omega arith)) i;
      ticket = sym (get_or-set_other s.words j 1 x 0 (λ e. omega arith)) i;
      seats = seats_are i;
    }
      where
        seats_are : map seat_of s.views ≡ map seat_of (set s.views id w)
        seats_are = sym (set_again (map seat_of s.views) id v.seat (at_map seat_of s.views id v at)) ∙ ap (set (map seat_of s.views) id) (sym seat) ∙ sym (map-set seat_of s.views id w)

-- one word stored in a chunk that is the seat's own
pub puts : (p : Setting) (slots id : ℕ) (me : Me) (c : ℕ) (cs : List ℕ) (k x : ℕ) → me.0.setting ≡ p → me.0.chunks ≡ c ∷ cs → c < top p + p.workers → k ≤ length me.0.draft → k < top p + 8
    → Allows (Kept p) slots id me (body p c + k) (λ _. x) (λ _. Stored (step slots (body p c + k) x 0 none) me x)
puts p slots id me c cs k x is chunks within le small s kept _ at _ =
    let v : View = me.0 in
    let w : View = stored k x v in
    let j : ℕ = body p c + k in
    let f = fits_of (kept.views id v at) in
    let few = kept.few in
    let room : body p c + k < length s.words = subst (λ (n : ℕ). body p c + k < n) (sym kept.size) (inside p c k within small) in
    let place : j - body v.setting (first_chunk v.chunks) ≡ k = ap (λ (n : ℕ). j - n) (λ i. body (is i) (first_chunk (chunks i))) ∙ (omega arith) in (
      w,
      keeps,
      tt,
      kept_moved p s kept id v w j x at refl refl (omega arith)
          (λ d xs short other lies. lies_elsewhere p s.words c d k x xs (apart d other) small short lies)
          record {
            setting = f.setting;
            list = f.list;
            chunks = f.chunks;
            draft = (λ d ds e. let same : d ≡ c = heads_same d ds e in subst (λ (n : ℕ). Lies (set s.words j x) (body p n) w.draft) (sym same) (lies_more s.words (body p c) k x v.draft le room (f.draft c cs chunks)));
            short = omega (arith, length-append (take k v.draft) (x ∷ []), length_take v.draft k le);
            taken = f.taken;
            joined = f.joined;
            reading = (λ r e. let t = f.reading r e in let count = kept.count in let less = t.0 in (t.0, t.1, lies_elsewhere p s.words c r.chunk k x r.words (apart r.chunk (inl (subst (λ (n : ℕ). 0 < times n kept.heads) t.1 (times_here kept.heads r.place (omega arith))))) small t.3 t.2, t.3));
          },
      (refl, ap (λ (n : ℕ). stored n x v) (sym place)),
    )
  where
    fits_of : IsSpent me.0 ⊎ Fits p kept.entries kept.heads s.words me.0 → Fits p kept.entries kept.heads s.words me.0
    fits_of = ⊎_elim (λ spent. absurd (absent spent.1)) (λ f. f)
      where
        absent : me.0.chunks ≡ [] → ⊥
        absent e = absurd (cc)

    heads_same : (d : ℕ) (ds : List ℕ) → me.0.chunks ≡ d ∷ ds → d ≡ c
    heads_same d ds e = ap first_chunk (sym e ∙ chunks)

    -- another chunk is another number
    apart : (d : ℕ) → (0 < times d kept.heads) ⊎ ((i : ℕ) × (u : View) × (i ≢ id) × (get_elem? s.views i ≡ some u) × (0 < times d u.chunks)) → c ≢ d
    apart d other same = ⊎_elim
        (λ (head : 0 < times d kept.heads). let t = sum_one (λ (y : View). times d y.chunks) s.views id me.0 at in let m = mine d same in let a = kept.apart d in absurd (omega arith))
        (λ (o : (i : ℕ) × (u : View) × (i ≢ id) × (get_elem? s.views i ≡ some u) × (0 < times d u.chunks)).
        let t = sum_two (λ (y : View). times d y.chunks) s.views o.0 id o.1 me.0 o.2 o.3 at in let m = mine d same in let a = kept.apart d in let has = o.4 in absurd (omega arith))
        other
      where
        mine : (d : ℕ) → c ≡ d → 0 < times d me.0.chunks
        mine d same = subst (λ (l : List ℕ). 0 < times d l) (sym chunks) (subst (λ (n : ℕ). 0 < times d (n ∷ cs)) (sym same) (has_first d cs))
