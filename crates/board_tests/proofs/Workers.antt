-- The views of a worker at the eight monomials, from its ticket to its published entry.
-- Each step is an equation of views, by which what is known of the one before is carried over.
use Rattle.std.proofs.Common.{◌≡◌, ℕ, zero, suc, ◌-◌, ◌<◌, ◌≤◌, Bool, true, false, not, ◌&&◌, List, [], ◌∷◌, ◌++◌, length, Option, Some, None, refl, sym, ap, ◌∙◌, subst, arith, length-append}
use Rattle.std.specs.Prelude.{All, get_or, nat_le, if◌then◌else◌}
use Rattle.std.specs.List.{range_with_len}
use Rattle.std.proofs.lemmas.List.Elements.{All-append}
use Rattle.std.proofs.lemmas.List.FromFn.{length-range_with_len}
use Rattle.sparse_poly.specs.Ideal.{Problem}
use Rattle.entry_code.specs.declared.reading.Reading.{Reading}
use Rattle.entry_code.specs.Entry.{Entry}
use Rattle.entry_code.specs.Words.{words_of}
use Rattle.mora_law.specs.declared.step_end.StepEnd.{StepEnd}
use Rattle.mora_law.specs.declared.step_end.StepEnd.TheVariants.{Stuck}
use Rattle.mora_law.specs.Entries.{corner}
use Rattle.mora_law.specs.Examples.{reading}
use Rattle.mora_law.specs.Items.{item_for}
use Rattle.mora_law.specs.Run.{last_known}
use Rattle.mora_law.specs.Tickets.{total}
use Rattle.run_core.specs.Effects.{rested}
use Rattle.run_core.specs.Hand.{Hand, hand_of, end_of, is_open, is_skipped, is_zero, has_open, but_stuck, more_reads, read, draft, marked, hand_end, reads_of}
use Rattle.run_core.specs.State.{highest, without}
use Rattle.reducer_list.specs.View.{View, is_busy}
use Rattle.reducer_list.specs.Steps.{IsStuck, made, posted, cornered, learnt_view, looked, left_half, right_half}
use Rattle.reducer_list.specs.Calls.{HasSeen, HasSeenTaken, HasPublished}
use Rattle.reducer_list.specs.declared.answers.Publish.{Publish}
use Rattle.reducer_list.specs.declared.answers.Publish.TheVariants.{Published, Longer}
use Rattle.reducer_list.specs.declared.answers.Look.{Look}
use Rattle.reducer_list.specs.declared.answers.Look.TheVariants.{Nothing, Learnt}
use Rattle.board_tests.specs.Rows.{Sits, HasLearnt}
use Rattle.board_tests.specs.Cubics.{cubics, one_reading, hand_with, cubic_entry, IsOther, HasNumbers, AreFew, Works, HasRead, HasPosted, HasTriedAt}
use Rattle.board_tests.proofs.Monomials.{corner_is, stuck, begun, draft_is, opened}

-- the numbers without the greatest
lowered : (k : ℕ) → 1 < k → k ≤ 8 → without (highest (range_with_len 0 k)) (range_with_len 0 k) ≡ range_with_len 0 (k - 1)
lowered zero l m = absurd (omega (arith, l))
lowered (suc zero) l m = absurd (omega (arith, l))
lowered (suc (suc zero)) l m = refl
lowered (suc (suc (suc zero))) l m = refl
lowered (suc (suc (suc (suc zero)))) l m = refl
lowered (suc (suc (suc (suc (suc zero))))) l m = refl
lowered (suc (suc (suc (suc (suc (suc zero)))))) l m = refl
lowered (suc (suc (suc (suc (suc (suc (suc zero))))))) l m = refl
lowered (suc (suc (suc (suc (suc (suc (suc (suc zero)))))))) l m = refl
lowered (suc (suc (suc (suc (suc (suc (suc (suc (suc n))))))))) l m = absurd (omega (arith, m))

-- a seat that did nothing yet has no open hand
pub idle_shut : (k : ℕ) (v : View) → HasNumbers k v → is_busy v ≡ false
idle_shut k v h = λ i. has_open v.setting.problem v.list (h.hand i)

-- it has so many numbers
pub count_numbers : (k : ℕ) (v : View) → HasNumbers k v → length v.seat.numbers ≡ k
count_numbers k v h = ap length h.numbers ∙ length-range_with_len 0 k

-- the half that stays has the lower numbers
pub left_has : (k : ℕ) (v w : View) → 1 < k → k ≤ 8 → HasNumbers k v → w ≡ left_half v → HasNumbers (k - 1) w
left_has k v w l m h e = subst (HasNumbers (k - 1)) (sym e) record {
  list = h.list;
  known = h.known;
  hand = h.hand;
  numbers = ap (λ (ns : List ℕ). without (highest ns) ns) h.numbers ∙ lowered k l m;
}

-- the other half has one
pub right_sits : (k : ℕ) (v w : View) → HasNumbers k v → w ≡ right_half v → Sits [] None w
right_sits k v w h e = subst (Sits [] None) (sym e) record { list = h.list; count = h.known; hand = refl; one = refl }

-- a seat that won the ticket of a generator works at it
pub works_at : (t : ℕ) (v : View) → t < 8 → Sits [] (Some (hand_of t)) v → Works t v
works_at t v low s = record {
  low = low;
  others = subst (All (IsOther t)) (sym s.list) (λ k d l. absurd (omega (arith, l)));
  count = s.count ∙ ap length (sym s.list);
  one = s.one;
  reads = [];
  few = tt;
  hand = s.hand;
}

module _ (t : ℕ) (v : View) (is : v.setting.problem ≡ cubics) (works : Works t v) where
  -- how its run ends, if it has a reading
  ended : (reads : List Reading) → AreFew (length v.list) reads → (e : Option StepEnd) × (end_of cubics v.list t reads ≡ e) × (is_zero e ≡ false) × (but_stuck e reads ≡ [])
  ended [] few = (None, begun t works.low v.list works.others, refl, refl)
  ended (d ∷ []) few = (Some Stuck, ap (λ (r : Reading). end_of cubics v.list t (r ∷ [])) this ∙ stuck t works.low v.list works.others d.known few.0, refl, refl)
    where
      this : d ≡ reading d.known 20
      this = λ i. record { known = d.known; corner = few.1 i }
  ended (d ∷ e ∷ ds) few = absurd few

  -- its hand is open
  pub works_busy : is_busy v ≡ true
  works_busy = let x = ended works.reads works.few in (λ i. has_open (is i) v.list (works.hand i)) ∙ opened t works.low v.list works.others works.reads x.0 x.1 x.2

  -- its own corner is 20
  pub works_own : 20 ≡ corner v.setting.problem v.list
  works_own = sym ((λ i. corner (is i) v.list) ∙ corner_is t works.low v.list works.others)

  -- a reading of that corner is its only one
  one_more : (n : ℕ) → more_reads cubics v.list (hand_with t works.reads) (reading n 20) ≡ one_reading n
  unfolding more_reads
  one_more n = let x = ended works.reads works.few in ap (λ (e : Option StepEnd). but_stuck e works.reads ++ one_reading n) x.1 ∙ ap (λ (ds : List Reading). ds ++ one_reading n) x.3

  -- after which it has read all that it knows
  pub has_read : (w : View) → w ≡ cornered 20 v → HasRead t w
  has_read w e = subst (HasRead t) (sym e) record {
    low = works.low;
    others = works.others;
    count = works.count;
    one = works.one;
    hand = (λ i. read (is i) v.list (record { known = works.count i; corner = 20 }) (works.hand i)) ∙ ap (λ (ds : List Reading). Some (hand_with t ds)) (one_more (length v.list));
  }

module _ (t : ℕ) (v : View) (h : HasRead t v) where
  -- its run is stuck
  pub read_stuck : v.setting.problem ≡ cubics → IsStuck v
  read_stuck is = ((λ i. hand_end (is i) v.list (h.hand i)) ∙ stuck t h.low v.list h.others (length v.list) (omega arith), (λ i. last_known 0 (reads_of (h.hand i))) ∙ sym h.count)

  -- and makes the generator
  pub read_makes : v.setting.problem ≡ cubics → made v ≡ cubic_entry t v.seat.known
  read_makes is = (λ i. draft (is i) v.list (h.hand i)) ∙ draft_is t h.low v.list h.others (length v.list) (omega arith) ∙ ap (cubic_entry t) (sym h.count)

  -- once that is published the hand is marked
  read_posted : (w : View) → w ≡ posted v → HasPosted w
  read_posted w e = subst HasPosted (sym e) record {
    held = record { ticket = t; reads = one_reading (length v.list); published = true };
    marked = refl;
    hand = ap marked h.hand;
  }

  -- where the head was taken it is as before
  read_longer : (ws : List ℕ) (w : View) → HasSeenTaken (record v { draft = ws }) w → HasRead t w
  read_longer ws w s = subst (HasRead t) (sym s.1) record { low = h.low; others = h.others; count = h.count; one = h.one; hand = h.hand }

  -- so it is after the exchange of a head
  pub read_tried : (r : Publish) (w : View) → HasPublished v r w → HasTriedAt t r w
  read_tried (Published i) w p = read_posted w p.1
  read_tried Longer w p = read_longer (words_of (made v)) w p

  -- once it has learnt an entry of another generator it works on
  pub read_learns : (e : Entry) (w : View) → HasLearnt v e w → IsOther t e → Works t w
  read_learns e w is other = subst (Works t) (sym is) record {
    low = h.low;
    others = All-append (IsOther t) v.list (e ∷ []) h.others (λ k d l. one k d l);
    count = omega (arith, h.count, length-append v.list (e ∷ []));
    one = h.one;
    reads = one_reading (length v.list);
    few = (omega (arith, length-append v.list (e ∷ [])), refl);
    hand = h.hand;
  }
    where
      one : (k : ℕ) (d : Entry) → k < 1 → IsOther t (get_or (e ∷ []) k d)
      one zero d l = other
      one (suc k) d l = absurd (omega (arith, l))

-- a hand whose entry is published is shut
pub posted_shut : (v : View) → HasPosted v → is_busy v ≡ false
unfolding is_open
posted_shut v h =
    let P : Problem = v.setting.problem in
    (λ i. has_open P v.list (h.hand i)) ∙ ap (λ b. not b && (not (is_skipped P v.list (item_for P h.held.ticket)) && not (is_zero (end_of P v.list h.held.ticket h.held.reads)))) h.marked

-- it stays so when the seat looks
pub posted_looks : (v w : View) (e : Entry) (r : Look) → HasPosted v → HasSeen v e r w → HasPosted w
posted_looks v w e Nothing h s = subst HasPosted (sym s.1) record { held = h.held; marked = h.marked; hand = rests ∙ h.hand }
  where
    go : (a b : Bool) → (if a then v.seat else (if b then rested v.seat else v.seat)).hand ≡ v.seat.hand
    go true b = refl
    go false true = refl
    go false false = refl

    rests : (looked v).seat.hand ≡ v.seat.hand
    rests = go (is_busy v) (nat_le (total (length v.setting.problem.gens) v.seat.known) v.seat.seen)
posted_looks v w e (Learnt i) h s = subst HasPosted (sym s.1) record { held = h.held; marked = h.marked; hand = h.hand }
