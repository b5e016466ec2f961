-- Hands: what stays as entries are added and the words change, a reading more, and what a hand leaves when it is done with.
-- The first readings and one more are orderly again; a skipped pair, or a run that ended with Zero, is settled by the whole list.
use Rattle.std.proofs.Common.{◌≡◌, ℕ, zero, suc, ◌-◌, ◌<◌, ◌≤◌, ◌⊎◌, Bool, true, false, true≢false, List, [], ◌∷◌, ◌++◌, length, take, Option, Some, None, ◌&&◌, not, refl, sym, ◌∙◌, ap, subst, arith, inl, inr, ⊎_elim, le_trans, length-append}
use Rattle.std.specs.Prelude.{is_some}
use Rattle.std.proofs.lemmas.Bool.{cases_lt}
use Rattle.std.proofs.lemmas.List.{length-take-le, take-append-le, take-take, take_all}
use Rattle.rank_algebra.specs.Ranks.{Ranks}
use Rattle.sparse_poly.specs.Ideal.{Problem}
use Rattle.entry_code.specs.declared.item.Item.{Item}
use Rattle.entry_code.specs.declared.item.Item.TheVariants.{Generator, Pair}
use Rattle.entry_code.specs.declared.reading.Reading.{Reading}
use Rattle.entry_code.specs.Entry.{Entry}
use Rattle.rank_algebra.specs.Division.{Basis, corner_of, first_of}
use Rattle.mora_law.specs.Ring.{ranks_of_problem, generators_of, IsAdmissible}
use Rattle.mora_law.specs.declared.step_end.StepEnd.{StepEnd}
use Rattle.mora_law.specs.declared.step_end.StepEnd.TheVariants.{Zero, Reduced, Stuck}
use Rattle.mora_law.specs.Run.{last_known}
use Rattle.mora_law.specs.Entries.{basis_of, corner}
use Rattle.mora_law.specs.Legal.{HaveCorners, IsLegalEntry}
use Rattle.mora_law.specs.Settled.{IsSkipped, IsSettled}
use Rattle.mora_law.proofs.Orderly.{orderly_more, orderly_take, last_known_le, last_corner_ge}
use Rattle.mora_law.proofs.Prefixes.{IsPrefix, begins, corners_same, corners_lower}
use Rattle.mora_law.proofs.Readings.{orderly_append, corners_append}
use Rattle.mora_law.proofs.Growth.{settled_more}
use Rattle.mora_law.specs.Items.{item_for, tickets}
use Rattle.run_core.specs.Hand.{Hand, hand_of, end_of, is_skipped, is_zero, is_open, but_stuck, more_reads, draft_terms, draft_of}
use Rattle.run_core.specs.State.{count_of}
use Rattle.run_core.specs.Sound.{IsHandSound}
use Rattle.mora_law.proofs.Items.{item_fits, tickets_up}
use Rattle.run_core.proofs.Ends.{end_some, end_none, end_longer, skipped_longer}

-- the first readings have corners within the same bounds
corners_take : (R : Ranks) (B : Basis) (c j : ℕ) (ds : List Reading) → HaveCorners R B c ds → HaveCorners R B c (take j ds)
corners_take R B c zero ds h = tt
corners_take R B c (suc j) [] h = tt
corners_take R B c (suc j) (d ∷ ds) h = (h.0, h.1, corners_take R B c j ds h.2)

module _ (P : Problem) where
  -- a ticket that was just claimed
  pub hand_fresh : (word ticket : ℕ) (known : List Entry) (k : ℕ) → k < ticket → k < tickets P (length known) → IsHandSound P word ticket known (hand_of k)
  hand_fresh word ticket known k l m = record {
    below = l;
    within = m;
    orderly = omega arith;
    corners = tt;
    before = λ j a b. absurd (omega arith);
    begun = λ d ds e. absurd (cc);
    marked = λ e. absurd (true≢false (sym e));
  }

  -- a hand stays sound as the corner word falls and the ticket word rises
  pub hand_later : (word word' ticket ticket' : ℕ) (known : List Entry) (h : Hand) → word' ≤ word → ticket ≤ ticket' → IsHandSound P word ticket known h → IsHandSound P word' ticket' known h
  hand_later word word' ticket ticket' known h l m s = record {
    below = le_trans s.below m;
    within = s.within;
    orderly = s.orderly;
    corners = corners_lower (ranks_of_problem P) (basis_of known) word word' l h.reads s.corners;
    before = s.before;
    begun = s.begun;
    marked = s.marked;
  }

  -- a hand stays sound as more entries are known
  pub hand_longer : (word ticket : ℕ) (short long : List Entry) (h : Hand) → IsPrefix short long → IsHandSound P word ticket short h → IsHandSound P word ticket long h
  hand_longer word ticket short long h b s = record {
    below = s.below;
    within = le_trans s.within (tickets_up P (length short) (length long) b.shorter);
    orderly = orderly_more (length short) (length long) b.shorter h.reads 0 (count_of P) s.orderly;
    corners = corners_same (ranks_of_problem P) (basis_of short) (basis_of long) (length short) (begins short long b) word h.reads 0 (count_of P) s.orderly s.corners;
    before = λ j l m. end_longer P short long b h.ticket (take j h.reads) s.within (orderly_take (length short) j h.reads 0 (count_of P) s.orderly) ∙ s.before j l m;
    begun = λ d ds e. let t = s.begun d ds e in (t.0, skipped_longer P short long b (item_for P h.ticket) (item_fits P h.ticket (length short) s.within) ∙ t.1);
    marked = λ e. le_trans (s.marked e) b.shorter;
  }

  -- a hand that isn't published is shut where its pair is skipped or its run ends with Zero
  shut : (a b c : Bool) → a ≡ false → (not a && (not b && not c)) ≡ false → (b ≡ true) ⊎ (c ≡ true)
  shut true b c e f = absurd (true≢false e)
  shut false true c e f = inl refl
  shut false false true e f = inr refl
  shut false false false e f = absurd (true≢false f)

  -- what the test of skipping says
  skipped : (known : List Entry) (item : Item) → is_skipped P known item ≡ true → IsSkipped P known item
  skipped known (Generator g) e = true≢false (sym e)
  skipped known (Pair i j) e = e

  -- what the test for Zero says
  zero_is : (o : Option StepEnd) → is_zero o ≡ true → o ≡ Some Zero
  zero_is None e = absurd (true≢false (sym e))
  zero_is (Some Zero) e = refl
  zero_is (Some Reduced) e = absurd (true≢false (sym e))
  zero_is (Some Stuck) e = absurd (true≢false (sym e))

  -- a hand that isn't open and has no entry leaves its ticket settled by the whole list
  pub closed_settled : (word ticket : ℕ) (short long : List Entry) (h : Hand) → IsAdmissible P → IsPrefix short long → corner P long ≤ word → IsHandSound P word ticket short h →
      h.published ≡ false → is_open P short h ≡ false → IsSettled P long (item_for P h.ticket)
  unfolding is_open end_of
  closed_settled word ticket short long h ok b l s new closed = ⊎_elim by_skip by_zero (shut h.published (is_skipped P short (item_for P h.ticket)) (is_zero (end_of P short h.ticket h.reads)) new closed)
    where
      by_skip : is_skipped P short (item_for P h.ticket) ≡ true → IsSettled P long (item_for P h.ticket)
      by_skip e = settled_more P short long b ok (item_for P h.ticket) (item_fits P h.ticket (length short) s.within) (inl (skipped short (item_for P h.ticket) e))

      by_zero : is_zero (end_of P short h.ticket h.reads) ≡ true → IsSettled P long (item_for P h.ticket)
      by_zero e = let t = hand_longer word ticket short long h b s in inr (inr (record {
        reads = h.reads;
        last_end = end_longer P short long b h.ticket h.reads s.within s.orderly ∙ zero_is (end_of P short h.ticket h.reads) e;
        orderly = t.orderly;
        corners = corners_lower (ranks_of_problem P) (basis_of long) word (corner P long) l h.reads t.corners;
      }))

  -- the first of the first j readings and one more is that one or the first of all
  first_is : (j : ℕ) (reads : List Reading) (d x : Reading) (xs : List Reading) → (take j reads ++ d ∷ []) ≡ x ∷ xs → (d ≡ x) ⊎ ((ys : List Reading) × (reads ≡ x ∷ ys))
  first_is zero reads d x xs e = inl (cc)
  first_is (suc j) [] d x xs e = inl (cc)
  first_is (suc j) (y ∷ ys) d x xs e = inr (ys, cc)

  -- an open hand has no mark, and its pair isn't skipped
  parts : (a b c : Bool) → (not a && (not b && not c)) ≡ true → (a ≡ false) × (b ≡ false)
  parts true b c e = absurd (true≢false (sym e))
  parts false true c e = absurd (true≢false (sym e))
  parts false false c e = (refl, refl)

  -- the first j readings and one more, where the run by the first j ended with Reduced if there are any
  taken_more : (word ticket : ℕ) (known : List Entry) (h : Hand) (j : ℕ) (d : Reading) → IsHandSound P word ticket known h → (h.published ≡ false) × (is_skipped P known (item_for P h.ticket) ≡ false) → word ≤ count_of P → j ≤ length h.reads →
      (j ≡ 0) ⊎ (end_of P known h.ticket (take j h.reads) ≡ Some Reduced) → d.known ≡ length known → d.corner ≤ word → d.corner ≤ corner P known →
      IsHandSound P d.corner ticket known (record h { reads = take j h.reads ++ d ∷ [] })
  taken_more word ticket known h j d s free small few before all low own =
      let o = orderly_take (length known) j h.reads 0 (count_of P) s.orderly in
      let c = corners_take (ranks_of_problem P) (basis_of known) word j h.reads s.corners in
      let ge = last_corner_ge (ranks_of_problem P) (basis_of known) word (count_of P) (take j h.reads) small c in
      let le = last_known_le (length known) (take j h.reads) 0 (count_of P) o in
      record {
        below = s.below;
        within = s.within;
        orderly = orderly_append (length known) (length known) (take j h.reads) d 0 (count_of P) o (omega arith) (omega arith) (le_trans low ge);
        corners = corners_append (ranks_of_problem P) (basis_of known) d.corner (take j h.reads) d (corners_lower (ranks_of_problem P) (basis_of known) word d.corner low (take j h.reads) c) (omega arith)
            (subst (λ n. d.corner ≤ corner_of (ranks_of_problem P) (first_of n (basis_of known))) (sym all) own);
        before = λ i l m. old i l (omega (arith, m, length-append (take j h.reads) (d ∷ []), length-take-le j h.reads few));
        begun = λ x xs e. (
          ⊎_elim
              (λ (z : d ≡ x). subst (λ n. h.ticket < tickets P n) (sym all ∙ ap (λ (y : Reading). y.known) z) s.within)
              (λ (z : (ys : List Reading) × (h.reads ≡ x ∷ ys)). (s.begun x z.0 z.1).0)
              (first_is j h.reads d x xs e),
          free.1,
        );
        marked = λ e. absurd (true≢false (sym e ∙ free.0));
      }
    where
      old : (i : ℕ) → 0 < i → i ≤ j → end_of P known h.ticket (take i (take j h.reads ++ d ∷ [])) ≡ Some Reduced
      old i l m = ap (end_of P known h.ticket) (take-append-le i (take j h.reads) (d ∷ []) (omega (arith, m, length-take-le j h.reads few)) ∙ take-take i j h.reads m) ∙ go (cases_lt i j)
        where
          go : (i < j) ⊎ (j ≤ i) → end_of P known h.ticket (take i h.reads) ≡ Some Reduced
          go (inl x) = s.before i l (omega arith)
          go (inr x) = ⊎_elim (λ z. absurd (omega arith)) (λ z. let e : i ≡ j = omega arith in ap (λ n. end_of P known h.ticket (take n h.reads)) e ∙ z) before

  -- an open hand stays sound with one more reading, which replaces the last one where that one gave Stuck
  pub hand_more : (word ticket : ℕ) (known : List Entry) (h : Hand) (d : Reading) → IsHandSound P word ticket known h → is_open P known h ≡ true → word ≤ count_of P →
      d.known ≡ length known → d.corner ≤ word → d.corner ≤ corner P known → IsHandSound P d.corner ticket known (record h { reads = more_reads P known h d })
  unfolding more_reads is_open
  hand_more word ticket known h d s opened small all low own = by_end (end_of P known h.ticket h.reads) refl
    where
      free : (h.published ≡ false) × (is_skipped P known (item_for P h.ticket) ≡ false)
      free = parts h.published (is_skipped P known (item_for P h.ticket)) (is_zero (end_of P known h.ticket h.reads)) opened

      whole : take (length h.reads) h.reads ≡ h.reads
      whole = take_all (length h.reads) h.reads (omega arith)

      all_reads : (length h.reads ≡ 0) ⊎ (end_of P known h.ticket h.reads ≡ Some Reduced) → IsHandSound P d.corner ticket known (record h { reads = h.reads ++ d ∷ [] })
      all_reads e = subst (λ (l : List Reading). IsHandSound P d.corner ticket known (record h { reads = l ++ d ∷ [] })) whole
          (taken_more word ticket known h (length h.reads) d s free small (omega arith) (⊎_elim inl (λ r. inr (ap (end_of P known h.ticket) whole ∙ r)) e) all low own)

      no_reads : (reads : List Reading) → end_of P known h.ticket reads ≡ None → length reads ≡ 0
      no_reads [] e = refl
      no_reads (x ∷ xs) e = absurd (true≢false (sym (end_some P known h.ticket x xs) ∙ ap is_some e))

      not_zero : (a b : Bool) → (not a && (not b && not true)) ≡ true → ⊥
      not_zero true b e = true≢false (sym e)
      not_zero false true e = true≢false (sym e)
      not_zero false false e = true≢false (sym e)

      by_end : (o : Option StepEnd) → end_of P known h.ticket h.reads ≡ o → IsHandSound P d.corner ticket known (record h { reads = but_stuck o h.reads ++ d ∷ [] })
      by_end None e = all_reads (inl (no_reads h.reads e))
      by_end (Some Zero) e = absurd (not_zero h.published (is_skipped P known (item_for P h.ticket)) (sym (ap (λ x. not h.published && (not (is_skipped P known (item_for P h.ticket)) && not (is_zero x))) e) ∙ opened))
      by_end (Some Reduced) e = all_reads (inr e)
      by_end (Some Stuck) e = taken_more word ticket known h (length h.reads - 1) d s free small (omega arith) (front (cases_lt 0 (length h.reads - 1))) all low own
        where
          front : (0 < length h.reads - 1) ⊎ (length h.reads - 1 ≤ 0) → (length h.reads - 1 ≡ 0) ⊎ (end_of P known h.ticket (take (length h.reads - 1) h.reads) ≡ Some Reduced)
          front (inl x) = inr (s.before (length h.reads - 1) x (omega arith))
          front (inr x) = inl (omega arith)

  -- the entry that a hand's run makes, where it ends with Stuck at all entries, is legal after these
  pub draft_legal : (word ticket : ℕ) (known : List Entry) (h : Hand) → IsHandSound P word ticket known h → end_of P known h.ticket h.reads ≡ Some Stuck → last_known 0 h.reads ≡ length known →
      corner P known ≤ word → IsLegalEntry (ranks_of_problem P) (generators_of P) (basis_of known) (length known) (draft_of P known h)
  unfolding end_of draft_terms
  draft_legal word ticket known h s stuck knows low = record {
    item = item_fits P h.ticket (length known) s.within;
    ends = record { some = some_reads h.reads stuck; before = s.before; last_end = stuck };
    orderly = s.orderly;
    knows = knows;
    corners = corners_lower (ranks_of_problem P) (basis_of known) word (corner P known) low h.reads s.corners;
    terms = refl;
  }
    where
      some_reads : (reads : List Reading) → end_of P known h.ticket reads ≡ Some Stuck → 0 < length reads
      some_reads [] e = absurd (cc (end_none P known h.ticket))
      some_reads (x ∷ xs) e = omega arith

  -- a hand whose run ends with Stuck at all that its seat knows is open
  pub stuck_opened : (word ticket : ℕ) (known : List Entry) (h : Hand) → IsHandSound P word ticket known h → end_of P known h.ticket h.reads ≡ Some Stuck → last_known 0 h.reads ≡ length known → is_open P known h ≡ true
  unfolding is_open
  stuck_opened word ticket known h s stuck knows =
      ap (λ x. not x && (not (is_skipped P known (item_for P h.ticket)) && not (is_zero (end_of P known h.ticket h.reads)))) (no_mark h.published refl)
      ∙ ap (λ x. not x && not (is_zero (end_of P known h.ticket h.reads))) (taken h.reads refl)
      ∙ ap (λ x. not (is_zero x)) stuck
    where
      no_mark : (b : Bool) → h.published ≡ b → b ≡ false
      no_mark true e = let l = s.marked e in absurd (omega (arith, l, knows))
      no_mark false e = refl

      taken : (reads : List Reading) → h.reads ≡ reads → is_skipped P known (item_for P h.ticket) ≡ false
      taken [] e = absurd (cc (end_none P known h.ticket, sym (ap (end_of P known h.ticket) e) ∙ stuck))
      taken (x ∷ xs) e = (s.begun x xs e).1
