-- The run of a hand is made again from its readings: what holds before each of them, and after the last.
-- Before a reading the worker learns the entries that it knew; each reading but the last ended with Reduced, so the run is open still.
use Rattle.std.proofs.Common.{◌≡◌, ℕ, zero, suc, ◌+◌, ◌<◌, ◌≤◌, Bool, true, false, List, [], ◌∷◌, ◌++◌, length, take, Some, None, ◌&&◌, not, refl, sym, ◌∙◌, ap, subst, arith, le_trans}
use Rattle.std.specs.Prelude.{All}
use Rattle.std.specs.List.{slice_get}
use Rattle.std.proofs.lemmas.List.{length-take-le, take_all}
use Rattle.sparse_poly.specs.Ideal.{Problem, IsProblem}
use Rattle.mora_law.specs.Tickets.{total}
use Rattle.mora_law.proofs.Items.{tickets_up, tickets_is}
use Rattle.mora_law.proofs.Ring.{problem_is_admissible}
use Rattle.run_core.proofs.Learned.{few}
use Rattle.entry_code.specs.declared.item.Item.{Item}
use Rattle.entry_code.specs.declared.reading.Reading.{Reading}
use Rattle.entry_code.specs.Entry.{Entry}
use Rattle.mora_law.specs.declared.step_end.StepEnd.{StepEnd}
use Rattle.mora_law.specs.declared.step_end.StepEnd.TheVariants.{Zero, Reduced}
use Rattle.mora_law.specs.Run.{AreOrderly}
use Rattle.mora_law.specs.Items.{item_for, tickets}
use Rattle.mora_law.specs.Start.{run}
use Rattle.mora_law.proofs.Growth.{run_over_more}
use Rattle.mora_law.proofs.Orderly.{known_le}
use Rattle.mora_form.specs.State.{State as MoraState, HasRun, Knows, IsOver, recorded}
use Rattle.run_core.specs.declared.workspace.Workspace.{Workspace}
use Rattle.run_core.specs.Hand.{Hand, end_of, is_skipped, is_zero, is_open}
use Rattle.run_core.specs.State.{count_of}
use Rattle.run_core.specs.Work.{Holds}
use Rattle.run_core.specs.Replay.{IsKnownHand, IsRun, IsReplayed}
use Rattle.run_core.proofs.Copies.{one_more}
use Rattle.run_core.proofs.Seats.{take_prefix}
use Rattle.run_core.proofs.Working.{recorded_all}

-- the worker v knows the first k entries, and its run is that of w
pub record HasLearnt (P : Problem) (entries : List Entry) (w : Workspace) (k : ℕ) (v : Workspace) : Type 0 where
  pub holds : Holds P (take k entries) v
  pub run : HasRun P (take (length w.mora.known) entries) w.mora → HasRun P (take k entries) v.mora
  pub same : v.mora ≡ record w.mora { known = v.mora.known }

-- one entry more
pub learnt_next : (P : Problem) (entries : List Entry) (w : Workspace) (k : ℕ) (v u : Workspace) → HasLearnt P entries w k v → Holds P (take (suc k) entries) u →
    (HasRun P (take k entries) v.mora → HasRun P (take (suc k) entries) u.mora) → u.mora ≡ record v.mora { known = u.mora.known } → HasLearnt P entries w (k + 1) u
learnt_next P entries w k v u h holds run same =
    let z : suc k ≡ k + 1 = omega arith in
    record {
      holds = subst (λ n. Holds P (take n entries) u) z holds;
      run = λ r. subst (λ n. HasRun P (take n entries) u.mora) z (run (h.run r));
      same = same ∙ ap (λ (x : MoraState). record x { known = u.mora.known }) h.same;
    }

-- ---- readings in order
-- what a reading knows is at most the bound
known_at : (s : ℕ) (ds : List Reading) (known w i : ℕ) (d : Reading) → AreOrderly s known w ds → slice_get ds i ≡ Some d → d.known ≤ s
known_at s [] known w i d o e = absurd (cc)
known_at s (x ∷ xs) known w zero d o e = let is : x ≡ d = cc in subst (λ (y : Reading). y.known ≤ s) is (known_le s xs x.known x.corner o.2)
known_at s (x ∷ xs) known w (suc i) d o e = known_at s xs x.known x.corner i d o.2 e

-- and at least what was known before
known_from : (s : ℕ) (ds : List Reading) (known w i : ℕ) (d : Reading) → AreOrderly s known w ds → slice_get ds i ≡ Some d → known ≤ d.known
known_from s [] known w i d o e = absurd (cc)
known_from s (x ∷ xs) known w zero d o e = let is : x ≡ d = cc in subst (λ (y : Reading). known ≤ y.known) is o.0
known_from s (x ∷ xs) known w (suc i) d o e = le_trans o.0 (known_from s xs x.known x.corner i d o.2 e)

-- the next reading knows no less
known_next : (s : ℕ) (ds : List Reading) (known w i : ℕ) (d d' : Reading) → AreOrderly s known w ds → slice_get ds i ≡ Some d → slice_get ds (suc i) ≡ Some d' → d.known ≤ d'.known
known_next s [] known w i d d' o e f = absurd (cc)
known_next s (x ∷ xs) known w zero d d' o e f = let is : x ≡ d = cc in subst (λ (y : Reading). y.known ≤ d'.known) is (known_from s xs x.known x.corner 0 d' o.2 f)
known_next s (x ∷ xs) known w (suc i) d d' o e f = known_next s xs x.known x.corner i d d' o.2 e f

-- the readings up to one are orderly for what that one knows
orderly_upto : (s : ℕ) (ds : List Reading) (known w i : ℕ) (d : Reading) → AreOrderly s known w ds → slice_get ds i ≡ Some d → AreOrderly d.known known w (take (suc i) ds)
orderly_upto s [] known w i d o e = absurd (cc)
orderly_upto s (x ∷ xs) known w zero d o e = let is : x ≡ d = cc in (o.0, o.1, subst (λ (y : Reading). x.known ≤ y.known) is (omega arith))
orderly_upto s (x ∷ xs) known w (suc i) d o e = (o.0, o.1, orderly_upto s xs x.known x.corner i d o.2 e)

-- a reading's corner is at most the bound
corner_at : (s : ℕ) (ds : List Reading) (known w i : ℕ) (d : Reading) → AreOrderly s known w ds → slice_get ds i ≡ Some d → d.corner ≤ w
corner_at s [] known w i d o e = absurd (cc)
corner_at s (x ∷ xs) known w zero d o e = let is : x ≡ d = cc in subst (λ (y : Reading). y.corner ≤ w) is o.1
corner_at s (x ∷ xs) known w (suc i) d o e = le_trans (corner_at s xs x.known x.corner i d o.2 e) o.1

-- so it is at most each before it
pub corners_before : (s : ℕ) (ds : List Reading) (known w i : ℕ) (d : Reading) → AreOrderly s known w ds → slice_get ds i ≡ Some d → All (λ x. d.corner ≤ x.corner) (take i ds)
corners_before s ds known w zero d o e k x l = absurd (omega arith)
corners_before s [] known w (suc i) d o e k x l = absurd (cc)
corners_before s (y ∷ ys) known w (suc i) d o e zero x l = corner_at s ys y.known y.corner i d o.2 e
corners_before s (y ∷ ys) known w (suc i) d o e (suc k) x l = corners_before s ys y.known y.corner i d o.2 e k x (omega (arith, l))

module _ (P : Problem) (entries : List Entry) (known : ℕ) (h : Hand) (ok : IsKnownHand P entries known h) where
  -- so many entries are known
  size : length (take known entries) ≡ known
  size = length-take-le known entries ok.within

  -- a reading knows no more
  pub reading_within : (i : ℕ) (d : Reading) → slice_get h.reads i ≡ Some d → d.known ≤ known
  reading_within i d e = subst (λ n. d.known ≤ n) size (known_at (length (take known entries)) h.reads 0 (count_of P) i d ok.sound.orderly e)

  -- nor does the first one, and where there is none all are known
  pub first_within : (first : ℕ) → ((d : Reading) (ds : List Reading) → h.reads ≡ d ∷ ds → first ≡ d.known) → (h.reads ≡ [] → first ≡ known) → first ≤ known
  first_within first some none = go h.reads refl
    where
      go : (reads : List Reading) → h.reads ≡ reads → first ≤ known
      go [] e = let z = none e in omega (arith, z)
      go (x ∷ xs) e = let z = some x xs e in let l = reading_within 0 x (ap (λ ds. slice_get ds 0) e) in omega (arith, z, l)

  -- the hand's ticket was one of those of the entries then known
  pub ticket_within : (first : ℕ) → ((d : Reading) (ds : List Reading) → h.reads ≡ d ∷ ds → first ≡ d.known) → (h.reads ≡ [] → first ≡ known) → h.ticket < tickets P first
  ticket_within first some none = go h.reads refl
    where
      go : (reads : List Reading) → h.reads ≡ reads → h.ticket < tickets P first
      go [] e = subst (λ n. h.ticket < tickets P n) (size ∙ sym (none e)) ok.sound.within
      go (x ∷ xs) e = subst (λ n. h.ticket < tickets P n) (sym (some x xs e)) (ok.sound.begun x xs e).0

  -- the worker after the start of the run
  pub begun : (first : ℕ) (w : Workspace) (item : Item) (m : MoraState) → first ≤ known → length w.mora.known ≡ first → Holds P (take first entries) w →
      m ≡ record w.mora { is_open = true; item = item; reads = []; end = None; poly = m.poly; kept = [] } → item ≡ item_for P h.ticket → HasRun P (take first entries) m →
      ((d : Reading) → slice_get h.reads 0 ≡ Some d → first ≤ d.known) → IsRun P entries known h 0 (record w { mora = m })
  begun first w item m l count holds value is runs next =
      let n : length m.known ≡ first = ap (λ (x : MoraState). length x.known) value ∙ count in
      record {
        within = omega (arith, n, l);
        holds = subst (λ k. Holds P (take k entries) (record w { mora = m })) (sym n) (record {
          table = holds.table;
          over = subst (IsOver P) (sym value) (record { field = holds.over.field; shape = holds.over.shape });
          knows = subst (Knows (take first entries)) (sym value) (record { all = holds.knows.all; each = holds.knows.each; leads = holds.knows.leads });
          leads = holds.leads;
          shape = holds.shape;
          cover = holds.cover;
          room = holds.room;
        });
        run = subst (λ k. HasRun P (take k entries) m) (sym n) runs;
        item = ap (λ (x : MoraState). x.item) value ∙ is;
        reads = ap (λ (x : MoraState). x.reads) value;
        opened = λ _. ap (λ (x : MoraState). x.is_open) value;
        moving = λ _ e. absurd (cc (sym (ap (λ (x : MoraState). x.end) value) ∙ e));
        next = λ d e. let t = next d e in omega (arith, n, t);
      }

  -- once all readings are made again, and the other entries are learnt
  pub replayed : (w v : Workspace) → IsRun P entries known h (length h.reads) w → HasLearnt P entries w known v → IsReplayed P (take known entries) h v
  replayed w v r learnt = record {
    holds = learnt.holds;
    run = learnt.run r.run;
    item = ap (λ (x : MoraState). x.item) learnt.same ∙ r.item;
    reads = ap (λ (x : MoraState). x.reads) learnt.same ∙ r.reads ∙ take_all (length h.reads) h.reads (omega arith);
  }

module _ (P : Problem) (entries : List Entry) (known : ℕ) (h : Hand) (ok : IsKnownHand P entries known h) (i : ℕ) (w : Workspace) (r : IsRun P entries known h i w)
    (d : Reading) (at : slice_get h.reads i ≡ Some d) (l : i < length h.reads) (v : Workspace) (learnt : HasLearnt P entries w d.known v) where
  -- so many entries are known when the reading is made again
  pub count : length v.mora.known ≡ d.known
  count = learnt.holds.knows.all ∙ length-take-le d.known entries (le_trans (reading_within P entries known h ok i d at) ok.within)

  -- the run is open
  pub is_opened : v.mora.is_open ≡ true
  is_opened = ap (λ (x : MoraState). x.is_open) learnt.same ∙ r.opened l

  -- no earlier reading has a lesser corner
  pub corners : All (λ x. d.corner ≤ x.corner) v.mora.reads
  corners = subst (All (λ x. d.corner ≤ x.corner)) (sym (ap (λ (x : MoraState). x.reads) learnt.same ∙ r.reads)) (corners_before (length (take known entries)) h.reads 0 (count_of P) i d ok.sound.orderly at)

  module _ (m : MoraState) (end : StepEnd)
      (value : m ≡ record v.mora { is_open = m.is_open; reads = recorded v.mora.end v.mora.reads ++ d ∷ []; end = m.end; poly = m.poly; kept = m.kept })
      (ended : m.end ≡ Some end) (opened : (end ≡ Zero → ⊥) → m.is_open ≡ true) (more : HasRun P (take d.known entries) m) where
    -- the run has this reading more
    reads_are : m.reads ≡ take (i + 1) h.reads
    reads_are = one_more v.mora.reads m.reads h.reads i d (ap (λ (x : MoraState). x.reads) learnt.same ∙ r.reads)
        (ap (λ (x : MoraState). x.reads) value ∙ ap (λ ds. ds ++ d ∷ []) (recorded_all v.mora.end v.mora.reads (λ e. r.moving l (sym (ap (λ (x : MoraState). x.end) learnt.same) ∙ e)))) at

    -- its item is that of the hand
    item_is : m.item ≡ item_for P h.ticket
    item_is = ap (λ (x : MoraState). x.item) value ∙ ap (λ (x : MoraState). x.item) learnt.same ∙ r.item

    -- where a further reading follows, the step reduced
    reduced : i + 1 < length h.reads → end ≡ Reduced
    unfolding end_of reads_are item_is
    reduced further =
        let z : suc i ≡ i + 1 = omega arith in
        let short = length-take-le d.known entries (le_trans (reading_within P entries known h ok i d at) ok.within) in
        let orderly : AreOrderly (length (take d.known entries)) 0 (count_of P) (take (i + 1) h.reads) =
        subst (λ n. AreOrderly n 0 (count_of P) (take (i + 1) h.reads)) (sym short) (subst (λ n. AreOrderly d.known 0 (count_of P) (take n h.reads)) z (orderly_upto (length (take known entries)) h.reads 0 (count_of P) i d ok.sound.orderly at)) in
        let same = run_over_more P (take d.known entries) (take known entries) (take_prefix entries d.known known (reading_within P entries known h ok i d at) ok.within) m.item (take (i + 1) h.reads) more.item orderly in
        let all : Some end ≡ Some Reduced = sym ended ∙ more.run.end ∙ ap (λ ds. (run P (take d.known entries) m.item ds).end) reads_are ∙ sym (ap (λ x. x.end) same)
        ∙ ap (λ x. (run P (take known entries) x (take (i + 1) h.reads)).end) item_is ∙ ok.sound.before (i + 1) (omega arith) further in
        cc

    -- what holds after the reading
    pub redone : IsRun P entries known h (i + 1) (record v { mora = m })
    redone =
        let n : length m.known ≡ d.known = ap (λ (x : MoraState). length x.known) value ∙ count in
        let z : suc i ≡ i + 1 = omega arith in
        let within = reading_within P entries known h ok i d at in
        record {
          within = omega (arith, n, within);
          holds = subst (λ k. Holds P (take k entries) (record v { mora = m })) (sym n) (record {
            table = learnt.holds.table;
            over = subst (IsOver P) (sym value) (record { field = learnt.holds.over.field; shape = learnt.holds.over.shape });
            knows = subst (Knows (take d.known entries)) (sym value) (record { all = learnt.holds.knows.all; each = learnt.holds.knows.each; leads = learnt.holds.knows.leads });
            leads = learnt.holds.leads;
            shape = learnt.holds.shape;
            cover = learnt.holds.cover;
            room = learnt.holds.room;
          });
          run = subst (λ k. HasRun P (take k entries) m) (sym n) more;
          item = item_is;
          reads = reads_are;
          opened = λ further. opened (λ e. absurd (cc (sym (reduced further) ∙ e)));
          moving = λ further e. absurd (cc (reduced further, sym ended ∙ e));
          next = λ d' e. let t = known_next (length (take known entries)) h.reads 0 (count_of P) i d d' ok.sound.orderly at (subst (λ k. slice_get h.reads k ≡ Some d') (sym z) e) in omega (arith, n, t);
        }

-- the run of a hand ends as that of the worker
pub replayed_end : (P : Problem) (known : List Entry) (h : Hand) (w : Workspace) → IsReplayed P known h w → w.mora.end ≡ end_of P known h.ticket h.reads
unfolding end_of
replayed_end P known h w r = r.run.run.end ∙ ap (λ x. (run P known x w.mora.reads).end) r.item ∙ ap (λ ds. (run P known (item_for P h.ticket) ds).end) r.reads

-- whether there is work at a hand that has no mark
pub left_is_open : (P : Problem) (known : List Entry) (h : Hand) (w : Workspace) (item : Item) (b : Bool) → h.published ≡ false → item ≡ item_for P h.ticket → IsReplayed P known h w →
    b ≡ (not (is_skipped P known item) && not (is_zero w.mora.end)) → is_open P known h ≡ b
unfolding is_open
left_is_open P known h w item b new is r e =
    ap (λ x. not x && (not (is_skipped P known (item_for P h.ticket)) && not (is_zero (end_of P known h.ticket h.reads)))) new
    ∙ ap (λ x. not (is_skipped P known (item_for P h.ticket)) && not (is_zero x)) (sym (replayed_end P known h w r))
    ∙ ap (λ x. not (is_skipped P known x) && not (is_zero w.mora.end)) (sym is)
    ∙ sym e

-- a marked hand is shut
pub marked_is_shut : (P : Problem) (known : List Entry) (h : Hand) → h.published ≡ true → is_open P known h ≡ false
unfolding is_open
marked_is_shut P known h e = ap (λ x. not x && (not (is_skipped P known (item_for P h.ticket)) && not (is_zero (end_of P known h.ticket h.reads)))) e

-- the ticket of a hand is small
pub ticket_low : (P : Problem) → IsProblem P → (entries : List Entry) (known : ℕ) (h : Hand) → IsKnownHand P entries known h → h.ticket < total (length P.gens) 4096
ticket_low P p entries known h ok =
    let few = few P (problem_is_admissible P p) entries ok.legal in
    let size = length-take-le known entries ok.within in
    let l : length (take known entries) ≤ 4096 = omega (arith, few, size, ok.within, p.monomials) in
    omega (arith, ok.sound.within, tickets_up P (length (take known entries)) 4096 l, tickets_is P 4096)

-- the first reading knows what was known at the start
pub first_next : (reads : List Reading) (first : ℕ) → ((d : Reading) (ds : List Reading) → reads ≡ d ∷ ds → first ≡ d.known) → (d : Reading) → slice_get reads 0 ≡ Some d → first ≤ d.known
first_next [] first some d e = absurd (cc)
first_next (x ∷ xs) first some d e = let z = some x xs refl in let is : x ≡ d = cc in subst (λ (y : Reading). first ≤ y.known) is (omega (arith, z))
