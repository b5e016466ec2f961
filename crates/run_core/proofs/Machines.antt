-- The machine: a seat by its place, how large its counts are, and what a replayed run says of the hand at a place.
-- The counts are at most those of all entries, of which there are at most as many as monomials.
use Rattle.std.proofs.Common.{◌≡◌, ℕ, zero, suc, ◌+◌, ◌-◌, ◌*◌, ◌<◌, ◌≤◌, Bool, true, false, List, [], ◌∷◌, ◌++◌, length, map, take, set, get_or, Option, Some, None, ◌&&◌, not, eqb, ltb, refl, sym, ◌∙◌, ap, ap₂, subst, arith}
use Rattle.std.specs.Prelude.{sum_by, is_some, leb, Result, Ok, Err}
use Rattle.std.specs.List.{slice_get}
use Rattle.std.proofs.lemmas.List.{get_or_default}
use Rattle.std.proofs.lemmas.List.Sums.{sum_by-append}
use mathlib.Core.Option.{some}
use lib.ListN.{get_elem?}
use Rattle.local_order.specs.Shape.{Shape}
use Rattle.sparse_poly.specs.Shape.{shape_of}
use Rattle.sparse_poly.specs.Ideal.{Problem, IsProblem}
use Rattle.mono_rank.proofs.Corners.{one_corner}
use Rattle.mono_rank.specs.Cover.{IsCorner}
use Rattle.corner_word.specs.Marks.{IsCoverOf}
use Rattle.entry_code.specs.declared.reading.Reading.{Reading}
use Rattle.entry_code.specs.Entry.{Entry, entry_at}
use Rattle.mora_law.specs.Ring.{ranks_of_problem, generators_of, IsAdmissible}
use Rattle.mora_law.specs.Entries.{lead_rank, corner, basis_of}
use Rattle.mora_law.specs.Items.{item_for, tickets}
use Rattle.mora_law.specs.Tickets.{total}
use Rattle.mora_law.specs.Legal.{Legal}
use Rattle.mora_law.specs.Run.{last_known}
use Rattle.mora_law.proofs.Ring.{ranks_are, ranks_count, count_is}
use Rattle.mora_law.proofs.Items.{tickets_is, tickets_up}
use Rattle.mora_law.proofs.Corners.{corner_is_of_leads}
use Rattle.mora_law.proofs.Problems.{monic}
use Rattle.mora_form.specs.State.{draft_of as draft_of_run}
use Rattle.run_core.specs.declared.workspace.Workspace.{Workspace}
use Rattle.run_core.specs.Hand.{Hand, draft, draft_terms, hand_end, read, reads_of, but_stuck, more_reads}
use Rattle.run_core.specs.State.{Seat, State, IsAt, known_by, is_busy, steps_of}
use Rattle.run_core.specs.Effects.{draft_by, read_corner, cornered, after_corner, shown, after_publish, kept, given, after_split}
use Rattle.run_core.specs.Makes.{CanPublish}
use Rattle.run_core.specs.Sound.{IsSound}
use Rattle.run_core.specs.Schedule.{is_stuck, or_same, next}
use Rattle.run_core.specs.Replay.{IsKnownHand, IsAtWork}
use Rattle.run_core.specs.SeatCode.{seat_at, claim_test, rest_test, publish_test, with_reads, HasStepped}
use Rattle.run_core.specs.declared.event.Event.{Event}
use Rattle.std.specs.declared.alloc.AllocError.{AllocError}
use Rattle.run_core.proofs.Keeps.{keeps_sound}
use Rattle.run_core.proofs.Schedules.{next_makes}
use Rattle.run_core.proofs.Places.{sum_one}
use Rattle.run_core.proofs.Room.{entry_room, hand_room}
use Rattle.rank_algebra.proofs.Searches.{and_true}
use Rattle.std.proofs.lemmas.Bool.{eqb-true}
use Rattle.mora_form.proofs.Stepping.{stuck_end}
use Rattle.run_core.proofs.Within.{within}
use Rattle.run_core.proofs.Replays.{replayed_end}

-- what stands at a place that there is
at_place : (seats : List Seat) (i : ℕ) (d : Seat) → i < length seats → get_elem? seats i ≡ some (get_or seats i d)
at_place [] i d l = absurd (omega arith)
at_place (v ∷ seats) zero d l = refl
at_place (v ∷ seats) (suc i) d l = at_place seats i d (omega arith)

-- the seat at a place
pub seat_there : (s : State) (i : ℕ) → i < length s.seats → IsAt s i (seat_at s i)
seat_there s i l = at_place s.seats i _ l

-- what is read at a place is the seat there
pub seat_read : (s t : State) (i : ℕ) (v : Seat) → t ≡ s → i < length s.seats → v ≡ get_or t.seats i v → v ≡ seat_at s i
seat_read s t i v same l e =
    e ∙ ap (λ (x : State). get_or x.seats i v) same ∙ get_or_default s.seats i v _ l

-- a sum of small numbers is small
sum_small : (f : Entry → ℕ) (c : ℕ) (l : List Entry) → ((k : ℕ) → k < length l → f (entry_at l k) ≤ c) → sum_by f l ≤ length l * c
sum_small f c [] each = omega arith
sum_small f c (x ∷ xs) each =
    let t = sum_small f c xs (λ k m. each (suc k) (omega arith)) in
    let h = each 0 (omega arith) in
    let p : (suc (length xs)) * c ≡ length xs * c + c = grind arith in
    omega (arith, sum_by-append f (x ∷ []) xs, t, h, p)

module _ (s : State) (ok : IsSound s) (p : IsProblem s.problem) where
  -- there are at most 4,096 entries
  pub entries_small : length s.entries ≤ 4096
  entries_small = let w = ok.whole in let few = (within s w.0 w.1 ok w.2).few in omega (arith, few, p.monomials, ranks_count s.problem, count_is s.problem)

  -- the ticket word is small
  pub ticket_small : s.ticket ≤ 8386624
  ticket_small = omega (arith, ok.tickets, tickets_up s.problem (length s.entries) 4096 entries_small, tickets_is s.problem 4096, p.few_gens)

  -- an entry has at most 4,096 steps
  steps_small : (k : ℕ) → k < length s.entries → steps_of (entry_at s.entries k) ≤ 4096
  steps_small k l =
      let room = entry_room (ranks_of_problem s.problem) (ranks_are s.problem ok.problem) (generators_of s.problem) (basis_of s.entries) k (entry_at s.entries k) (ok.legal k l) in
      omega (arith, room, p.monomials, ranks_count s.problem, count_is s.problem)

  -- so all have few
  all_steps : sum_by steps_of s.entries ≤ 16777216
  all_steps = let t = sum_small steps_of 4096 s.entries steps_small in omega (arith, t, entries_small)

  module _ (i : ℕ) (l : i < length s.seats) where
    -- the seat has claimed few
    pub claims_small : (seat_at s i).claims ≤ 8386624
    claims_small = let w = within s i (seat_at s i) ok (seat_there s i l) in omega (arith, w.claims, ticket_small)

    -- has seen few
    pub seen_small : (seat_at s i).seen ≤ 8386624
    seen_small = let w = within s i (seat_at s i) ok (seat_there s i l) in omega (arith, w.seen, ticket_small)

    -- knows few
    pub known_small : (seat_at s i).known ≤ 4096
    known_small = let w = within s i (seat_at s i) ok (seat_there s i l) in omega (arith, w.known, entries_small)

    -- and has published few
    pub published_small : (seat_at s i).published ≤ 16777216
    published_small = omega (arith, sum_one (λ (u : Seat). u.published) s.seats i (seat_at s i) (seat_there s i l), ok.published, all_steps)

-- the hand at a place is a sound one
pub hand_known : (s : State) (i : ℕ) → IsSound s → i < length s.seats → (h : Hand) → (seat_at s i).hand ≡ Some h → IsKnownHand s.problem s.entries (seat_at s i).known h
hand_known s i ok l h e = let mine = ok.seats i (seat_at s i) (seat_there s i l) in
    record { legal = ok.legal; within = mine.known; word = s.corner; ticket = s.ticket; sound = mine.hand h e }

module _ (P : Problem) (known : List Entry) (o : Option Hand) (w : Workspace) (a : IsAtWork P known o w) where
  -- the hand's run ends as that of the worker
  pub end_is : hand_end P known o ≡ w.mora.end
  end_is = ap (hand_end P known) a.is ∙ sym (replayed_end P known a.hand w a.run)

  -- and has its readings
  pub reads_are : reads_of o ≡ w.mora.reads
  reads_are = ap reads_of a.is ∙ sym a.run.reads

  -- the hand with one more reading
  pub read_is : (d : Reading) (reads : List Reading) → reads ≡ but_stuck w.mora.end w.mora.reads ++ d ∷ [] → with_reads reads o ≡ read P known d o
  unfolding more_reads
  read_is d reads e =
      ap (with_reads reads) a.is
      ∙ ap (λ l. Some (record { ticket = a.hand.ticket; reads = l; published = a.hand.published })) (e ∙ ap₂ (λ x l. but_stuck x l ++ d ∷ []) (replayed_end P known a.hand w a.run) a.run.reads)
      ∙ sym (ap (read P known d) a.is)

  -- the entry of the run is that of the hand
  pub draft_is : draft_of_run P known w.mora.item w.mora.reads ≡ draft P known o
  unfolding draft_terms
  draft_is = ap (λ x. draft_of_run P known x w.mora.reads) a.run.item ∙ ap (draft_of_run P known (item_for P a.hand.ticket)) a.run.reads ∙ sym (ap (draft P known) a.is)

  -- what it covers has the corner of what it knows
  pub corner_is : IsAdmissible P → Legal P known → (x : ℕ) → ((ls : List ℕ) → IsCoverOf ls w.cover → IsCorner w.cover.shape ls x) → x ≡ corner P known
  corner_is ok legal x h =
      let ranks : List ℕ = map (λ (e : Entry). lead_rank e.terms) known in
      let here : IsCorner (shape_of P) ranks x = subst (λ (T : Shape). IsCorner T ranks x) a.run.holds.shape (h ranks a.run.holds.cover) in
      one_corner (shape_of P) ranks x (corner P known) here (corner_is_of_leads P ok known (monic P ok known legal))

-- the last reading by its place
pub last_at : (reads : List Reading) (d : Reading) (known : ℕ) → 0 < length reads → slice_get reads (length reads - 1) ≡ Some d → last_known known reads ≡ d.known
last_at [] d known l e = absurd (omega arith)
last_at (x ∷ []) d known l e = cc
last_at (x ∷ y ∷ ys) d known l e = last_at (y ∷ ys) d x.known (omega arith) (let z : length (x ∷ y ∷ ys) - 1 ≡ suc (length (y ∷ ys) - 1) = omega arith in subst (λ n. slice_get (x ∷ y ∷ ys) n ≡ Some d) z e)

-- the test of Publish by the worker
pub publish_is : (s : State) (v : Seat) (w : Workspace) → IsAtWork s.problem (known_by s v) v.hand w → (b : Bool) →
    b ≡ (eqb v.known (length s.entries) && (is_stuck w.mora.end && eqb (last_known 0 w.mora.reads) v.known)) → b ≡ publish_test s v
publish_is s v w a b e =
    e ∙ ap₂ (λ x l. eqb v.known (length s.entries) && (is_stuck x && eqb (last_known 0 l) v.known)) (sym (end_is s.problem (known_by s v) v.hand w a)) (sym (reads_are s.problem (known_by s v) v.hand w a))
    ∙ sym (ap (λ x. x && (eqb v.known (length s.entries) && (is_stuck (hand_end s.problem (known_by s v) v.hand) && eqb (last_known 0 (reads_of v.hand)) v.known))) a.opened)

-- where the test holds, the seat may publish
pub can_publish_is : (s : State) (v : Seat) → publish_test s v ≡ true → CanPublish s v
can_publish_is s v e =
    let ends = is_stuck (hand_end s.problem (known_by s v) v.hand) in
    let knows = eqb (last_known 0 (reads_of v.hand)) v.known in
    let a = and_true (is_busy s v) (eqb v.known (length s.entries) && (ends && knows)) e in
    let b = and_true (eqb v.known (length s.entries)) (ends && knows) a.1 in
    let c = and_true ends knows b.1 in
    (a.0, eqb-true v.known (length s.entries) b.0, stuck_end (hand_end s.problem (known_by s v) v.hand) c.0, eqb-true (last_known 0 (reads_of v.hand)) v.known c.1)

-- a run has few readings
pub reads_small : (s : State) (i : ℕ) → IsSound s → IsProblem s.problem → i < length s.seats → (w : Workspace) → IsAtWork s.problem (known_by s (seat_at s i)) (seat_at s i).hand w → length w.mora.reads ≤ 4097
reads_small s i ok p l w a =
    let v = seat_at s i in
    let few = hand_room s.problem s.corner s.ticket (known_by s v) a.hand ok.problem ((ok.seats i v (seat_there s i l)).hand a.hand a.is) in
    omega (arith, few, ap length a.run.reads, p.monomials, ranks_count s.problem, count_is s.problem)

-- the state with another seat at a place and another corner is that after Corner
pub corner_made : (s t : State) (i x : ℕ) (y : Seat) → t ≡ s → x ≡ read_corner s (seat_at s i) → y ≡ cornered s (seat_at s i) →
    record t { corner = x; seats = set t.seats i y } ≡ after_corner s i (seat_at s i)
corner_made s t i x y e f g = ap (λ (u : State). record u { corner = x; seats = set u.seats i y }) e ∙ ap₂ (λ a b. record s { corner = a; seats = set s.seats i b }) f g

-- with one more entry it is that after Publish
pub publish_made : (s t : State) (i : ℕ) (es : List Entry) (y : Seat) → t ≡ s → es ≡ s.entries ++ draft_by s (seat_at s i) ∷ [] → y ≡ shown s (seat_at s i) →
    record t { entries = es; seats = set t.seats i y } ≡ after_publish s i (seat_at s i)
publish_made s t i es y e f g = ap (λ (u : State). record u { entries = es; seats = set u.seats i y }) e ∙ ap₂ (λ a b. record s { entries = a; seats = set s.seats i b }) f g

-- a seat changes at a place before one that is put behind
set_before : (seats : List Seat) (i : ℕ) (v w : Seat) → i < length seats → set (seats ++ w ∷ []) i v ≡ set seats i v ++ w ∷ []
set_before [] i v w l = absurd (omega arith)
set_before (x ∷ seats) zero v w l = refl
set_before (x ∷ seats) (suc i) v w l = ap (λ r. x ∷ r) (set_before seats i v w (omega arith))

-- with a new seat behind it is that after Split
pub split_made : (s t : State) (i : ℕ) (all : List Seat) (y g : Seat) → t ≡ s → i < length s.seats → all ≡ t.seats ++ g ∷ [] → y ≡ kept (seat_at s i) → g ≡ given (seat_at s i) →
    record t { seats = set all i y } ≡ after_split s i (seat_at s i)
split_made s t i all y g e l a k f =
    ap (λ r. record t { seats = set r i y }) a
    ∙ ap (λ (u : State). record u { seats = set (u.seats ++ g ∷ []) i y }) e
    ∙ ap (λ r. record s { seats = r }) (set_before s.seats i y g l)
    ∙ ap₂ (λ p q. record s { seats = set s.seats i p ++ q ∷ [] }) k f

-- the hand of a seat that is read
pub hand_at : (s t : State) (u v : Seat) → t ≡ s → u ≡ v → ((h : Hand) → v.hand ≡ Some h → IsKnownHand s.problem s.entries v.known h) → (h : Hand) → u.hand ≡ Some h → IsKnownHand t.problem t.entries u.known h
hand_at s t u v e f k h is =
    subst (λ (x : State). IsKnownHand x.problem x.entries u.known h) (sym e) (subst (λ (z : Seat). IsKnownHand s.problem s.entries z.known h) (sym f) (k h (ap (λ (z : Seat). z.hand) (sym f) ∙ is)))

-- the work of a seat that is read
pub work_at : (s t : State) (u v : Seat) (w : Workspace) → t ≡ s → u ≡ v → IsAtWork t.problem (take u.known t.entries) u.hand w → IsAtWork s.problem (known_by s v) v.hand w
work_at s t u v w e f a = subst (λ (x : State). IsAtWork x.problem (take v.known x.entries) v.hand w) e (subst (λ (z : Seat). IsAtWork t.problem (take z.known t.entries) z.hand w) f a)

-- a seat is busy exactly where there is work
pub busy_by : (s : State) (v : Seat) (o : Option Workspace) (b : Bool) → b ≡ is_some o → (o ≡ None → is_busy s v ≡ false) → ((w : Workspace) → o ≡ Some w → IsAtWork s.problem (known_by s v) v.hand w) → b ≡ is_busy s v
busy_by s v None b e idle works = e ∙ sym (idle refl)
busy_by s v (Some w) b e idle works = e ∙ sym (works w refl).opened

module _ (s t : State) (u v : Seat) (busy : Bool) (n m k : ℕ) (e : t ≡ s) (f : u ≡ v) (b : busy ≡ is_busy s v) (gens : m ≡ length t.problem.gens) (all : n ≡ total m k) (knows : k ≡ u.known) where
  -- so many tickets are known
  tickets_known : n ≡ tickets s.problem v.known
  tickets_known = all ∙ ap₂ total (gens ∙ ap (λ (x : State). length x.problem.gens) e) (knows ∙ ap (λ (z : Seat). z.known) f) ∙ sym (tickets_is s.problem v.known)

  -- the test of Claim
  pub claim_is : (not busy && (eqb (length u.numbers) 1 && ltb u.seen n)) ≡ claim_test s v
  claim_is = ap₂ (λ x (z : Seat). not x && (eqb (length z.numbers) 1 && ltb z.seen n)) b f ∙ ap (λ y. not (is_busy s v) && (eqb (length v.numbers) 1 && ltb v.seen y)) tickets_known

  -- the test of rest
  pub rest_is : (l : ℕ) → l ≡ length t.entries → (eqb u.known l && (not busy && leb n u.seen)) ≡ rest_test s v
  rest_is l size = ap₂ (λ x (z : Seat). eqb z.known l && (not x && leb n z.seen)) b f
      ∙ ap₂ (λ x y. eqb v.known x && (not (is_busy s v) && leb y v.seen)) (size ∙ ap (λ (x : State). length x.entries) e) tickets_known

-- a call that makes the event
pub did : (s new u : State) (t : Option State) → t ≡ Some u → new ≡ u → HasStepped s new (Ok true) t
did s new u t e f = record { answer = sym (ap is_some e); state = f ∙ sym (ap (or_same s) e); failed = tt }

-- after any call the state is sound
pub stepped_sound : (s new : State) (name : ℕ) (event : Event) → IsSound s → (r : Result Bool AllocError) → HasStepped s new r (next name event s) → IsSound new
stepped_sound s new name event ok (Ok b) h = go (next name event s) refl h.state
  where
    go : (o : Option State) → next name event s ≡ o → new ≡ or_same s o → IsSound new
    go None e is = subst IsSound (sym is) ok
    go (Some t) e is = let m = next_makes name event s t e in subst IsSound (sym is) (keeps_sound s t m.0 event ok m.5)
stepped_sound s new name event ok (Err x) h = subst IsSound (sym h.failed) ok

-- what stands before the end of a longer list
get_or_before : (seats : List Seat) (i : ℕ) (w d : Seat) → i < length seats → get_or (seats ++ w ∷ []) i d ≡ get_or seats i d
get_or_before [] i w d l = absurd (omega arith)
get_or_before (x ∷ seats) zero w d l = refl
get_or_before (x ∷ seats) (suc i) w d l = get_or_before seats i w d (omega arith)

-- so with a new seat behind, what is read at a place is the seat there
pub split_read : (s t : State) (i : ℕ) (all : List Seat) (g v : Seat) → t ≡ s → i < length s.seats → all ≡ t.seats ++ g ∷ [] → v ≡ get_or all i v → v ≡ seat_at s i
split_read s t i all g v e l a r =
    seat_read s t i v e l (r ∙ ap (λ x. get_or x i v) a ∙ get_or_before t.seats i g v (subst (λ (x : State). i < length x.seats) (sym e) l))
