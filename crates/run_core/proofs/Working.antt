-- A step of the one worker: the corner that it reads, and what holds after the step.
-- The hand and the run have the same readings, and the run sees the whole list, so both end alike.
use Rattle.std.proofs.Common.{◌≡◌, ◌≢◌, ℕ, zero, suc, ◌+◌, ◌≤◌, Bool, true, false, not, ◌&&◌, List, [], ◌∷◌, ◌++◌, length, take, Option, Some, None, refl, sym, ap, ◌∙◌, subst, arith, le_trans}
use Rattle.std.specs.Prelude.{All}
use Rattle.mono_rank.specs.Cover.{IsCorner}
use Rattle.corner_word.specs.Marks.{IsCoverOf}
use Rattle.entry_code.specs.declared.reading.Reading.{Reading}
use Rattle.rank_algebra.specs.Ranks.{Ranks}
use Rattle.rank_algebra.specs.Division.{Basis}
use Rattle.mora_law.specs.declared.step_end.StepEnd.{StepEnd}
use Rattle.mora_law.specs.declared.step_end.StepEnd.TheVariants.{Zero, Reduced, Stuck}
use Rattle.mora_law.specs.Ring.{ranks_of_problem}
use Rattle.mora_law.specs.Entries.{corner, basis_of}
use Rattle.mora_law.specs.Items.{item_for}
use Rattle.mora_law.specs.Legal.{HaveCorners}
use Rattle.mora_law.specs.Start.{run}
use Rattle.mora_law.specs.Run.{last_known}
use Rattle.mora_law.proofs.Readings.{last_known_more}
use Rattle.mora_form.specs.State.{State as MoraState, HasRun, Knows, IsOver, recorded}
use Rattle.run_core.specs.declared.event.Event.TheVariants.{Corner}
use Rattle.run_core.specs.declared.workspace.Workspace.{Workspace}
use Rattle.run_core.specs.Hand.{Hand, end_of, is_open, is_skipped, is_zero, has_open, hand_end, read, more_reads}
use Rattle.run_core.specs.Sound.{IsSound}
use Rattle.run_core.specs.Plain.{Plain, plain, plain_seat, plain_corner, plain_cornered, is_working}
use Rattle.run_core.specs.Work.{Holds, IsInHand, IsRunning, HasRunTo, is_left}
use Rattle.run_core.proofs.Learned.{few}
use Rattle.run_core.specs.State.{count_of}
use Rattle.run_core.proofs.Room.{hand_room}
use Rattle.run_core.proofs.Running.{covered_corner, reads_alike}
use Rattle.run_core.proofs.Keeps.{keeps_sound}
use Rattle.run_core.proofs.Plain.{plain_reads}

-- each reading has a corner that is no less than the lowest
corners_low : (R : Ranks) (B : Basis) (w : ℕ) (ds : List Reading) → HaveCorners R B w ds → All (λ d. w ≤ d.corner) ds
corners_low R B w [] h k d l = absurd (omega arith)
corners_low R B w (e ∷ ds) h zero d l = h.0
corners_low R B w (e ∷ ds) h (suc k) d l = corners_low R B w ds h.2 k d (omega (arith, l))

-- a run that isn't stuck keeps all its readings when one more follows
pub recorded_all : (e : Option StepEnd) (ds : List Reading) → e ≢ Some Stuck → recorded e ds ≡ ds
recorded_all None ds n = refl
recorded_all (Some Zero) ds n = refl
recorded_all (Some Reduced) ds n = refl
recorded_all (Some Stuck) ds n = absurd (n refl)

-- a hand without mark that was open stays open unless its run ends with Zero
still_open : (a b c : Bool) → (not a && (not b && not c)) ≡ true → (z : Bool) → (not a && (not b && not z)) ≡ not z
still_open true b c e z = absurd (cc e)
still_open false true c e z = absurd (cc e)
still_open false false c e z = refl

-- a run goes on unless it ends with Zero
left_is : (e : StepEnd) → not (is_zero (Some e)) ≡ is_left e
left_is Zero = refl
left_is Reduced = refl
left_is Stuck = refl

module _ (b : Plain) (w : Workspace) (r : IsRunning b w) where
  -- the corner of what is covered is that of the entries
  pub own_corner : (x : ℕ) → ((ls : List ℕ) → IsCoverOf ls w.cover → IsCorner w.cover.shape ls x) → x ≡ corner b.problem b.entries
  own_corner x h = covered_corner b.problem r.sound.problem b.entries r.sound.legal w r.holds x h

  -- the hand
  abbrev hand : Hand
  hand = record { ticket = r.hand.ticket; reads = w.mora.reads; published = false }

  -- no earlier reading has a lesser corner
  pub lower_corner : All (λ d. plain_corner b ≤ d.corner) w.mora.reads
  lower_corner k d l =
      let mine = (r.sound.seats 0 (plain_seat b) refl).hand hand r.hand.hand in
      let low = corners_low (ranks_of_problem b.problem) (basis_of (take (length b.entries) b.entries)) b.corner w.mora.reads mine.corners k d l in
      omega (arith, low)

  -- the number of the entries is small
  pub known_small : length b.entries ≤ 4096
  known_small = le_trans (few b.problem r.sound.problem b.entries r.sound.legal) r.problem.monomials

module _ (b : Plain) (w : Workspace) (r : IsRunning b w) (d : Reading) (is : d ≡ record { known = length b.entries; corner = plain_corner b }) (m : MoraState) (end : StepEnd)
    (value : m ≡ record w.mora { is_open = m.is_open; reads = recorded w.mora.end w.mora.reads ++ d ∷ []; end = m.end; poly = m.poly; kept = m.kept })
    (ended : m.end ≡ Some end) (more : HasRun b.problem b.entries m) where
  -- the run has this reading more
  pub reads_are : m.reads ≡ w.mora.reads ++ d ∷ []
  reads_are = ap (λ (x : MoraState). x.reads) value ∙ ap (λ l. l ++ d ∷ []) (recorded_all w.mora.end w.mora.reads r.moving)

  -- and so has the hand
  hand_reads : more_reads b.problem b.entries (hand b w r) d ≡ m.reads
  hand_reads = reads_alike b.problem b.entries r.hand.ticket w.mora r.hand.item r.run d ∙ ap (λ l. l ++ d ∷ []) (recorded_all w.mora.end w.mora.reads r.moving) ∙ sym reads_are

  -- the hand is that of the run
  in_hand : IsInHand (plain_cornered b) m
  in_hand = record {
    ticket = r.hand.ticket;
    hand = ap (λ x. read b.problem b.entries x b.hand) (sym is) ∙ ap (read b.problem b.entries d) r.hand.hand
        ∙ ap (λ l. Some (record { ticket = r.hand.ticket; reads = l; published = false })) hand_reads;
    item = ap (λ (x : MoraState). x.item) value ∙ r.hand.item;
  }

  -- it ends as the step does
  hand_ends : end_of b.problem b.entries r.hand.ticket m.reads ≡ Some end
  unfolding end_of in_hand
  hand_ends = sym (sym ended ∙ more.run.end ∙ ap (λ i. (run b.problem b.entries i m.reads).end) in_hand.item)

  -- so there is work left unless it ends with Zero
  left : is_working (plain_cornered b) ≡ is_left end
  unfolding is_open in_hand
  left = ap (has_open b.problem b.entries) in_hand.hand
      ∙ ap (λ e. not false && (not (is_skipped b.problem b.entries (item_for b.problem r.hand.ticket)) && not (is_zero e))) hand_ends
      ∙ still_open false (is_skipped b.problem b.entries (item_for b.problem r.hand.ticket)) (is_zero (end_of b.problem b.entries r.hand.ticket w.mora.reads))
      (ap (has_open b.problem b.entries) (sym r.hand.hand) ∙ r.working) (is_zero (Some end))
      ∙ left_is end

  -- the worker holds what it held
  still_holds : Holds b.problem b.entries (record w { mora = m })
  still_holds = record {
    table = r.holds.table;
    over = subst (IsOver b.problem) (sym value) (record { field = r.holds.over.field; shape = r.holds.over.shape });
    knows = subst (Knows b.entries) (sym value) (record { all = r.holds.knows.all; each = r.holds.knows.each; leads = r.holds.knows.leads });
    leads = r.holds.leads;
    shape = r.holds.shape;
    cover = r.holds.cover;
    room = r.holds.room;
  }

  -- the state is sound
  sound : IsSound (plain (plain_cornered b))
  sound = keeps_sound (plain b) (plain (plain_cornered b)) 0 Corner r.sound (plain_reads b r.working)

  -- what holds after the step
  pub stepped : HasRunTo (plain_cornered b) (record w { mora = m }) end
  unfolding in_hand
  stepped = record {
    sound = sound;
    working = left;
    ended = ap (hand_end b.problem b.entries) in_hand.hand ∙ hand_ends;
    holds = still_holds;
    run = more;
    hand = in_hand;
    last = ap (last_known 0) reads_are ∙ last_known_more 0 w.mora.reads d ∙ ap (λ (x : Reading). x.known) is;
  }

  -- where the step reduced, the run goes on
  pub goes_on : end ≡ Reduced → ((end ≡ Zero → ⊥) → m.is_open ≡ true) → IsRunning (plain_cornered b) (record w { mora = m })
  goes_on reduced opened = record {
    problem = r.problem;
    sound = sound;
    working = left ∙ ap is_left reduced;
    holds = still_holds;
    opened = opened (λ z. absurd (cc (sym reduced ∙ z)));
    moving = λ e. absurd (cc (sym (ended ∙ ap Some reduced) ∙ e));
    run = more;
    hand = in_hand;
  }

-- a run has at most as many readings as there are monomials, and one more
pub few_reads : (b : Plain) (w : Workspace) (e : StepEnd) → HasRunTo b w e → length w.mora.reads ≤ count_of b.problem + 1
few_reads b w e r =
    let hand : Hand = record { ticket = r.hand.ticket; reads = w.mora.reads; published = false } in
    hand_room b.problem b.corner b.ticket (take (length b.entries) b.entries) hand r.sound.problem ((r.sound.seats 0 (plain_seat b) refl).hand hand r.hand.hand)

-- what a run keeps from its first step on
pub record GoesOn (b now : Plain) (w u : Workspace) (end : StepEnd) : Type 0 where
  pub ended : u.mora.end ≡ Some end
  pub going : end ≡ Reduced → IsRunning now u
  pub run : HasRunTo now u end
  pub same : now ≡ record b { corner = now.corner; hand = now.hand }
  pub count : u.reductions ≡ w.reductions
