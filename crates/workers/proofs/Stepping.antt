-- A step of a run over what its seat knows, and what stays of the seat.
-- The hand gains the reading that the run records, so both have the same readings.
use Rattle.std.proofs.Common.{◌≡◌, ℕ, zero, suc, ◌+◌, ◌≤◌, not, List, [], ◌∷◌, ◌++◌, length, Some, sym, ap, ◌∙◌, subst, arith}
use Rattle.std.specs.Prelude.{All}
use Rattle.entry_code.specs.declared.reading.Reading.{Reading}
use Rattle.mora_law.specs.declared.step_end.StepEnd.TheVariants.{Stuck}
use Rattle.mora_law.specs.Run.{last_known}
use Rattle.mora_law.proofs.Readings.{last_known_more}
use Rattle.mora_law.proofs.Ring.{problem_is_admissible}
use Rattle.mora_form.specs.State.{State as MoraState, HasRun, Knows, IsOver, recorded}
use Rattle.run_core.specs.declared.workspace.Workspace.{Workspace}
use Rattle.run_core.specs.Hand.{has_open, is_zero, hand_end, reads_of, read}
use Rattle.run_core.specs.State.{count_of}
use Rattle.run_core.proofs.Room.{reads_room}
use Rattle.run_core.proofs.Running.{hand_with, ends_alike, reads_alike, open_alike}
use Rattle.reducer_list.specs.View.{View, is_busy}
use Rattle.reducer_list.specs.Steps.{AreAbove, cornered, IsStuck}
use Rattle.workers.specs.Running.{IsKnown, IsInHand, ticket_in}

-- a corner that is at most that of each reading
pub above_all : (c : ℕ) (ds : List Reading) → AreAbove c ds → All (λ d. c ≤ d.corner) ds
above_all c [] h k d l = absurd (omega arith)
above_all c (e ∷ ds) h zero d l = h.0
above_all c (e ∷ ds) h (suc k) d l = above_all c ds h.1 k d (omega (arith, l))

-- a run other than the same keeps what is known
pub known_run : (v : View) (s : Workspace) (m : MoraState) → IsKnown v s →
    m ≡ record s.mora { is_open = m.is_open; item = m.item; reads = m.reads; end = m.end; poly = m.poly; kept = m.kept } → IsKnown v (record s { mora = m })
known_run v s m k value = record {
  problem = k.problem;
  generators = k.generators;
  legal = k.legal;
  count = k.count;
  quiet = k.quiet;
  holds = record {
    table = k.holds.table;
    over = subst (IsOver v.setting.problem) (sym value) (record { field = k.holds.over.field; shape = k.holds.over.shape });
    knows = subst (Knows v.list) (sym value) (record { all = k.holds.knows.all; each = k.holds.knows.each; leads = k.holds.knows.leads });
    leads = k.holds.leads;
    shape = k.holds.shape;
    cover = k.holds.cover;
    room = k.holds.room;
  };
}

module _ (v : View) (m : MoraState) (h : IsInHand v m) where
  -- there is work at the hand unless the run ended with Zero
  pub busy_is : is_busy v ≡ not (is_zero m.end)
  busy_is = ap (has_open v.setting.problem v.list) h.hand ∙ open_alike v.setting.problem v.list h.ticket m h.item h.run h.pair

  -- the hand has the readings of the run
  pub reads_are : reads_of v.seat.hand ≡ m.reads
  reads_are = ap reads_of h.hand

  -- and ends as it does
  pub hand_ends : hand_end v.setting.problem v.list v.seat.hand ≡ m.end
  hand_ends = ap (hand_end v.setting.problem v.list) h.hand ∙ ends_alike v.setting.problem v.list h.ticket m h.item h.run

  -- a run that is stuck by a reading of all that is known is that of a stuck hand
  pub stuck_is : m.end ≡ Some Stuck → last_known 0 m.reads ≡ v.seat.known → IsStuck v
  stuck_is stuck last = (hand_ends ∙ stuck, ap (last_known 0) reads_are ∙ last)

  -- its ticket
  pub ticket_is : ticket_in v.seat.hand ≡ h.ticket
  ticket_is = ap ticket_in h.hand

  -- there are few readings
  pub few_reads : (s : Workspace) → IsKnown v s → length m.reads ≤ count_of v.setting.problem + 1
  few_reads s k = reads_room v.setting.problem v.list m.item m.reads (problem_is_admissible v.setting.problem k.problem) h.run.before

module _ (v w : View) (s : Workspace) (m : MoraState) (h : IsInHand v s.mora) (d : Reading) (known : d.known ≡ v.seat.known) (is : w ≡ cornered d.corner v)
    (value : m ≡ record s.mora { is_open = m.is_open; reads = recorded s.mora.end s.mora.reads ++ d ∷ []; end = m.end; poly = m.poly; kept = m.kept })
    (more : HasRun v.setting.problem v.list m) where
  -- the readings of the run
  reads_more : m.reads ≡ recorded s.mora.end s.mora.reads ++ d ∷ []
  reads_more = ap (λ (x : MoraState). x.reads) value

  -- the hand with the reading
  hand_more : (cornered d.corner v).seat.hand ≡ Some (hand_with h.ticket m.reads)
  hand_more =
      ap (λ n. read v.setting.problem v.list (record { known = n; corner = d.corner }) v.seat.hand) (sym known)
      ∙ ap (read v.setting.problem v.list d) h.hand
      ∙ ap (λ l. Some (hand_with h.ticket l)) (reads_alike v.setting.problem v.list h.ticket s.mora h.item h.run d ∙ sym reads_more)

  -- the hand is that of the run again
  pub in_hand_more : IsInHand w m
  in_hand_more = subst (λ (u : View). IsInHand u m) (sym is) (record {
    ticket = h.ticket;
    hand = hand_more;
    item = ap (λ (x : MoraState). x.item) value ∙ h.item;
    pair = h.pair;
    run = more;
  })

  -- the last reading knew all that is known
  pub last_more : last_known 0 m.reads ≡ w.seat.known
  last_more = ap (last_known 0) reads_more ∙ last_known_more 0 (recorded s.mora.end s.mora.reads) d ∙ known ∙ sym (ap (λ (u : View). u.seat.known) is)

  -- what is known stays
  pub known_more : IsKnown v s → IsKnown w (record s { mora = m })
  known_more k =
      let z = known_run v s m k (value ∙ (λ t. record s.mora { is_open = m.is_open; item = sym (ap (λ (x : MoraState). x.item) value) t; reads = sym reads_more t; end = m.end; poly = m.poly; kept = m.kept })) in
      subst (λ (u : View). IsKnown u (record s { mora = m })) (sym is) (record { problem = z.problem; generators = z.generators; legal = z.legal; count = z.count; quiet = z.quiet; holds = z.holds })
