-- A run and the hand that has its readings, over what a seat knows.
-- Both drop a last reading that gave Stuck, and the run sees the same entries, so they end alike.
use Rattle.std.proofs.Common.{◌≡◌, ℕ, suc, ◌-◌, false, not, ◌&&◌, List, [], ◌∷◌, ◌++◌, length, map, take, Option, Some, None, refl, sym, ap, ◌∙◌, subst, arith}
use Rattle.local_order.specs.Shape.{Shape}
use Rattle.sparse_poly.specs.Shape.{shape_of}
use Rattle.sparse_poly.specs.Ideal.{Problem}
use Rattle.mono_rank.proofs.Corners.{one_corner}
use Rattle.mono_rank.specs.Cover.{IsCorner}
use Rattle.corner_word.specs.Marks.{IsCoverOf}
use Rattle.entry_code.specs.declared.reading.Reading.{Reading}
use Rattle.entry_code.specs.Entry.{Entry}
use Rattle.mora_law.specs.declared.step_end.StepEnd.{StepEnd}
use Rattle.mora_law.specs.declared.step_end.StepEnd.TheVariants.{Zero, Reduced, Stuck}
use Rattle.mora_law.specs.Ring.{IsAdmissible}
use Rattle.mora_law.specs.Entries.{lead_rank, corner}
use Rattle.mora_law.specs.Items.{item_for}
use Rattle.mora_law.specs.Legal.{Legal}
use Rattle.mora_law.specs.Start.{run}
use Rattle.mora_law.proofs.Corners.{corner_is_of_leads}
use Rattle.mora_law.proofs.Problems.{monic}
use Rattle.mora_form.specs.State.{State as MoraState, HasRun, recorded, without_last, draft_of as draft_of_run}
use Rattle.run_core.specs.declared.workspace.Workspace.{Workspace}
use Rattle.run_core.specs.Hand.{Hand, end_of, is_open, is_skipped, is_zero, but_stuck, more_reads, draft, draft_terms}
use Rattle.run_core.specs.Work.{Holds}

-- the corner of what is covered is that of the entries that are known
pub covered_corner : (P : Problem) → IsAdmissible P → (known : List Entry) → Legal P known → (w : Workspace) → Holds P known w → (x : ℕ) →
    ((ls : List ℕ) → IsCoverOf ls w.cover → IsCorner w.cover.shape ls x) → x ≡ corner P known
covered_corner P ok known legal w holds x h =
    let ranks : List ℕ = map (λ (e : Entry). lead_rank e.terms) known in
    let here : IsCorner (shape_of P) ranks x = subst (λ (T : Shape). IsCorner T ranks x) holds.shape (h ranks holds.cover) in
    one_corner (shape_of P) ranks x (corner P known) here (corner_is_of_leads P ok known (monic P ok known legal))

-- all but the last of a list are so many as are left
without_last_is : (ds : List Reading) → without_last ds ≡ take (length ds - 1) ds
without_last_is [] = refl
without_last_is (d ∷ []) = refl
without_last_is (d ∷ e ∷ ds) =
    let z : suc (length (e ∷ ds) - 1) ≡ length (d ∷ e ∷ ds) - 1 = omega arith in
    ap (λ l. d ∷ l) (without_last_is (e ∷ ds)) ∙ ap (λ n. take n (d ∷ e ∷ ds)) z

-- a run and a hand keep the same readings when one more follows
pub recorded_is : (e : Option StepEnd) (ds : List Reading) → but_stuck e ds ≡ recorded e ds
recorded_is None ds = refl
recorded_is (Some Zero) ds = refl
recorded_is (Some Reduced) ds = refl
recorded_is (Some Stuck) ds = sym (without_last_is ds)

-- a hand of ticket k with the readings of a run
abbrev pub hand_with : ℕ → List Reading → Hand
hand_with k reads = record { ticket = k; reads = reads; published = false }

module _ (P : Problem) (known : List Entry) (k : ℕ) (m : MoraState) (item : m.item ≡ item_for P k) (run_is : HasRun P known m) where
  -- the hand's run ends as the run
  pub ends_alike : end_of P known k m.reads ≡ m.end
  unfolding end_of
  ends_alike = sym (run_is.run.end ∙ ap (λ i. (run P known i m.reads).end) item)

  -- the hand with one reading more has the readings of the run with it
  pub reads_alike : (d : Reading) → more_reads P known (hand_with k m.reads) d ≡ recorded m.end m.reads ++ d ∷ []
  unfolding more_reads
  reads_alike d = ap (λ e. but_stuck e m.reads ++ d ∷ []) ends_alike ∙ ap (λ l. l ++ d ∷ []) (recorded_is m.end m.reads)

  -- there is work at the hand unless its pair is skipped or the run ended with Zero
  pub open_alike : is_skipped P known (item_for P k) ≡ false → is_open P known (hand_with k m.reads) ≡ not (is_zero m.end)
  unfolding is_open
  open_alike pair = ap (λ x. not false && (not x && not (is_zero (end_of P known k m.reads)))) pair ∙ ap (λ e. not (is_zero e)) ends_alike

-- the entry that a run makes is that of its hand
pub draft_alike : (P : Problem) (known : List Entry) (k : ℕ) (m : MoraState) (o : Option Hand) → m.item ≡ item_for P k → o ≡ Some (hand_with k m.reads) →
    draft_of_run P known m.item m.reads ≡ draft P known o
unfolding draft_terms
draft_alike P known k m o item hand = ap (λ i. draft_of_run P known i m.reads) item ∙ sym (ap (draft P known) hand)
