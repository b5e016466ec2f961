-- How long entries are: each step but the last raises the rank of the lead, so there are at most as many readings as ranks up to
-- the lead, and at most as many terms as ranks from there on.
use Rattle.std.proofs.Common.{ℕ, zero, suc, ◌+◌, ◌-◌, ◌%◌, ◌<◌, ◌≤◌, ◌≡◌, ◌≢◌, List, [], ◌∷◌, ◌++◌, length, take, Bool, true, false, Option, Some, None, refl, ◌∙◌, ap, subst, arith, ◌⊎◌, inl, inr, length-append}
use Rattle.std.proofs.lemmas.Bool.{cases_lt}
use Rattle.std.proofs.lemmas.List.{get_or_at, length-take-le, take-take}
use Rattle.rank_algebra.specs.Ranks.{Ranks, IsRanks}
use Rattle.entry_code.specs.declared.reading.Reading.{Reading}
use Rattle.entry_code.specs.declared.item.Item.{Item}
use Rattle.entry_code.specs.Entry.{Entry, no_entry, entry_at}
use Rattle.rank_algebra.specs.Vector.{Same, Vector, nothing, scale, Agree, cut_at}
use Rattle.rank_algebra.specs.Division.{Basis}
use Rattle.sparse_poly.specs.Ideal.{Problem}
use Rattle.mora_law.specs.Ring.{ranks_of_problem, generators_of, IsAdmissible}
use Rattle.rank_algebra.specs.Ideal.{Generators}
use Rattle.rank_algebra.proofs.Linear.{agree_of, agree_trans, agree_scale}
use Rattle.mora_law.proofs.Ring.{ranks_are}
use Rattle.mora_law.specs.declared.step_end.StepEnd.TheVariants.{Zero, Reduced, Stuck}
use Rattle.mora_law.specs.Lead.{is_none_at, lead}
use Rattle.mora_law.specs.Step.{Reducer, Run, choose, firsts, reduce, step_at, step}
use Rattle.mora_law.specs.Run.{steps, begin}
use Rattle.mora_law.specs.Entries.{terms_of, monic_by, monic, basis_of}
use Rattle.mora_law.proofs.Terms.{term_by, terms_from, terms_walk}
use Rattle.mora_law.specs.Legal.{IsLegalEntry}
use Rattle.mora_law.specs.Start.{start_of, run}
use Rattle.mora_law.proofs.Choice.{some_same, lead_some}
use Rattle.rank_algebra.proofs.Remainder.{cut_nothing}
use Rattle.mora_law.proofs.Existence.{step_advances}
use Rattle.mora_law.specs.Items.{item_for}
use Rattle.run_core.specs.Hand.{Hand, end_of, draft_terms, hand_end, draft}
use Rattle.run_core.specs.State.{Seat, State, IsAt, count_of, known_by}
use Rattle.run_core.specs.Effects.{draft_by, shown, after_publish}
use Rattle.run_core.specs.Makes.{CanPublish}
use Rattle.run_core.specs.Sound.{IsHandSound, IsSound}
use Rattle.run_core.proofs.Places.{set_here}
use Rattle.run_core.proofs.Publishes.{keeps_shown}
use Rattle.run_core.proofs.Within.{within}

-- the terms from rank r on of a vector that has none below k
terms_few : (R : Ranks) (v : Vector) (k left r : ℕ) → Agree R k v nothing → k ≤ r + left → length (terms_from R left r v) + (k - r) ≤ left
terms_few R v k zero r a l = omega arith
terms_few R v k (suc left) r a l = go (is_none_at R v r) refl (cases_lt r k) (terms_few R v k left (suc r) a (omega arith))
  where
    go : (b : Bool) → is_none_at R v r ≡ b → (r < k) ⊎ (k ≤ r) → length (terms_from R left (suc r) v) + (k - suc r) ≤ left →
        length (term_by r (v r % R.p) (terms_from R left (suc r) v) b) + (k - r) ≤ suc left
    go true e c h = omega (arith, h)
    go false e (inl x) h = absurd (some_same R.p (v r) e (a.at r x))
    go false e (inr x) h = omega (arith, h, x)

-- so there are at most as many as ranks from k on
terms_room : (R : Ranks) (v : Vector) (k : ℕ) → Agree R k v nothing → k ≤ R.n → length (terms_of R v) + k ≤ R.n
terms_room R v k a l = let few = terms_few R v k R.n 0 a (omega arith) in let e = ap length (terms_walk R v) in omega (arith, few, e)

-- made monic, a vector has no more terms
monic_nothing : (R : Ranks) (v : Vector) (k : ℕ) → Agree R k v nothing → Agree R k (monic R v) nothing
monic_nothing R v k a = go (lead R v)
  where
    go : (o : Option ℕ) → Agree R k (monic_by R v o) nothing
    go None = a
    go (Some r) = agree_trans (agree_scale (R.inverse_of (v r)) a) (agree_of R k (scale (R.inverse_of (v r)) nothing) nothing (λ x l. omega arith))

module _ (R : Ranks) (entries : ℕ → Vector) (x : Run) (d : Reading) (m : ℕ) (a : Agree R m x.poly nothing) where
  -- where a step doesn't end with Zero, some rank from m on has a term
  step_within : (step R entries x d).end ≢ Some Zero → m < R.n
  step_within not = go (lead R (cut_at d.corner x.poly)) refl not
    where
      go : (o : Option ℕ) → lead R (cut_at d.corner x.poly) ≡ o → (step_at R entries d.known x.kept (cut_at d.corner x.poly) o).end ≢ Some Zero → m < R.n
      go None e n = absurd (n refl)
      go (Some r) e n = let i = lead_some R (cut_at d.corner x.poly) r e in below r i.small i.some (cases_lt r m)
        where
          below : (r : ℕ) → r < R.n → (Same R.p (cut_at d.corner x.poly r) 0 → ⊥) → (r < m) ⊎ (m ≤ r) → m < R.n
          below r s n (inl l) = absurd (n ((cut_nothing R d.corner m x.poly a).at r l))
          below r s n (inr l) = omega (arith, s, l)

  -- a Stuck step leaves none below m
  step_stuck : (step R entries x d).end ≡ Some Stuck → Agree R m (step R entries x d).poly nothing
  step_stuck stuck = go (lead R (cut_at d.corner x.poly)) stuck
    where
      go2 : (r : ℕ) (o : Option Reducer) → (reduce R x.kept (cut_at d.corner x.poly) r o).end ≡ Some Stuck → Agree R m (reduce R x.kept (cut_at d.corner x.poly) r o).poly nothing
      go2 r None e = cut_nothing R d.corner m x.poly a
      go2 r (Some c) e = absurd (cc e)

      go : (o : Option ℕ) → (step_at R entries d.known x.kept (cut_at d.corner x.poly) o).end ≡ Some Stuck → Agree R m (step_at R entries d.known x.kept (cut_at d.corner x.poly) o).poly nothing
      go None e = absurd (cc e)
      go (Some r) e = go2 r (choose R r (firsts d.known 0 entries ++ x.kept)) e

-- a run whose steps but the last end with Reduced, and the last with Stuck
run_room : (R : Ranks) → IsRanks R → (entries : ℕ → Vector) (ds : List Reading) (x : Run) (m : ℕ) → Agree R m x.poly nothing → m ≤ R.n → 0 < length ds →
    ((j : ℕ) → 0 < j → j < length ds → (steps R entries x (take j ds)).end ≡ Some Reduced) → (steps R entries x ds).end ≡ Some Stuck →
    (m + length ds ≤ R.n) × Agree R (m + length ds - 1) (steps R entries x ds).poly nothing
run_room R L entries [] x m a l some before stuck = absurd (omega arith)
run_room R L entries (d ∷ []) x m a l some before stuck =
    let room = step_within R entries x d m a (λ e. cc) in
    (omega arith, subst (λ k. Agree R k (step R entries x d).poly nothing) (omega arith) (step_stuck R entries x d m a stuck))
run_room R L entries (d ∷ e ∷ ds) x m a l some before stuck =
    let first = before 1 (omega arith) (omega arith) in
    let room = step_within R entries x d m a (λ z. cc) in
    let h = run_room R L entries (e ∷ ds) (step R entries x d) (suc m) ((step_advances R L entries x d m l a).more first) room (omega arith) (λ j p q. before (suc j) (omega arith) (omega arith)) stuck in
    let n = h.0 in
    (omega arith, subst (λ k. Agree R k (steps R entries (step R entries x d) (e ∷ ds)).poly nothing) (omega arith) h.1)

-- a legal entry has at most N + 1 readings and terms in all
pub entry_room : (R : Ranks) → IsRanks R → (G : Generators) (B : Basis) (i : ℕ) (x : Entry) → IsLegalEntry R G B i x → length x.reads + length x.terms ≤ R.n + 1
entry_room R L G B i x h =
    let start : Run = begin (start_of R G B x.item) in
    let w = run_room R L B.member x.reads start 0 (record { at = λ r l. absurd (omega arith) }) (omega arith) h.ends.some h.ends.before h.ends.last_end in
    let few = terms_room R (monic R (steps R B.member start x.reads).poly) (0 + length x.reads - 1) (monic_nothing R (steps R B.member start x.reads).poly (0 + length x.reads - 1) w.1) (omega (arith, w.0)) in
    let e : length x.terms ≡ length (terms_of R (monic R (steps R B.member start x.reads).poly)) = ap length h.terms in
    omega (arith, h.ends.some, few, e)

-- so has a draft that may be published, and there is a place for it
pub draft_room : (s : State) (i : ℕ) (v : Seat) → IsSound s → IsAt s i v → CanPublish s v →
    (length (draft_by s v).reads + length (draft_by s v).terms ≤ count_of s.problem + 1) × (v.known < count_of s.problem)
draft_room s i v ok at can =
    let new = keeps_shown s i v ok at can in
    let size = length-append s.entries (draft_by s v ∷ []) in
    let few = (within (after_publish s i v) i (shown s v) new (set_here s.seats i v (shown s v) at)).few in
    let x = entry_room (ranks_of_problem s.problem) (ranks_are s.problem ok.problem) (generators_of s.problem) (basis_of (s.entries ++ draft_by s v ∷ [])) (length s.entries)
    (entry_at (s.entries ++ draft_by s v ∷ []) (length s.entries)) (new.legal (length s.entries) (omega (arith, size))) in (
      subst (λ (e : Entry). length e.reads + length e.terms ≤ count_of s.problem + 1) (get_or_at s.entries (draft_by s v) [] no_entry (length s.entries) refl) x,
      omega (arith, few, size, can.1),
    )

-- a run whose steps all end with Reduced
reduced_room : (R : Ranks) → IsRanks R → (entries : ℕ → Vector) (ds : List Reading) (x : Run) (m : ℕ) → Agree R m x.poly nothing → m ≤ R.n →
    ((j : ℕ) → 0 < j → j ≤ length ds → (steps R entries x (take j ds)).end ≡ Some Reduced) → m + length ds ≤ R.n
reduced_room R L entries [] x m a l all = omega arith
reduced_room R L entries (d ∷ ds) x m a l all =
    let first = all 1 (omega arith) (omega arith) in
    let room = step_within R entries x d m a (λ z. cc) in
    let h = reduced_room R L entries ds (step R entries x d) (suc m) ((step_advances R L entries x d m l a).more first) room (λ j p q. all (suc j) (omega arith) (omega arith)) in
    omega arith

-- a run whose steps but the last end with Reduced has at most N + 1 readings
pub reads_room : (P : Problem) (known : List Entry) (item : Item) (reads : List Reading) → IsAdmissible P →
    ((j : ℕ) → 0 < j → j < length reads → (run P known item (take j reads)).end ≡ Some Reduced) → length reads ≤ count_of P + 1
reads_room P known item reads ok before =
    let R : Ranks = ranks_of_problem P in
    let start : Run = begin (start_of R (generators_of P) (basis_of known) item) in
    let size = length-take-le (length reads - 1) reads (omega arith) in
    let w = reduced_room R (ranks_are P ok) (basis_of known).member (take (length reads - 1) reads) start 0 (record { at = λ r l. absurd (omega arith) }) (omega arith)
    (λ j l m. ap (λ ds. (steps R (basis_of known).member start ds).end) (take-take j (length reads - 1) reads (omega (arith, m, size))) ∙ before j l (omega (arith, l, m, size))) in
    omega (arith, w, size)

-- so a hand has at most N + 1 readings, of which at most N ended with Reduced
pub hand_room : (P : Problem) (word ticket : ℕ) (known : List Entry) (h : Hand) → IsAdmissible P → IsHandSound P word ticket known h → length h.reads ≤ count_of P + 1
unfolding end_of
hand_room P word ticket known h ok s = reads_room P known (item_for P h.ticket) h.reads ok s.before

-- a run that is stuck has a reading
some_reads : (R : Ranks) (entries : ℕ → Vector) (v : Vector) (ds : List Reading) → (steps R entries (begin v) ds).end ≡ Some Stuck → 0 < length ds
some_reads R entries v [] e = absurd (cc)
some_reads R entries v (d ∷ ds) e = omega arith

-- a hand whose run is stuck has at most N readings, at most N terms, and at most N + 1 of both in all
pub stuck_room : (P : Problem) (word ticket : ℕ) (known : List Entry) (h : Hand) → IsAdmissible P → IsHandSound P word ticket known h → end_of P known h.ticket h.reads ≡ Some Stuck →
    (length h.reads ≤ count_of P) × (length (draft_terms P known h) ≤ count_of P) × (length h.reads + length (draft_terms P known h) ≤ count_of P + 1)
unfolding end_of draft_terms
stuck_room P word ticket known h ok s stuck =
    let R : Ranks = ranks_of_problem P in
    let v : Vector = start_of R (generators_of P) (basis_of known) (item_for P h.ticket) in
    let start : Run = begin v in
    let some = some_reads R (basis_of known).member v h.reads stuck in
    let w = run_room R (ranks_are P ok) (basis_of known).member h.reads start 0 (record { at = λ r l. absurd (omega arith) }) (omega arith) some s.before stuck in
    let few = terms_room R (monic R (steps R (basis_of known).member start h.reads).poly) (0 + length h.reads - 1) (monic_nothing R (steps R (basis_of known).member start h.reads).poly (0 + length h.reads - 1) w.1) (omega (arith, w.0)) in
    (omega (arith, w.0), omega (arith, few), omega (arith, some, few))

-- the same for a seat
pub seat_room : (s : State) (i : ℕ) (v : Seat) → IsSound s → IsAt s i v → hand_end s.problem (known_by s v) v.hand ≡ Some Stuck →
    (length (draft_by s v).reads ≤ count_of s.problem) × (length (draft_by s v).terms ≤ count_of s.problem) × (length (draft_by s v).reads + length (draft_by s v).terms ≤ count_of s.problem + 1)
seat_room s i v ok at stuck = go v.hand (ok.seats i v at).hand stuck
  where
    go : (o : Option Hand) → ((h : Hand) → o ≡ Some h → IsHandSound s.problem s.corner s.ticket (known_by s v) h) → hand_end s.problem (known_by s v) o ≡ Some Stuck →
        (length (draft s.problem (known_by s v) o).reads ≤ count_of s.problem) × (length (draft s.problem (known_by s v) o).terms ≤ count_of s.problem)
        × (length (draft s.problem (known_by s v) o).reads + length (draft s.problem (known_by s v) o).terms ≤ count_of s.problem + 1)
    go None each e = absurd (cc)
    go (Some h) each e = stuck_room s.problem s.corner s.ticket (known_by s v) h ok.problem (each h refl) e
