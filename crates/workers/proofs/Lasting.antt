-- A hand that is done with stays so, whatever its seat learns.
-- Its pair is skipped by more entries too; a run sees no entries but those that its readings knew; and a mark stays.
use Rattle.std.proofs.Common.{◌≡◌, ℕ, suc, ◌<◌, ◌≤◌, Bool, true, false, not, ◌&&◌, List, [], ◌∷◌, ◌++◌, length, Some, refl, sym, ap, ◌∙◌, subst, arith}
use Rattle.std.specs.Prelude.{All}
use mathlib.Core.List.{append-nil, append_assoc}
use Rattle.rank_algebra.specs.Ranks.{Ranks}
use Rattle.rank_algebra.specs.Vector.{Vector}
use Rattle.sparse_poly.specs.Ideal.{Problem}
use Rattle.entry_code.specs.declared.item.Item.{Item}
use Rattle.entry_code.specs.declared.reading.Reading.{Reading}
use Rattle.entry_code.specs.Entry.{Entry}
use Rattle.mora_law.specs.declared.step_end.StepEnd.TheVariants.{Zero}
use Rattle.mora_law.specs.Ring.{ranks_of_problem, generators_of}
use Rattle.mora_law.specs.Entries.{basis_of}
use Rattle.mora_law.specs.Step.{Run, step}
use Rattle.mora_law.specs.Run.{steps, begin}
use Rattle.mora_law.specs.Start.{start_of, run}
use Rattle.mora_law.specs.Items.{item_for, tickets}
use Rattle.mora_law.specs.Legal.{IsItemOf}
use Rattle.mora_law.proofs.Items.{item_fits}
use Rattle.mora_law.proofs.Prefixes.{IsPrefix, begins, step_same, start_same, prefix_append}
use Rattle.mora_form.specs.State.{State as MoraState}
use Rattle.run_core.specs.Hand.{hand_of, has_open, is_open, is_skipped, is_zero, end_of, marked}
use Rattle.run_core.proofs.Ends.{skipped_longer}
use Rattle.run_core.proofs.Replays.{marked_is_shut}
use Rattle.reducer_list.specs.View.{View, is_busy}
use Rattle.reducer_list.specs.Steps.{learnt_view, made, posted}
use Rattle.workers.specs.Running.{IsInHand, IsShut}

-- ---- a run over more entries
-- steps that know the first entries alone see these
steps_known : (R : Ranks) (entries entries' : ℕ → Vector) (s : ℕ) → ((k : ℕ) → k < s → entries' k ≡ entries k) → (ds : List Reading) (x : Run) → All (λ d. d.known ≤ s) ds →
    steps R entries' x ds ≡ steps R entries x ds
steps_known R entries entries' s h [] x all = refl
steps_known R entries entries' s h (d ∷ ds) x all =
    ap (λ y. steps R entries' y ds) (step_same R entries entries' s x d (all 0 d (omega arith)) h)
    ∙ steps_known R entries entries' s h ds (step R entries x d) (λ k e l. all (suc k) e (omega arith))

-- so does a run
run_known : (P : Problem) (short long : List Entry) → IsPrefix short long → (item : Item) (reads : List Reading) → IsItemOf (length P.gens) (length short) item →
    All (λ d. d.known ≤ length short) reads → run P long item reads ≡ run P short item reads
run_known P short long b item reads fits all =
    let R = ranks_of_problem P in let G = generators_of P in
    steps_known R (basis_of short).member (basis_of long).member (length short) (begins short long b).member reads (begin (start_of R G (basis_of long) item)) all
    ∙ ap (λ f. steps R (basis_of short).member (begin f) reads) (start_same R G (basis_of short) (basis_of long) (length short) (begins short long b) item fits)

-- ---- hands that are done with
-- nothing is left where a run ended with Zero
no_more : (s : Bool) → (not s && not true) ≡ false
no_more true = refl
no_more false = refl

-- a run that ended with Zero
pub zero_shut : (v : View) (m : MoraState) → IsInHand v m → m.end ≡ Some Zero → IsShut v
unfolding is_open end_of
zero_shut v m h zero more =
    let P = v.setting.problem in
    let l : List Entry = v.list ++ more in
    let same = run_known P v.list l (prefix_append v.list more) m.item m.reads h.run.item h.run.known in
    let ends : end_of P l h.ticket m.reads ≡ Some Zero = ap (λ i. (run P l i m.reads).end) (sym h.item) ∙ ap (λ (r : Run). r.end) same ∙ sym h.run.run.end ∙ zero in
    ap (has_open P l) h.hand ∙ ap (λ e. not false && (not (is_skipped P l (item_for P h.ticket)) && not (is_zero e))) ends ∙ no_more (is_skipped P l (item_for P h.ticket))

-- a pair that is skipped
pub skipped_shut : (v : View) (k : ℕ) → v.seat.hand ≡ Some (hand_of k) → k < tickets v.setting.problem (length v.list) → is_skipped v.setting.problem v.list (item_for v.setting.problem k) ≡ true → IsShut v
unfolding is_open
skipped_shut v k hand less skipped more =
    let P = v.setting.problem in
    let l : List Entry = v.list ++ more in
    let same = skipped_longer P v.list l (prefix_append v.list more) (item_for P k) (item_fits P k (length v.list) less) in
    ap (has_open P l) hand ∙ ap (λ s. not false && (not s && not (is_zero (end_of P l k [])))) (same ∙ skipped)

-- an entry that is published
pub posted_shut : (v w : View) (m : MoraState) → w ≡ posted v → IsInHand v m → IsShut w
posted_shut v w m is h = subst IsShut (sym is) (λ more.
    ap (λ o. has_open v.setting.problem ((v.list ++ made v ∷ []) ++ more) (marked o)) h.hand
    ∙ marked_is_shut v.setting.problem ((v.list ++ made v ∷ []) ++ more) (record { ticket = h.ticket; reads = m.reads; published = true }) refl)

-- ---- and stay so
-- an entry more
pub learnt_shut : (v w : View) (e : Entry) (n : ℕ) → w ≡ record (learnt_view e v) { looks = n } → IsShut v → IsShut w
learnt_shut v w e n is shut = subst IsShut (sym is) (λ more. ap (λ l. has_open v.setting.problem l v.seat.hand) (append_assoc v.list (e ∷ []) more) ∙ shut (e ∷ more))

-- there is no work now
pub shut_now : (v : View) → IsShut v → is_busy v ≡ false
shut_now v shut = ap (λ l. has_open v.setting.problem l v.seat.hand) (sym (append-nil v.list)) ∙ shut []
