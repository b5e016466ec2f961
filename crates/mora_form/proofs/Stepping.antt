-- A step and the record of a run: what it keeps, and that there is room.
-- Each step that reduces raises the lead, so a run has at most as many as there are monomials.
use Rattle.std.proofs.Common.{◌≡◌, ℕ, zero, suc, ◌+◌, ◌<◌, ◌≤◌, ◌⊎◌, List, [], ◌∷◌, ◌++◌, length, take, map, get_or, All, Bool, true, false, cond, ltb, Option, Some, None, refl, ap, sym, ◌∙◌, inl, inr, subst, arith}
use Rattle.std.proofs.Math.Path.{fun_ext}
use Rattle.std.proofs.lemmas.Bool.{cases_lt, cases_eq, lt-ltb, le-ltb}
use Rattle.std.proofs.lemmas.List.{get_or_default, length-append, take-append-le, take_all, get_or_past}
use Rattle.std.proofs.lemmas.List.Elements.{All-pop, All-push}
use Rattle.prime_field.specs.Prime.{InTable}
use Rattle.local_order.specs.Shape.{Shape}
use Rattle.rank_algebra.specs.Ranks.{Ranks}
use Rattle.sparse_poly.specs.Ideal.{Problem}
use Rattle.entry_code.specs.declared.reading.Reading.{Reading}
use Rattle.entry_code.specs.Entry.{Entry}
use Rattle.rank_algebra.specs.Rows.{IsRow, IsZeroRow, BeginsAt, IsCutAt, vector_of_row}
use Rattle.rank_algebra.specs.Vector.{Vector, cut_at}
use Rattle.mora_law.specs.Ring.{ranks_of_problem, ring}
use Rattle.rank_algebra.proofs.Linear.{agree_trans}
use Rattle.mora_law.specs.declared.step_end.StepEnd.{StepEnd}
use Rattle.mora_law.specs.declared.step_end.StepEnd.TheVariants.{Zero, Reduced, Stuck}
use Rattle.mora_law.specs.Lead.{lead}
use Rattle.mora_law.specs.Step.{Run, Reducer, choose, firsts, reduce, step_at, step}
use Rattle.mora_law.specs.Run.{steps, begin}
use Rattle.mora_law.specs.Entries.{basis_of}
use Rattle.mora_law.specs.Start.{start, run}
use Rattle.mora_law.specs.Legal.{IsItemOf}
use Rattle.mora_law.specs.Alike.{AllAlike, RunAlike}
use Rattle.mora_law.proofs.Alike.{step_alike}
use Rattle.mora_law.proofs.Readings.{steps_more, stuck_dropped}
use Rattle.mora_form.specs.State.{State, ring_of, entry_vector, run_in, without_last, is_stuck, recorded, Knows, HasRun}
use Rattle.mora_form.specs.Held.{HasGone}
use Rattle.mora_form.specs.Reduction.{IsAdvance, goes_on, steps_after}
use Rattle.mora_form.proofs.Readings.{without_last-append}
use Rattle.mora_law.proofs.Ring.{ring_laws}
use Rattle.mora_form.proofs.Runs.{ring_same}

-- ---- runs that are alike
-- lists that are alike to one list are alike
all_trans : (R : Ranks) (a b c : List Vector) → AllAlike R a b → AllAlike R b c → AllAlike R a c
all_trans R [] [] [] h k = tt
all_trans R [] [] (z ∷ c) h k = absurd k
all_trans R [] (y ∷ b) c h k = absurd h
all_trans R (x ∷ a) [] c h k = absurd h
all_trans R (x ∷ a) (y ∷ b) [] h k = absurd k
all_trans R (x ∷ a) (y ∷ b) (z ∷ c) h k = (agree_trans h.0 k.0, all_trans R a b c h.1 k.1)

-- and so are runs
pub run_trans : (R : Ranks) (x y z : Run) → RunAlike R x y → RunAlike R y z → RunAlike R x z
run_trans R x y z h k = record { end = h.end ∙ k.end; poly = agree_trans h.poly k.poly; kept = all_trans R x.kept y.kept z.kept h.kept k.kept }

-- ---- cuts
-- the cut row is the cut vector
pub cut_vector : (w : ℕ) (r s : List ℕ) → IsCutAt w r s → vector_of_row s ≡ cut_at w (vector_of_row r)
cut_vector w r s h = fun_ext (λ k. go k (cases_lt k w))
  where
    go : (k : ℕ) → (k < w) ⊎ (w ≤ k) → get_or s k 0 ≡ cond (ltb k w) (get_or r k 0) 0
    go k (inl l) = h.kept k l ∙ sym (ap (λ b. cond b (get_or r k 0) 0) (lt-ltb k w l))
    go k (inr l) = h.dropped k l ∙ sym (ap (λ b. cond b (get_or r k 0) 0) (le-ltb k w l))

-- a cut row is a row, and has nothing where there was nothing
pub cut_is_row : (p places w : ℕ) (r s : List ℕ) → IsRow p places r → IsCutAt w r s → 0 < p → IsRow p places s
cut_is_row p places w r s v h pos = record { full = h.full ∙ v.full; residues = λ k x l. go k x l (cases_lt k w) }
  where
    go : (k x : ℕ) → k < length s → (k < w) ⊎ (w ≤ k) → get_or s k x < p
    go k x l (inl m) = omega (arith, get_or_default s k x 0 l, h.kept k m, v.residues k 0 (omega (arith, l, h.full)))
    go k x l (inr m) = omega (arith, get_or_default s k x 0 l, h.dropped k m, pos)

-- a cut takes nothing back of what is gone
pub cut_gone : (places steps kept w : ℕ) (r s : List ℕ) → HasGone places steps kept r → IsCutAt w r s → HasGone places steps kept s
cut_gone places steps kept w r s h c = record { few = h.few; within = h.within; gone = λ k l. go k l (cases_lt k w) }
  where
    go : (k : ℕ) → k < steps → (k < w) ⊎ (w ≤ k) → get_or s k 0 ≡ 0
    go k l (inl m) = c.kept k m ∙ h.gone k l
    go k l (inr m) = c.dropped k m

-- where a row that isn't 0 is left there is room
pub room_left : (places steps kept lead : ℕ) (r : List ℕ) → length r ≡ places → HasGone places steps kept r → BeginsAt r lead → steps < places
room_left places steps kept lead r e h b = go (cases_lt lead steps)
  where
    go : (lead < steps) ⊎ (steps ≤ lead) → steps < places
    go (inl l) = absurd (b.some (h.gone lead l))
    go (inr l) = omega (arith, l, b.within, e)

-- a row that isn't 0 begins somewhere
begins_somewhere : (r : List ℕ) → (IsZeroRow r → ⊥) → (k : ℕ) × BeginsAt r k
begins_somewhere r h = go (search_from (length r) 0 (omega arith) (λ j l. absurd (omega (arith, l))))
  where
    search_from : (left k : ℕ) → k + left ≡ length r → ((j : ℕ) → j < k → get_or r j 0 ≡ 0) → ((j : ℕ) → get_or r j 0 ≡ 0) ⊎ ((k : ℕ) × BeginsAt r k)
    search_from zero k e before = inl (λ j. past j (cases_lt j k))
      where
        past : (j : ℕ) → (j < k) ⊎ (k ≤ j) → get_or r j 0 ≡ 0
        past j (inl l) = before j l
        past j (inr l) = get_or_past r j 0 (omega (arith, l, e))
    search_from (suc left) k e before = step_on (cases_eq (get_or r k 0) 0) (λ b. search_from left (suc k) (omega (arith, e)) b)
      where
        step_on : (get_or r k 0 ≡ 0) ⊎ (get_or r k 0 ≡ 0 → ⊥) → (((j : ℕ) → j < suc k → get_or r j 0 ≡ 0) → ((j : ℕ) → get_or r j 0 ≡ 0) ⊎ ((k : ℕ) × BeginsAt r k)) → ((j : ℕ) → get_or r j 0 ≡ 0) ⊎ ((k : ℕ) × BeginsAt r k)
        step_on (inl z) up = up (λ j l. more j l (cases_lt j k))
          where
            more : (j : ℕ) → j < suc k → (j < k) ⊎ (k ≤ j) → get_or r j 0 ≡ 0
            more j l (inl m) = before j m
            more j l (inr m) = let q : k ≡ j = omega (arith, l, m) in ap (λ i. get_or r i 0) (sym q) ∙ z
        step_on (inr n) up = inr (k, record { within = omega (arith, e); some = n; before = before })

    go : ((j : ℕ) → get_or r j 0 ≡ 0) ⊎ ((k : ℕ) × BeginsAt r k) → (k : ℕ) × BeginsAt r k
    go (inl z) = absurd (h z)
    go (inr b) = b

-- where a row isn't 0 there is a place for one more step
pub room_for_more : (places steps kept : ℕ) (r : List ℕ) → length r ≡ places → HasGone places steps kept r → (IsZeroRow r → ⊥) → steps < places
room_for_more places steps kept r e h z = let b = begins_somewhere r z in room_left places steps kept b.0 r e h b.1

-- ---- the record
-- the last of the readings
last_of : (ds : List Reading) → 0 < length ds → (d : Reading) × (ds ≡ without_last ds ++ d ∷ [])
last_of [] l = absurd (omega (arith, l))
last_of (d ∷ []) l = (d, refl)
last_of (d ∷ e ∷ ds) l = let w = last_of (e ∷ ds) (omega arith) in (w.0, ap (λ s. d ∷ s) w.1)

-- what stays in the record
pub all_recorded : (Q : Reading → Type 0) (o : Option StepEnd) (ds : List Reading) → (is_stuck o ≡ true → 0 < length ds) → All Q ds → All Q (recorded o ds)
all_recorded Q o ds some h = go (is_stuck o) some
  where
    go : (b : Bool) → (b ≡ true → 0 < length ds) → All Q (cond b (without_last ds) ds)
    go true s = let w = last_of ds (s refl) in (All-pop Q ds (without_last ds) (Some w.0) w.1 h).0
    go false s = h

-- the record has no more readings than there were
pub length_recorded : (o : Option StepEnd) (ds : List Reading) → (is_stuck o ≡ true → 0 < length ds) → length (recorded o ds) ≤ length ds
length_recorded o ds some = go (is_stuck o) some
  where
    go : (b : Bool) → (b ≡ true → 0 < length ds) → length (cond b (without_last ds) ds) ≤ length ds
    go true s = let w = last_of ds (s refl) in omega (arith, ap length w.1, length-append (without_last ds) (w.0 ∷ []))
    go false s = omega arith

-- an end that is stuck is Stuck
pub stuck_end : (o : Option StepEnd) → is_stuck o ≡ true → o ≡ Some Stuck
stuck_end None e = absurd (cc e)
stuck_end (Some Zero) e = absurd (cc e)
stuck_end (Some Reduced) e = absurd (cc e)
stuck_end (Some Stuck) e = refl

-- the next step of a run, with the readings that are recorded
next_step : (R : Ranks) (f : ℕ → Vector) (x : Run) (o : Option StepEnd) (ds : List Reading) (d : Reading) → (steps R f x ds).end ≡ o → (is_stuck o ≡ true → 0 < length ds) → All (λ e. d.corner ≤ e.corner) ds
    → step R f (steps R f x ds) d ≡ steps R f x (recorded o ds ++ d ∷ [])
next_step R f x o ds d e some h = go (is_stuck o) refl
  where
    go : (b : Bool) → is_stuck o ≡ b → step R f (steps R f x ds) d ≡ steps R f x (cond b (without_last ds) ds ++ d ∷ [])
    go false s = sym (steps_more R f x ds d)
    go true s =
        let w = last_of ds (some s) in
        let split : steps R f x ds ≡ step R f (steps R f x (without_last ds)) w.0 = ap (steps R f x) w.1 ∙ steps_more R f x (without_last ds) w.0 in
        ap (λ z. step R f z d) split
        ∙ stuck_dropped R f (steps R f x (without_last ds)) w.0 d (ap (λ z. z.end) (sym split) ∙ e ∙ stuck_end o s) (All-pop (λ e. d.corner ≤ e.corner) ds (without_last ds) (Some w.0) w.1 h).1
        ∙ sym (steps_more R f x (without_last ds) d)

-- a step has an end
step_ends : (R : Ranks) (f : ℕ → Vector) (known : ℕ) (kept : List Vector) (h : Vector) (o : Option ℕ) → (step_at R f known kept h o).end ≡ None → ⊥
step_ends R f known kept h None e = absurd (cc e)
step_ends R f known kept h (Some r) e = go (choose R r (firsts known 0 f ++ kept)) e
  where
    go : (o : Option Reducer) → (reduce R kept h r o).end ≡ None → ⊥
    go None e = absurd (cc e)
    go (Some g) e = absurd (cc e)

-- so has a run with a reading
run_ends : (R : Ranks) (f : ℕ → Vector) (x : Run) (ds : List Reading) → 0 < length ds → (steps R f x ds).end ≡ None → ⊥
run_ends R f x ds l e =
    let w = last_of ds l in
    let y = steps R f x (without_last ds) in
    step_ends R f w.0.known y.kept (cut_at w.0.corner y.poly) (lead R (cut_at w.0.corner y.poly)) (sym (ap (λ z. z.end) (ap (steps R f x) w.1 ∙ steps_more R f x (without_last ds) w.0)) ∙ e)

-- an end that is neither of the others is Reduced
reduced_end : (o : Option StepEnd) → (o ≡ None → ⊥) → (o ≡ Some Zero → ⊥) → is_stuck o ≡ false → o ≡ Some Reduced
reduced_end None n z e = absurd (n refl)
reduced_end (Some Zero) n z e = absurd (z refl)
reduced_end (Some Reduced) n z e = refl
reduced_end (Some Stuck) n z e = absurd (cc e)

-- each reading before the next one ended with Reduced
before_next : (R : Ranks) (f : ℕ → Vector) (x : Run) (o : Option StepEnd) (ds : List Reading) (d : Reading) → (steps R f x ds).end ≡ o → (is_stuck o ≡ true → 0 < length ds) → (o ≡ Some Zero → ⊥)
    → ((j : ℕ) → 0 < j → j < length ds → (steps R f x (take j ds)).end ≡ Some Reduced)
    → (j : ℕ) → 0 < j → j < length (recorded o ds ++ d ∷ []) → (steps R f x (take j (recorded o ds ++ d ∷ []))).end ≡ Some Reduced
before_next R f x o ds d e some going h j l m = go (is_stuck o) refl m
  where
    go : (b : Bool) → is_stuck o ≡ b → j < length (cond b (without_last ds) ds ++ d ∷ []) → (steps R f x (take j (cond b (without_last ds) ds ++ d ∷ []))).end ≡ Some Reduced
    go false s m = by_place (cases_lt j (length ds))
      where
        by_place : (j < length ds) ⊎ (length ds ≤ j) → (steps R f x (take j (ds ++ d ∷ []))).end ≡ Some Reduced
        by_place (inl k) = ap (λ es. (steps R f x es).end) (take-append-le j ds (d ∷ []) (omega (arith, k))) ∙ h j l k
        by_place (inr k) =
            let q : j ≤ length ds = omega (arith, m, length-append ds (d ∷ [])) in
            ap (λ es. (steps R f x es).end) (take-append-le j ds (d ∷ []) q ∙ take_all j ds k) ∙ e
            ∙ reduced_end o (λ n. run_ends R f x ds (omega (arith, l, q)) (e ∙ n)) going s
    go true s m =
        let w = last_of ds (some s) in
        let k : j ≤ length (without_last ds) = omega (arith, m, length-append (without_last ds) (d ∷ [])) in
        ap (λ es. (steps R f x es).end) (take-append-le j (without_last ds) (d ∷ []) k ∙ sym (take-append-le j (without_last ds) (w.0 ∷ []) k) ∙ ap (take j) (sym w.1))
        ∙ h j l (omega (arith, k, ap length w.1, length-append (without_last ds) (w.0 ∷ [])))

-- a step takes the run on
pub has_stepped : (P : Problem) (entries : List Entry) (s : State) (new : State) (d : Reading) → InTable s.p → 1 ≤ s.shape.variables → Knows entries s → HasRun P entries s → d.known ≡ length s.known → All (λ e. d.corner ≤ e.corner) s.reads
    → (is_stuck s.end ≡ true → 0 < length s.reads) → (s.end ≡ Some Zero → ⊥) → RunAlike (ring_of s) (run_in new) (step (ring_of s) (entry_vector s.known) (run_in s) d)
    → new.p ≡ s.p → new.shape ≡ s.shape → new.item ≡ s.item → new.reads ≡ recorded s.end s.reads ++ d ∷ [] → HasRun P entries new
has_stepped P entries s new d t some k h kn c st going a ep es ei er = record {
  over = record { field = h.over.field ∙ sym ep; shape = h.over.shape ∙ sym es };
  item = subst (IsItemOf (length P.gens) (length entries)) (sym ei) h.item;
  known = subst (All (λ d. d.known ≤ length entries)) (sym er) (All-push (λ d. d.known ≤ length entries) (recorded s.end s.reads) d (all_recorded (λ d. d.known ≤ length entries) s.end s.reads st h.known) (omega (arith, kn, k.all)));
  some = λ e. omega (arith, ap length er, length-append (recorded s.end s.reads) (d ∷ []));
  before = subst (λ ds. (j : ℕ) → 0 < j → j < length ds → (run P entries new.item (take j ds)).end ≡ Some Reduced) (sym er)
      (subst (λ i. (j : ℕ) → 0 < j → j < length (recorded s.end s.reads ++ d ∷ []) → (run P entries i (take j (recorded s.end s.reads ++ d ∷ []))).end ≡ Some Reduced) (sym ei)
      (before_next (ranks_of_problem P) (basis_of entries).member (begin (start P entries s.item)) s.end s.reads d (sym h.run.end) st going h.before));
  run = subst (λ R. RunAlike R (run_in new) (run P entries new.item new.reads)) (sym same_new)
      (subst (λ i. RunAlike (ring_of s) (run_in new) (run P entries i new.reads)) (sym ei)
      (subst (λ ds. RunAlike (ring_of s) (run_in new) (run P entries s.item ds)) (sym er) on));
}
  where
    same_new : ring_of new ≡ ring_of s
    same_new = ap (λ x. ring x new.shape) ep ∙ ap (ring s.p) es

    same : ranks_of_problem P ≡ ring_of s
    same = ring_same P s h.over

    old : RunAlike (ring_of s) (step (ring_of s) (entry_vector s.known) (run_in s) d) (step (ring_of s) (basis_of entries).member (run P entries s.item s.reads) d)
    old = step_alike (ring_of s) (ring_laws s.p s.shape t some) (entry_vector s.known) (basis_of entries).member (length entries) k.each (run_in s) (run P entries s.item s.reads) d (omega (arith, kn, k.all)) h.run

    next : step (ring_of s) (basis_of entries).member (run P entries s.item s.reads) d ≡ run P entries s.item (recorded s.end s.reads ++ d ∷ [])
    next = subst (λ R. step R (basis_of entries).member (run P entries s.item s.reads) d ≡ run P entries s.item (recorded s.end s.reads ++ d ∷ [])) same
        (next_step (ranks_of_problem P) (basis_of entries).member (begin (start P entries s.item)) s.end s.reads d (sym h.run.end) st c)

    on : RunAlike (ring_of s) (run_in new) (run P entries s.item (recorded s.end s.reads ++ d ∷ []))
    on = run_trans (ring_of s) (run_in new) (step (ring_of s) (entry_vector s.known) (run_in s) d) (run P entries s.item (recorded s.end s.reads ++ d ∷ [])) a
        (subst (RunAlike (ring_of s) (step (ring_of s) (entry_vector s.known) (run_in s) d)) next old)

-- ---- the state after a step
-- the step on the cut row is the definition's step
pub stepped_is : (s : State) (T : Shape) (r : Reading) (kept : List (List ℕ)) (row new : List ℕ) (e : StepEnd) → T ≡ s.shape → r.known ≡ length s.known → IsCutAt r.corner s.poly row
    → IsAdvance s.p T s.known s.kept row kept new e
    → RunAlike (ring_of s) (record { end = Some e; poly = vector_of_row new; kept = map vector_of_row kept }) (step (ring_of s) (entry_vector s.known) (run_in s) r)
stepped_is s T r kept row new e es k c a =
    subst (λ v. RunAlike (ring_of s) (record { end = Some e; poly = vector_of_row new; kept = map vector_of_row kept }) (step_at (ring_of s) (entry_vector s.known) r.known (map vector_of_row s.kept) v (lead (ring_of s) v))) (cut_vector r.corner s.poly row c)
    (subst (λ m. RunAlike (ring_of s) (record { end = Some e; poly = vector_of_row new; kept = map vector_of_row kept }) (step_at (ring_of s) (entry_vector s.known) m (map vector_of_row s.kept) (vector_of_row row) (lead (ring_of s) (vector_of_row row)))) (sym k)
    (subst (λ R. RunAlike R (record { end = Some e; poly = vector_of_row new; kept = map vector_of_row kept }) (step_at R (entry_vector s.known) (length s.known) (map vector_of_row s.kept) (vector_of_row row) (lead R (vector_of_row row)))) (ap (ring s.p) es) a))

-- after a step that goes on, as many ranks are gone as readings are recorded
pub going_after : (places kept : ℕ) (row : List ℕ) (ds : List Reading) (d : Reading) (e : StepEnd) → HasGone places (steps_after (length ds) e) kept row → goes_on e ≡ true → HasGone places (length (recorded (Some e) (ds ++ d ∷ []))) kept row
going_after places kept row ds d Zero h g = absurd (cc g)
going_after places kept row ds d Reduced h g = subst (λ k. HasGone places k kept row) (omega (arith, length-append ds (d ∷ []))) h
going_after places kept row ds d Stuck h g = subst (λ k. HasGone places k kept row) (ap length (sym (without_last-append ds d))) h

-- a stuck run has no more readings than there are monomials
pub few_readings : (places kept : ℕ) (row : List ℕ) (ds : List Reading) (d : Reading) (e : StepEnd) → length row ≡ places → HasGone places (steps_after (length ds) e) kept row → (e ≡ Stuck → IsZeroRow row → ⊥) → e ≡ Stuck → length (ds ++ d ∷ []) ≤ places
few_readings places kept row ds d e l h z s = omega (arith, length-append ds (d ∷ []), room_for_more places (length ds) kept row l (subst (λ x. HasGone places (steps_after (length ds) x) kept row) s h) (z s))
