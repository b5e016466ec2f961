-- What holds when nothing is known and no run is open.
-- There are no rows and no readings, and there is room for all that may come.
use Rattle.std.proofs.Common.{◌≡◌, ℕ, ◌+◌, ◌<◌, ◌≤◌, List, [], length, get_or, replicate, None, false, ap, ap₂, sym, ◌∙◌, subst, arith}
use Rattle.std.proofs.lemmas.List.{length-replicate, get_or-replicate}
use Rattle.prime_field.specs.Prime.{InTable}
use Rattle.prime_field.proofs.Primality.{IsPrime-table}
use Rattle.local_order.specs.Shape.{Shape, count}
use Rattle.mono_rank.specs.Stored.{HasLimits}
use Rattle.entry_code.specs.Entry.{HasRoom}
use Rattle.entry_code.specs.declared.item.Item.{Item}
use Rattle.entry_code.specs.declared.reading.Reading.{Reading}
use Rattle.rank_algebra.specs.Rows.{IsRow}
use Rattle.mora_form.specs.declared.reducers.Reducers.{Reducers}
use Rattle.mora_form.specs.declared.mora.Mora.TheInside.{Inside}
use Rattle.mora_form.specs.Reducers.{HasPlaces}
use Rattle.mora_form.specs.State.{State}
use Rattle.mora_form.specs.Held.{AreReducers}
use Rattle.mora_form.specs.Inside.{shape_in, IsSound}

-- no reducers yet
none_yet : (p : ℕ) (T : Shape) (places : ℕ) (s : Reducers) → count T ≡ places → s.rows.list ≡ [] → s.summaries.items ≡ [] → HasPlaces places s → AreReducers p T s
none_yet p T places s e r u h = record {
  room = subst (λ k. HasPlaces k s) (sym e) h;
  rows = λ i l. absurd (omega (arith, l, ap length r));
  summarized = record { beside = ap length u ∙ sym (ap length r); each = λ i l. absurd (omega (arith, l, ap length r)) };
}

-- zeros are a row of residues
zero_row : (p count : ℕ) (r : List ℕ) → 0 < p → (let z : ℕ = 0 in r ≡ replicate count z) → IsRow p count r
zero_row p count r l e =
    let z : ℕ = 0 in
    subst (IsRow p count) (sym e) (record { full = length-replicate count z; residues = λ k x m. subst (λ y. y < p) (sym (at count k x (omega (arith, m, length-replicate count z)))) l })
  where
    at : (n k x : ℕ) → k < n → (let z : ℕ = 0 in get_or (replicate n z) k x ≡ z)
    at n k x l = get_or-replicate n k 0 x l

-- what `open` makes keeps the invariant
pub opened : (T : Shape) (places : ℕ) (a : Inside) → HasLimits T → InTable a.field → shape_in a ≡ T → places ≡ count T
    → a.known.rows.list ≡ [] → a.known.summaries.items ≡ [] → HasPlaces places a.known → a.kept.rows.list ≡ [] → a.kept.summaries.items ≡ [] → HasPlaces places a.kept
    → (let z : ℕ = 0 in a.row ≡ replicate places z) → (let z : ℕ = 0 in a.scratch ≡ replicate places z) → places + 1 ≤ a.reads.places → HasRoom places a.draft → a.is_open ≡ false → a.end ≡ None → IsSound a
opened T places a L t es ce kr ku kp tr tu tp r s reads draft o e =
    let N : count (shape_in a) ≡ places = ap count es ∙ sym ce in
    let prime = IsPrime-table a.field t in
    let z : ℕ = 0 in
    record {
      limits = subst HasLimits (sym es) L;
      field = t;
      known = none_yet a.field (shape_in a) places a.known N kr ku kp;
      kept = none_yet a.field (shape_in a) places a.kept N tr tu tp;
      few_known = omega (arith, ap length kr);
      row = subst (λ k. IsRow a.field k a.row) (sym N) (zero_row a.field places a.row (omega (arith, prime.two_up)) r);
      scratch = ap length s ∙ length-replicate places z ∙ sym N;
      reads_room = omega (arith, N, reads);
      draft_room = (omega (arith, N, draft.0), omega (arith, N, draft.1));
      going = λ h. absurd (cc (h, o));
      ended = λ h. o;
      stuck = λ h. absurd (cc (h, e));
    }

-- what it is seen as
pub seen : (p : ℕ) (T M : Shape) (places : ℕ) (item : Item) (K U : List (List ℕ)) (reads : List Reading) (row : List ℕ) → M ≡ T → places ≡ count T → K ≡ [] → U ≡ [] → reads ≡ []
    → (let z : ℕ = 0 in row ≡ replicate places z)
    → (let z : ℕ = 0 in let s : State = record { p = p; shape = M; known = K; is_open = false; item = item; reads = reads; end = None; poly = row; kept = U } in
    s ≡ record { p = p; shape = T; known = []; is_open = false; item = item; reads = []; end = None; poly = replicate (count T) z; kept = [] })
seen p T M places item K U reads row es ce k t r w =
    let z : ℕ = 0 in
    ap (λ x. record { p = p; shape = x; known = K; is_open = false; item = item; reads = reads; end = None; poly = row; kept = U }) es
    ∙ ap₂ (λ x y. record { p = p; shape = T; known = x; is_open = false; item = item; reads = reads; end = None; poly = row; kept = y }) k t
    ∙ ap₂ (λ x y. record { p = p; shape = T; known = []; is_open = false; item = item; reads = x; end = None; poly = y; kept = [] }) r (w ∙ ap (λ c. replicate c z) ce)
