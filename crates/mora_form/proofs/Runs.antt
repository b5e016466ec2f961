-- Runs and the entries that they know: the run over rows is the run over the entries.
-- It stays so when an entry is learnt, since the readings so far knew the earlier ones alone.
use Rattle.std.proofs.Common.{◌≡◌, ℕ, zero, suc, ◌+◌, ◌-◌, ◌*◌, ◌%◌, ◌<◌, ◌≤◌, ◌⊎◌, List, [], ◌∷◌, ◌++◌, length, take, All, true, cond, Option, Some, None, slice_get, refl, ap, sym, ◌∙◌, inl, inr, subst, arith}
use Rattle.std.proofs.lemmas.Bool.{cases_lt, eq-eqb}
use Rattle.std.proofs.lemmas.List.{take_all, get_or_push, length-append, get_or_append_left}
use Rattle.std.proofs.lemmas.List.Elements.{All-take}
use Rattle.prime_field.specs.Prime.{InTable}
use Rattle.prime_field.specs.Inverse.{inverse}
use Rattle.local_order.specs.Shape.{Shape, count}
use Rattle.sparse_poly.specs.Shape.{shape_of}
use Rattle.rank_algebra.specs.Ranks.{Ranks, IsRanks}
use Rattle.sparse_poly.specs.Ideal.{Problem}
use Rattle.entry_code.specs.declared.item.Item.{Item}
use Rattle.entry_code.specs.declared.item.Item.TheVariants.{Generator, Pair}
use Rattle.entry_code.specs.declared.reading.Reading.{Reading}
use Rattle.entry_code.specs.declared.term.Term.{Term}
use Rattle.entry_code.specs.Entry.{Entry, no_entry, entry_at}
use Rattle.rank_algebra.specs.Rows.{BeginsAt, vector_of_row}
use Rattle.trunc_row.specs.Rows.{IsRowOfTerms}
use Rattle.trunc_row.proofs.TermRows.{coef-none}
use Rattle.rank_algebra.specs.Vector.{Vector, scale, shift, less, Agree}
use Rattle.rank_algebra.specs.Division.{pair}
use Rattle.mora_law.specs.Ring.{ranks_of_problem, generators_of, ring}
use Rattle.rank_algebra.specs.Ideal.{Generators}
use Rattle.rank_algebra.proofs.Linear.{agree_refl, agree_of, agree_trans, agree_add, agree_scale, agree_shift}
use Rattle.mora_law.specs.Lead.{lead}
use Rattle.mora_law.specs.Step.{Run, step}
use Rattle.mora_law.specs.Run.{steps, begin}
use Rattle.mora_law.specs.Entries.{terms_of, monic_by, monic, lead_rank, basis_of}
use Rattle.entry_code.specs.Terms.{vector_of_terms}
use Rattle.mora_law.specs.declared.step_end.StepEnd.{StepEnd}
use Rattle.mora_law.specs.Legal.{IsItemOf, EndsWith}
use Rattle.mora_law.specs.Start.{start_of, start, run}
use Rattle.mora_law.specs.Alike.{RunAlike}
use Rattle.mora_law.proofs.Choice.{lead_some}
use Rattle.mora_law.proofs.Terms.{terms_same}
use Rattle.mora_law.proofs.Prefixes.{step_same, start_same, fits_more, prefix_append, begins}
use Rattle.mora_law.proofs.Alike.{same_lead}
use Rattle.ecart.specs.declared.summary.Summary.{Summary}
use Rattle.ecart.specs.Choice.{summary_at}
use Rattle.mora_form.specs.Reducers.{row_at, AreSummarized}
use Rattle.mora_form.specs.State.{State, ring_of, entry_vector, run_in, Knows, IsOver, HasRun, AreMonicTerms, draft_in, draft_of}
use Rattle.mora_form.specs.Begin.{basis_in}
use Rattle.mora_law.proofs.Ring.{ring_of_problem, ring_p, ring_count, ring_inverse, ring_laws}

-- ---- an entry that is learnt
-- the row begins at the first term
pub terms_begin : (p places : ℕ) (ts : List Term) (r : List ℕ) → AreMonicTerms p places ts → IsRowOfTerms places ts r → BeginsAt r (lead_rank ts)
terms_begin p places [] r h w = absurd (omega (arith, h.some))
terms_begin p places (t ∷ ts) r h w = record {
  within = omega (arith, w.full, h.ranks.low 0 t (omega arith));
  some = λ e. omega (arith, e, w.coefs t.rank, ap (λ b. cond b t.coef (vector_of_terms ts t.rank)) (eq-eqb t.rank t.rank refl), h.one);
  before = λ k l.
      w.coefs k
      ∙ ap (λ s. vector_of_terms s k) (sym (take_all (length (t ∷ ts)) (t ∷ ts) (omega arith)))
      ∙ coef-none (t ∷ ts) (length (t ∷ ts)) k (λ i u m e f. apart k l i u e f);
}
  where
    apart : (k : ℕ) → k < t.rank → (i : ℕ) (u : Term) → slice_get (t ∷ ts) i ≡ Some u → u.rank ≡ k → ⊥
    apart k l zero u e f = let same : t ≡ u = cc e in omega (arith, ap (λ x. x.rank) same, f, l)
    apart k l (suc i) u e f = omega (arith, h.ranks.rising 0 (suc i) t u (omega arith) refl e, f, l)

-- the first term
pub first_term : (ts : List Term) (t : Term) → slice_get ts 0 ≡ Some t → t.rank ≡ lead_rank ts
first_term [] t e = absurd (cc e)
first_term (u ∷ ts) t e = let same : u ≡ t = cc e in ap (λ x. x.rank) (sym same)

-- ---- one entry more
-- the entries are those that are known with the one that is learnt
pub knows_more : (entries : List Entry) (e : Entry) (s : State) (r : List ℕ) → AreMonicTerms s.p (count s.shape) e.terms → IsRowOfTerms (count s.shape) e.terms r → Knows entries s
    → Knows (entries ++ e ∷ []) (record s { known = s.known ++ r ∷ [] })
knows_more entries e s r m w h = record {
  all = length-append s.known (r ∷ []) ∙ ap (λ k. k + 1) h.all ∙ sym (length-append entries (e ∷ []));
  each = λ k l. go k l (cases_lt k (length entries));
  leads = λ k l. begins_at k l (cases_lt k (length entries));
}
  where
    go : (k : ℕ) → k < length (entries ++ e ∷ []) → (k < length entries) ⊎ (length entries ≤ k) → Agree (ring_of s) (ring_of s).n (entry_vector (s.known ++ r ∷ []) k) (vector_of_terms (entry_at (entries ++ e ∷ []) k).terms)
    go k l (inl b) = subst (λ x. Agree (ring_of s) (ring_of s).n (vector_of_row x) (vector_of_terms (entry_at (entries ++ e ∷ []) k).terms)) (sym (get_or_append_left s.known (r ∷ []) [] k (omega (arith, b, h.all))))
        (subst (λ x. Agree (ring_of s) (ring_of s).n (entry_vector s.known k) (vector_of_terms x.terms)) (sym ((prefix_append entries (e ∷ [])).same k b)) (h.each k b))
    go k l (inr b) =
        let here : length entries ≡ k = omega (arith, l, b, length-append entries (e ∷ [])) in
        subst (λ x. Agree (ring_of s) (ring_of s).n (vector_of_row x) (vector_of_terms (entry_at (entries ++ e ∷ []) k).terms)) (sym (get_or_push s.known r [] k (h.all ∙ here)))
        (subst (λ x. Agree (ring_of s) (ring_of s).n (vector_of_row r) (vector_of_terms x.terms)) (sym (get_or_push entries e no_entry k here))
        (agree_of (ring_of s) (ring_of s).n (vector_of_row r) (vector_of_terms e.terms) (λ x y. w.coefs x)))

    begins_at : (k : ℕ) → k < length (entries ++ e ∷ []) → (k < length entries) ⊎ (length entries ≤ k) → BeginsAt (row_at (s.known ++ r ∷ []) k) (lead_rank (entry_at (entries ++ e ∷ []) k).terms)
    begins_at k l (inl b) = subst (λ x. BeginsAt x (lead_rank (entry_at (entries ++ e ∷ []) k).terms)) (sym (get_or_append_left s.known (r ∷ []) [] k (omega (arith, b, h.all))))
        (subst (λ x. BeginsAt (row_at s.known k) (lead_rank x.terms)) (sym ((prefix_append entries (e ∷ [])).same k b)) (h.leads k b))
    begins_at k l (inr b) =
        let here : length entries ≡ k = omega (arith, l, b, length-append entries (e ∷ [])) in
        subst (λ x. BeginsAt x (lead_rank (entry_at (entries ++ e ∷ []) k).terms)) (sym (get_or_push s.known r [] k (h.all ∙ here)))
        (subst (λ x. BeginsAt r (lead_rank x.terms)) (sym (get_or_push entries e no_entry k here)) (terms_begin s.p (count s.shape) e.terms r m w))

-- steps that know only the first entries are the same over more entries
steps_same : (R : Ranks) (f g : ℕ → Vector) (s : ℕ) → ((x : ℕ) → x < s → g x ≡ f x) → (ds : List Reading) → All (λ d. d.known ≤ s) ds → (x : Run) → steps R g x ds ≡ steps R f x ds
steps_same R f g s e [] h x = refl
steps_same R f g s e (d ∷ ds) h x =
    ap (λ y. steps R g y ds) (step_same R f g s x d (h 0 d (omega arith)) e)
    ∙ steps_same R f g s e ds (λ k y l. h (suc k) y (omega (arith, l))) (step R f x d)

-- a run over the entries is the same over more entries
pub run_more : (P : Problem) (entries : List Entry) (e : Entry) (item : Item) (ds : List Reading) → IsItemOf (length P.gens) (length entries) item → All (λ d. d.known ≤ length entries) ds
    → run P (entries ++ e ∷ []) item ds ≡ run P entries item ds
run_more P entries e item ds h k =
    ap (λ f. steps (ranks_of_problem P) (basis_of (entries ++ e ∷ [])).member (begin f) ds)
    (start_same (ranks_of_problem P) (generators_of P) (basis_of entries) (basis_of (entries ++ e ∷ [])) (length entries) (begins entries (entries ++ e ∷ []) (prefix_append entries (e ∷ []))) item h)
    ∙ steps_same (ranks_of_problem P) (basis_of entries).member (basis_of (entries ++ e ∷ [])).member (length entries) (λ x l. ap (λ y. vector_of_terms y.terms) ((prefix_append entries (e ∷ [])).same x l)) ds k
    (begin (start_of (ranks_of_problem P) (generators_of P) (basis_of entries) item))

-- a run over the entries is one over more entries
pub has_run_more : (P : Problem) (entries : List Entry) (e : Entry) (s : State) (known : List (List ℕ)) → HasRun P entries s → HasRun P (entries ++ e ∷ []) (record s { known = known })
has_run_more P entries e s known h = record {
  over = record { field = h.over.field; shape = h.over.shape };
  item = fits_more (generators_of P) (length entries) (length (entries ++ e ∷ [])) (omega (arith, length-append entries (e ∷ []))) s.item h.item;
  known = λ k x l. omega (arith, h.known k x l, length-append entries (e ∷ []));
  some = h.some;
  before = λ j l m. ap (λ x. x.end) (run_more P entries e s.item (take j s.reads) h.item (All-take (λ d. d.known ≤ length entries) j s.reads h.known)) ∙ h.before j l m;
  run = subst (RunAlike (ring_of s) (run_in s)) (sym (run_more P entries e s.item s.reads h.item h.known)) h.run;
}

-- ---- where a run begins
-- a row begins at one rank only
begins_one : (r : List ℕ) (a b : ℕ) → BeginsAt r a → BeginsAt r b → a ≡ b
begins_one r a b h k = go (cases_lt a b) (cases_lt b a)
  where
    go : (a < b) ⊎ (b ≤ a) → (b < a) ⊎ (a ≤ b) → a ≡ b
    go (inl l) m = absurd (h.some (k.before a l))
    go (inr l) (inl m) = absurd (k.some (h.before b m))
    go (inr l) (inr m) = omega (arith, l, m)

-- the start over the known rows agrees with the start over the entries
pub starts_agree : (s : State) → InTable s.p → 1 ≤ s.shape.variables → (G : Generators) (entries : List Entry) (summaries : List Summary) → Knows entries s → AreSummarized s.shape s.known summaries → (item : Item)
    → IsItemOf G.count (length entries) item → Agree (ring_of s) (ring_of s).n (start_of (ring_of s) G (basis_in s.known summaries) item) (start_of (ring_of s) G (basis_of entries) item)
starts_agree s t some G entries summaries h w (Generator g) l = agree_refl (ring_of s) (ring_of s).n (G.member g)
starts_agree s t some G entries summaries h w (Pair i j) l =
    subst (λ a. Agree (ring_of s) (ring_of s).n (pair (ring_of s) (basis_in s.known summaries) i j) (by a (lead_rank (entry_at entries j).terms))) (lead_same i (omega (arith, l.0, l.1)))
    (subst (λ b. Agree (ring_of s) (ring_of s).n (pair (ring_of s) (basis_in s.known summaries) i j) (by (summary_at summaries i).lead b)) (lead_same j l.1)
    (agree_add (agree_shift (ring_of s) L (ring_of s).n _ _ _ (omega arith) (h.each i (omega (arith, l.0, l.1))))
    (agree_scale (((ring_of s).p - 1) * 1) (agree_shift (ring_of s) L (ring_of s).n _ _ _ (omega arith) (h.each j l.1)))))
  where
    L : IsRanks (ring_of s)
    L = ring_laws s.p s.shape t some

    lead_same : (k : ℕ) → k < length entries → (summary_at summaries k).lead ≡ lead_rank (entry_at entries k).terms
    lead_same k m = begins_one (row_at s.known k) (summary_at summaries k).lead (lead_rank (entry_at entries k).terms) (w.each k (omega (arith, m, h.all))).begins (h.leads k m)

    by : ℕ → ℕ → Vector
    by a b = less (ring_of s) 1 (shift (ring_of s) ((ring_of s).cofactor b a) (vector_of_terms (entry_at entries j).terms)) (shift (ring_of s) ((ring_of s).cofactor a b) (vector_of_terms (entry_at entries i).terms))

-- the ring of the problem is that of the state
pub ring_same : (P : Problem) (s : State) → IsOver P s → ranks_of_problem P ≡ ring_of s
ring_same P s h = ring_of_problem P ∙ ap (λ x. ring x (shape_of P)) h.field ∙ ap (ring s.p) h.shape

-- ---- drafts
-- vectors that agree are made monic to vectors that agree
pub monic_same : (p : ℕ) (T : Shape) → InTable p → 1 ≤ T.variables → (v u : Vector) → Agree (ring p T) (ring p T).n v u → Agree (ring p T) (ring p T).n (monic (ring p T) v) (monic (ring p T) u)
monic_same p T t some v u h = subst (λ o. Agree (ring p T) (ring p T).n (monic (ring p T) v) (monic_by (ring p T) u o)) (same_lead (ring p T) v u h) (go (lead (ring p T) v) refl)
  where
    go : (o : Option ℕ) → lead (ring p T) v ≡ o → Agree (ring p T) (ring p T).n (monic_by (ring p T) v o) (monic_by (ring p T) u o)
    go None e = h
    go (Some r) e = subst (λ c. Agree (ring p T) (ring p T).n (scale ((ring p T).inverse_of (v r)) v) (scale c u)) (same_inverse r (lead_some (ring p T) v r e).small) (agree_scale ((ring p T).inverse_of (v r)) h)
      where
        same_inverse : (r : ℕ) → r < (ring p T).n → (ring p T).inverse_of (v r) ≡ (ring p T).inverse_of (u r)
        same_inverse r l = ring_inverse p T (v r) ∙ ap (inverse p) (subst (λ q. v r % q ≡ u r % q) (ring_p p T) (h.at r l).eq) ∙ sym (ring_inverse p T (u r))

-- the draft over the rows is the draft of the run
pub draft_same : (P : Problem) (entries : List Entry) (s : State) → InTable s.p → 1 ≤ s.shape.variables → HasRun P entries s → draft_in s ≡ draft_of P entries s.item s.reads
draft_same P entries s t some h =
    ap (λ ts. record { item = s.item; reads = s.reads; terms = ts })
    (terms_same (ring_of s) (monic (ring_of s) (vector_of_row s.poly)) (monic (ring_of s) (run P entries s.item s.reads).poly) (monic_same s.p s.shape t some (vector_of_row s.poly) (run P entries s.item s.reads).poly h.run.poly)
    ∙ ap (λ R. terms_of R (monic R (run P entries s.item s.reads).poly)) (sym (ring_same P s h.over)))

-- ---- a run begins
-- the row from which a run begins agrees with the start of its item
pub begun : (P : Problem) (s : State) → InTable s.p → 1 ≤ s.shape.variables → (entries : List Entry) (summaries : List Summary) (item : Item) (row : List ℕ) → IsOver P s → Knows entries s → AreSummarized s.shape s.known summaries
    → IsItemOf (length P.gens) (length s.known) item
    → Agree (ranks_of_problem P) (count s.shape) (vector_of_row row) (start_of (ranks_of_problem P) (generators_of P) (basis_in s.known summaries) item)
    → Agree (ring_of s) (ring_of s).n (vector_of_row row) (start P entries item)
begun P s t some entries summaries item row o h w l a =
    subst (λ R. Agree (ring_of s) (ring_of s).n (vector_of_row row) (start_of R (generators_of P) (basis_of entries) item)) (sym same)
    (agree_trans (subst (λ k. Agree (ring_of s) k (vector_of_row row) (start_of (ring_of s) (generators_of P) (basis_in s.known summaries) item)) (sym (ring_count s.p s.shape))
    (subst (λ R. Agree R (count s.shape) (vector_of_row row) (start_of R (generators_of P) (basis_in s.known summaries) item)) same a))
    (starts_agree s t some (generators_of P) entries summaries h w item (subst (λ k. IsItemOf (length P.gens) k item) h.all l)))
  where
    same : ranks_of_problem P ≡ ring_of s
    same = ring_same P s o

-- its record is empty
pub has_begun : (P : Problem) (s : State) (entries : List Entry) (item : Item) (row : List ℕ) → IsOver P s → Knows entries s → IsItemOf (length P.gens) (length s.known) item
    → Agree (ring_of s) (ring_of s).n (vector_of_row row) (start P entries item)
    → HasRun P entries (record s { is_open = true; item = item; reads = []; end = None; poly = row; kept = [] })
has_begun P s entries item row o h l a = record {
  over = record { field = o.field; shape = o.shape };
  item = subst (λ k. IsItemOf (length P.gens) k item) h.all l;
  known = λ k x m. absurd (omega (arith, m));
  some = λ f. absurd (f refl);
  before = λ j k m. absurd (omega (arith, m));
  run = record { end = refl; poly = a; kept = tt };
}

-- ---- how it ends
-- a run has the ends that entries have: each reading but the last ended with Reduced
pub ends_with : (P : Problem) (entries : List Entry) (s : State) (e : StepEnd) → HasRun P entries s → s.end ≡ Some e → EndsWith (ranks_of_problem P) (generators_of P) (basis_of entries) s.item s.reads e
ends_with P entries s e h q = record { some = h.some (λ n. absurd (cc (n, q))); before = h.before; last_end = sym h.run.end ∙ q }
