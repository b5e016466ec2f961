-- A step on rows is the definition's step on their vectors.
-- The candidates are told place by place, so what is chosen by summaries is the first of least ecart among them.
use Rattle.std.proofs.Common.{◌≡◌, ℕ, zero, suc, ◌+◌, ◌-◌, ◌<◌, ◌≤◌, ◌⊎◌, List, [], ◌∷◌, ◌++◌, length, map, get_or, All, Bool, true, false, cond, ltb, Option, Some, None, refl, ap, ap₂, sym, ◌∙◌, inl, inr, subst, arith}
use Rattle.std.proofs.lemmas.Bool.{cases_lt}
use Rattle.std.proofs.lemmas.List.{get_or_default, get_or_push, length-append, length-map, get_or-append_right, get_or_append_left, map-append, get_or-map}
use Rattle.prime_field.specs.Prime.{InTable}
use Rattle.local_order.specs.Mono.{Divides}
use Rattle.local_order.specs.Shape.{Shape, count}
use Rattle.mono_rank.specs.Rank.{mono_of_rank}
use Rattle.mono_rank.specs.Laws.{numbering, rank_quotient}
use Rattle.rank_algebra.specs.Ranks.{Ranks}
use Rattle.mono_rank.proofs.ByRank.{rank-mono_of_rank}
use Rattle.mono_rank.proofs.Numbers.{quotient_of_ranks}
use Rattle.rank_algebra.specs.Rows.{IsRow, vector_of_row}
use Rattle.rank_algebra.specs.Vector.{Vector, nothing}
use Rattle.rank_algebra.proofs.Linear.{agree_refl}
use Rattle.mora_law.specs.declared.step_end.StepEnd.TheVariants.{Reduced, Stuck}
use Rattle.mora_law.specs.Lead.{ecart}
use Rattle.mora_law.specs.Step.{Reducer, reducer, reducer_at, reducer_by, choose, firsts, keep, reduce}
use Rattle.mora_law.specs.Alike.{AllAlike, RunAlike}
use Rattle.ecart.specs.declared.summary.Summary.{Summary}
use Rattle.ecart.specs.declared.choice.Choice.{Choice}
use Rattle.ecart.specs.declared.choice.Choice.TheVariants.{Entry, Kept}
use Rattle.ecart.specs.Choice.{no_summary, summary_at, ecart_of, IsSummary, IsChoice, IsNoChoice}
use Rattle.mora_form.specs.Reducers.{row_at, AreRows, IsSummaryOf, AreSummarized}
use Rattle.mora_form.specs.State.{entry_vector}
use Rattle.mora_law.specs.Ring.{ring}
use Rattle.mora_form.specs.Chosen.{IsThere, chosen_summary, chosen_row, with_kept}
use Rattle.mora_form.specs.Reduction.{IsReduced, IsStepOn}
use Rattle.mora_form.proofs.Vectors.{lead_of_row}
use Rattle.mora_law.proofs.Ring.{ring_quotient}
use Rattle.mora_form.proofs.Summaries.{ecart_of_row}
use Rattle.mora_law.proofs.Least.{none_chosen, least_chosen}

-- the vector at a place
abbrev vector_at : List Vector → ℕ → Vector
vector_at gs i = get_or gs i nothing

-- the vectors one after another
firsts_from : (rows : List (List ℕ)) (k left : ℕ) (s : List (List ℕ)) → length s ≡ left → ((i : ℕ) → i < left → row_at rows (k + i) ≡ row_at s i) → firsts left k (entry_vector rows) ≡ map vector_of_row s
firsts_from rows k zero [] e h = refl
firsts_from rows k zero (x ∷ s) e h = absurd (omega (arith, e))
firsts_from rows k (suc left) [] e h = absurd (omega (arith, e))
firsts_from rows k (suc left) (x ∷ s) e h =
    ap₂ (λ a b. a ∷ b) (ap vector_of_row (ap (row_at rows) (let q : k ≡ k + 0 = omega arith in q) ∙ h 0 (omega arith)))
    (firsts_from rows (suc k) left s (omega (arith, e)) (λ i l. ap (row_at rows) (let q : suc k + i ≡ k + suc i = omega arith in q) ∙ h (suc i) (omega (arith, l))))

-- the first entries, one for each row, are the rows as vectors
pub firsts_map : (rows : List (List ℕ)) → firsts (length rows) 0 (entry_vector rows) ≡ map vector_of_row rows
firsts_map rows = firsts_from rows 0 (length rows) rows refl (λ i l. ap (row_at rows) (let q : 0 + i ≡ i = omega arith in q))

-- each list is alike to itself
pub alike_refl : (R : Ranks) (gs : List Vector) → AllAlike R gs gs
alike_refl R [] = tt
alike_refl R (g ∷ gs) = (agree_refl R R.n g, alike_refl R gs)

module _ (p : ℕ) (M : Shape) (t : InTable p) (some : 1 ≤ M.variables) (r : ℕ) (low : r < count M) where
  -- ---- one reducer
  module _ (row : List ℕ) (s : Summary) (w : IsRow p (count M) row) (h : IsSummaryOf M row s) where
    -- the lead is the rank of a monomial
    lead_small : s.lead < count M
    lead_small = omega (arith, h.begins.within, w.full)

    -- the row is a reducer where its lead divides
    by_lead : reducer (ring p M) r (vector_of_row row) ≡ reducer_by (vector_of_row row) s.lead ((ring p M).quotient r s.lead)
    by_lead = ap (reducer_at (ring p M) r (vector_of_row row)) (lead_of_row p M t some row s.lead w h.begins)

    -- the row is the reducer with the quotient of r by its lead as cofactor
    reducer_is : (q : ℕ) → rank_quotient (numbering M) r s.lead ≡ Some q → reducer (ring p M) r (vector_of_row row) ≡ Some (record { poly = vector_of_row row; lead = s.lead; cofactor = q })
    reducer_is q e = by_lead ∙ ap (reducer_by (vector_of_row row) s.lead) (ring_quotient p M r s.lead ∙ e)

    -- where the lead divides there is a quotient
    quotients : Divides (mono_of_rank M s.lead) (mono_of_rank M r) → (q : ℕ) × (rank_quotient (numbering M) r s.lead ≡ Some q)
    quotients e = (quotient_of_ranks M (mono_of_rank M s.lead) (mono_of_rank M r) s.lead r (rank-mono_of_rank M s.lead some lead_small) (rank-mono_of_rank M r some low)).0 e

    -- where there is a quotient the lead divides
    divided : (q : ℕ) → rank_quotient (numbering M) r s.lead ≡ Some q → Divides (mono_of_rank M s.lead) (mono_of_rank M r)
    divided q e = (quotient_of_ranks M (mono_of_rank M s.lead) (mono_of_rank M r) s.lead r (rank-mono_of_rank M s.lead some lead_small) (rank-mono_of_rank M r some low)).1 (q, e)

    -- where the lead doesn't divide, the row is no reducer
    reducer_none : (Divides (mono_of_rank M s.lead) (mono_of_rank M r) → ⊥) → reducer (ring p M) r (vector_of_row row) ≡ None
    reducer_none never = by_lead ∙ go ((ring p M).quotient r s.lead) (sym (ring_quotient p M r s.lead))
      where
        go : (o : Option ℕ) → rank_quotient (numbering M) r s.lead ≡ o → reducer_by (vector_of_row row) s.lead o ≡ None
        go None e = refl
        go (Some q) e = absurd (never (divided q e))

    -- what is known of a reducer
    reducer_tells : (x : Reducer) → reducer (ring p M) r (vector_of_row row) ≡ Some x → Divides (mono_of_rank M s.lead) (mono_of_rank M r) × (ecart (ring p M) x.poly ≡ ecart_of s)
    reducer_tells x e = go ((ring p M).quotient r s.lead) (sym (ring_quotient p M r s.lead)) (sym by_lead ∙ e)
      where
        go : (o : Option ℕ) → rank_quotient (numbering M) r s.lead ≡ o → reducer_by (vector_of_row row) s.lead o ≡ Some x → Divides (mono_of_rank M s.lead) (mono_of_rank M r) × (ecart (ring p M) x.poly ≡ ecart_of s)
        go None f g = absurd (cc g)
        go (Some q) f g = (divided q f, ap (λ v. ecart (ring p M) v) (poly g) ∙ ecart_of_row p M row w t some s h)
          where
            poly : Some (record { poly = vector_of_row row; lead = s.lead; cofactor = q }) ≡ Some x → x.poly ≡ vector_of_row row
            poly g = let same : record { poly = vector_of_row row; lead = s.lead; cofactor = q } ≡ x = cc g in ap (λ y. y.poly) (sym same)

  -- ---- the candidates
  module _ (K T : List (List ℕ)) (S U : List Summary) (wK : AreRows p (count M) K) (wT : AreRows p (count M) T) (hK : AreSummarized M K S) (hT : AreSummarized M T U) where
    -- the known rows and behind them the intermediates, as vectors
    abbrev candidates : List Vector
    candidates = firsts (length K) 0 (entry_vector K) ++ map vector_of_row T

    -- at the place of a known row stands its vector
    known_at : (i : ℕ) → i < length K → vector_at candidates i ≡ vector_of_row (row_at K i)
    known_at i l =
        ap (λ gs. vector_at (gs ++ map vector_of_row T) i) (firsts_map K)
        ∙ get_or_append_left (map vector_of_row K) (map vector_of_row T) nothing i (omega (arith, l, length-map K vector_of_row))
        ∙ get_or-map vector_of_row K i [] nothing l

    -- behind the known rows stand the vectors of the intermediates
    kept_at : (k : ℕ) → k < length T → vector_at candidates (length K + k) ≡ vector_of_row (row_at T k)
    kept_at k l =
        ap (λ gs. vector_at (gs ++ map vector_of_row T) (length K + k)) (firsts_map K)
        ∙ get_or-append_right (map vector_of_row K) (map vector_of_row T) (length K) (length K + k) nothing (length-map K vector_of_row) (omega arith)
        ∙ ap (vector_at (map vector_of_row T)) (let q : length K + k - length K ≡ k = omega arith in q)
        ∙ get_or-map vector_of_row T k [] nothing l

    -- there are as many candidates as known rows and intermediates
    size : length candidates ≡ length K + length T
    size = length-append (firsts (length K) 0 (entry_vector K)) (map vector_of_row T) ∙ ap₂ (λ a b. a + b) (ap length (firsts_map K) ∙ length-map K vector_of_row) (length-map T vector_of_row)

    -- a known row whose lead doesn't divide is no reducer
    known_none : (i : ℕ) → i < length K → (Divides (mono_of_rank M (summary_at S i).lead) (mono_of_rank M r) → ⊥) → reducer (ring p M) r (vector_at candidates i) ≡ None
    known_none i l never = ap (reducer (ring p M) r) (known_at i l) ∙ reducer_none (row_at K i) (summary_at S i) (wK i l) (hK.each i l) never

    -- an intermediate whose lead doesn't divide is no reducer
    kept_none : (k : ℕ) → k < length T → (Divides (mono_of_rank M (summary_at U k).lead) (mono_of_rank M r) → ⊥) → reducer (ring p M) r (vector_at candidates (length K + k)) ≡ None
    kept_none k l never = ap (reducer (ring p M) r) (kept_at k l) ∙ reducer_none (row_at T k) (summary_at U k) (wT k l) (hT.each k l) never

    -- the lead of a known row that is a reducer divides, and its ecart is that of the summary
    known_tells : (i : ℕ) (x : Reducer) → i < length K → reducer (ring p M) r (vector_at candidates i) ≡ Some x → Divides (mono_of_rank M (summary_at S i).lead) (mono_of_rank M r) × (ecart (ring p M) x.poly ≡ ecart_of (summary_at S i))
    known_tells i x l e = reducer_tells (row_at K i) (summary_at S i) (wK i l) (hK.each i l) x (sym (ap (reducer (ring p M) r) (known_at i l)) ∙ e)

    -- the lead of an intermediate that is a reducer divides, and its ecart is that of the summary
    kept_tells : (k : ℕ) (x : Reducer) → k < length T → reducer (ring p M) r (vector_at candidates (length K + k)) ≡ Some x → Divides (mono_of_rank M (summary_at U k).lead) (mono_of_rank M r) × (ecart (ring p M) x.poly ≡ ecart_of (summary_at U k))
    kept_tells k x l e = reducer_tells (row_at T k) (summary_at U k) (wT k l) (hT.each k l) x (sym (ap (reducer (ring p M) r) (kept_at k l)) ∙ e)

    -- a place is that of an entry or of an intermediate
    split : (P : ℕ → Type 0) → ((i : ℕ) → i < length K → P i) → ((k : ℕ) → k < length T → P (length K + k)) → (j : ℕ) → j < length K + length T → P j
    split P f g j l = go (cases_lt j (length K))
      where
        go : (j < length K) ⊎ (length K ≤ j) → P j
        go (inl m) = f j m
        go (inr m) = let e : length K + (j - length K) ≡ j = omega (arith, m) in subst P e (g (j - length K) (omega (arith, l, m)))

    -- where nothing is chosen the definition chooses nothing
    pub none_is : IsNoChoice M S U r → choose (ring p M) r candidates ≡ None
    none_is h = none_chosen (ring p M) r candidates (λ j l. split (λ j. reducer (ring p M) r (vector_at candidates j) ≡ None)
        (λ i m. known_none i m (h.none_of_list i (omega (arith, m, hK.beside)))) (λ k m. kept_none k m (h.none_of_kept k (omega (arith, m, hT.beside)))) j (omega (arith, l, size)))

    -- a choice is one of the members
    pub there_is : (c : Choice) → IsChoice M S U r c → IsThere (length S) (length U) c
    there_is (Entry i) h = h.least.within
    there_is (Kept k) h = h.least.within

    -- the lead of what is chosen divides
    pub divides_is : (c : Choice) → IsChoice M S U r c → Divides (mono_of_rank M (chosen_summary S U c).lead) (mono_of_rank M r)
    divides_is (Entry i) h = h.least.reduces
    divides_is (Kept k) h = h.least.reduces

    -- what is chosen is a row of residues with its summary
    pub chosen_row_is : (c : Choice) → IsThere (length S) (length U) c → IsRow p (count M) (chosen_row K T c) × IsSummaryOf M (chosen_row K T c) (chosen_summary S U c)
    chosen_row_is (Entry i) l = (wK i (omega (arith, l, hK.beside)), hK.each i (omega (arith, l, hK.beside)))
    chosen_row_is (Kept k) l = (wT k (omega (arith, l, hT.beside)), hT.each k (omega (arith, l, hT.beside)))

    -- what is chosen is what the definition chooses
    pub chosen_is : (c : Choice) → IsChoice M S U r c → (q : ℕ) → rank_quotient (numbering M) r (chosen_summary S U c).lead ≡ Some q
        → choose (ring p M) r candidates ≡ Some (record { poly = vector_of_row (chosen_row K T c); lead = (chosen_summary S U c).lead; cofactor = q })
    chosen_is (Entry i) h q e = least_chosen (ring p M) r candidates i (record { poly = vector_of_row (row_at K i); lead = (summary_at S i).lead; cofactor = q }) (record {
      within = omega (arith, l, size);
      is = ap (reducer (ring p M) r) (known_at i l) ∙ reducer_is (row_at K i) (summary_at S i) (wK i l) (hK.each i l) q e;
      before = λ j x m f. let w = known_tells j x (omega (arith, l, m)) f in omega (arith, own, w.1, h.least.first j m w.0);
      behind = λ j x o m f. split (λ j. reducer (ring p M) r (vector_at candidates j) ≡ Some x → ecart (ring p M) (vector_of_row (row_at K i)) ≤ ecart (ring p M) x.poly)
          (λ j m f. let w = known_tells j x m f in omega (arith, own, w.1, h.least.least j (omega (arith, m, hK.beside)) w.0))
          (λ k m f. let w = kept_tells k x m f in omega (arith, own, w.1, h.over_kept k (omega (arith, m, hT.beside)) w.0))
          j (omega (arith, m, size)) f;
    })
      where
        l : i < length K
        l = omega (arith, h.least.within, hK.beside)

        own : ecart (ring p M) (vector_of_row (row_at K i)) ≡ ecart_of (summary_at S i)
        own = ecart_of_row p M (row_at K i) (wK i (omega (arith, h.least.within, hK.beside))) t some (summary_at S i) (hK.each i (omega (arith, h.least.within, hK.beside)))
    chosen_is (Kept i) h q e = least_chosen (ring p M) r candidates (length K + i) (record { poly = vector_of_row (row_at T i); lead = (summary_at U i).lead; cofactor = q }) (record {
      within = omega (arith, l, size);
      is = ap (reducer (ring p M) r) (kept_at i l) ∙ reducer_is (row_at T i) (summary_at U i) (wT i l) (hT.each i l) q e;
      before = λ j x m f. split (λ j. j < length K + i → reducer (ring p M) r (vector_at candidates j) ≡ Some x → ecart (ring p M) (vector_of_row (row_at T i)) < ecart (ring p M) x.poly)
          (λ j m o f. let w = known_tells j x m f in omega (arith, own, w.1, h.over_list j (omega (arith, m, hK.beside)) w.0))
          (λ k m o f. let w = kept_tells k x m f in omega (arith, own, w.1, h.least.first k (omega (arith, o)) w.0))
          j (omega (arith, m, l)) m f;
      behind = λ j x o m f. split (λ j. reducer (ring p M) r (vector_at candidates j) ≡ Some x → ecart (ring p M) (vector_of_row (row_at T i)) ≤ ecart (ring p M) x.poly)
          (λ j m f. let w = known_tells j x m f in omega (arith, own, w.1, h.over_list j (omega (arith, m, hK.beside)) w.0))
          (λ k m f. let w = kept_tells k x m f in omega (arith, own, w.1, h.least.least k (omega (arith, m, hT.beside)) w.0))
          j (omega (arith, m, size)) f;
    })
      where
        l : i < length T
        l = omega (arith, h.least.within, hT.beside)

        own : ecart (ring p M) (vector_of_row (row_at T i)) ≡ ecart_of (summary_at U i)
        own = ecart_of_row p M (row_at T i) (wT i (omega (arith, h.least.within, hT.beside))) t some (summary_at U i) (hT.each i (omega (arith, h.least.within, hT.beside)))

    -- ---- the step
    -- a row put behind the intermediates is a vector put behind their vectors
    keep_is : (b : Bool) (row : List ℕ) → map vector_of_row (cond b (T ++ row ∷ []) T) ≡ keep b (map vector_of_row T) (vector_of_row row)
    keep_is true row = map-append vector_of_row T (row ∷ [])
    keep_is false row = refl

    -- where nothing is chosen the step of the definition is stuck
    pub stuck_is : (row : List ℕ) → IsNoChoice M S U r → IsStepOn p M K T row r T row false
    stuck_is row h = subst (λ o. RunAlike (ring p M) (record { end = Some Stuck; poly = vector_of_row row; kept = map vector_of_row T }) (reduce (ring p M) (map vector_of_row T) (vector_of_row row) r o)) (sym (none_is h))
        (record { end = refl; poly = agree_refl (ring p M) (ring p M).n (vector_of_row row); kept = alike_refl (ring p M) (map vector_of_row T) })

    -- where a row is chosen, what is subtracted and kept is what the definition subtracts and keeps
    pub step_is : (c : Choice) → IsChoice M S U r c → (row new : List ℕ) (own : Summary) → IsRow p (count M) row → IsSummaryOf M row own → (kept : List (List ℕ))
        → kept ≡ with_kept own (chosen_summary S U c) T row → IsReduced p M (chosen_row K T c) (chosen_summary S U c).lead row r new → IsStepOn p M K T row r kept new true
    step_is c h row new own w b kept e x =
        subst (λ o. RunAlike (ring p M) (record { end = Some Reduced; poly = vector_of_row new; kept = map vector_of_row kept }) (reduce (ring p M) (map vector_of_row T) (vector_of_row row) r o))
        (sym (chosen_is c h x.0 (sym (ring_quotient p M r (chosen_summary S U c).lead) ∙ x.1)))
        (record { end = refl; poly = x.2; kept = subst (AllAlike (ring p M) (map vector_of_row kept)) kept_is (alike_refl (ring p M) (map vector_of_row kept)) })
      where
        there : IsThere (length S) (length U) c
        there = there_is c h

        kept_is : map vector_of_row kept ≡ keep (ltb (ecart (ring p M) (vector_of_row row)) (ecart (ring p M) (vector_of_row (chosen_row K T c)))) (map vector_of_row T) (vector_of_row row)
        kept_is =
            ap (map vector_of_row) e
            ∙ keep_is (ltb (ecart_of own) (ecart_of (chosen_summary S U c))) row
            ∙ ap₂ (λ a b. keep (ltb a b) (map vector_of_row T) (vector_of_row row)) (sym (ecart_of_row p M row w t some own b))
            (sym (ecart_of_row p M (chosen_row K T c) (chosen_row_is c (there_is c h)).0 t some (chosen_summary S U c) (chosen_row_is c (there_is c h)).1))

-- ---- what summaries have
-- the summary of a row is a summary as `choose` takes it
pub summary_good : (p : ℕ) (T : Shape) → 1 ≤ T.variables → (row : List ℕ) (s : Summary) → IsRow p (count T) row → IsSummaryOf T row s → IsSummary T s
summary_good p T some row s w h =
    let low : s.lead < count T = omega (arith, h.begins.within, w.full) in
    record { lead = low; degrees = omega (arith, h.lead, h.top.greatest (mono_of_rank T s.lead) s.lead (rank-mono_of_rank T s.lead some low) h.begins.some) }

-- and so are those of many rows
pub summaries_good : (p : ℕ) (T : Shape) → 1 ≤ T.variables → (rows : List (List ℕ)) (summaries : List Summary) → AreRows p (count T) rows → AreSummarized T rows summaries → All (IsSummary T) summaries
summaries_good p T some rows summaries w h k x l =
    let m : k < length rows = omega (arith, l, h.beside) in
    subst (IsSummary T) (get_or_default summaries k no_summary x l) (summary_good p T some (row_at rows k) (summary_at summaries k) (w k m) (h.each k m))

-- ---- a row that is put behind
-- rows of residues with one more behind them are rows of residues
pub rows_put : (p places : ℕ) (rows : List (List ℕ)) (row : List ℕ) → AreRows p places rows → IsRow p places row → AreRows p places (rows ++ row ∷ [])
rows_put p places rows row w v i l = go (cases_lt i (length rows))
  where
    go : (i < length rows) ⊎ (length rows ≤ i) → IsRow p places (row_at (rows ++ row ∷ []) i)
    go (inl m) = subst (IsRow p places) (sym (get_or_append_left rows (row ∷ []) [] i m)) (w i m)
    go (inr m) = subst (IsRow p places) (sym (get_or_push rows row [] i (omega (arith, l, m, length-append rows (row ∷ []))))) v

-- rows beside their summaries stay so with one more of each
pub summarized_put : (T : Shape) (rows : List (List ℕ)) (summaries : List Summary) (row : List ℕ) (s : Summary) → AreSummarized T rows summaries → IsSummaryOf T row s → AreSummarized T (rows ++ row ∷ []) (summaries ++ s ∷ [])
summarized_put T rows summaries row s w v = record {
  beside = length-append summaries (s ∷ []) ∙ ap (λ k. k + 1) w.beside ∙ sym (length-append rows (row ∷ []));
  each = λ i l. go i l (cases_lt i (length rows));
}
  where
    go : (i : ℕ) → i < length (rows ++ row ∷ []) → (i < length rows) ⊎ (length rows ≤ i) → IsSummaryOf T (row_at (rows ++ row ∷ []) i) (summary_at (summaries ++ s ∷ []) i)
    go i l (inl m) = subst (λ r. IsSummaryOf T r (summary_at (summaries ++ s ∷ []) i)) (sym (get_or_append_left rows (row ∷ []) [] i m))
        (subst (IsSummaryOf T (row_at rows i)) (sym (get_or_append_left summaries (s ∷ []) no_summary i (omega (arith, m, w.beside)))) (w.each i m))
    go i l (inr m) = let e : length rows ≡ i = omega (arith, l, m, length-append rows (row ∷ [])) in
        subst (λ r. IsSummaryOf T r (summary_at (summaries ++ s ∷ []) i)) (sym (get_or_push rows row [] i e)) (subst (IsSummaryOf T row) (sym (get_or_push summaries s no_summary i (w.beside ∙ e))) v)

-- the intermediates are rows of residues after a step
pub rows_kept : (p places : ℕ) (own reducer : Summary) (rows : List (List ℕ)) (row : List ℕ) → AreRows p places rows → IsRow p places row → AreRows p places (with_kept own reducer rows row)
rows_kept p places own reducer rows row w v = go (ltb (ecart_of own) (ecart_of reducer))
  where
    go : (b : Bool) → AreRows p places (cond b (rows ++ row ∷ []) rows)
    go true = rows_put p places rows row w v
    go false = w

-- the intermediates have their summaries after a step
pub summarized_kept : (T : Shape) (own reducer : Summary) (rows : List (List ℕ)) (summaries : List Summary) (row : List ℕ) → AreSummarized T rows summaries → IsSummaryOf T row own
    → AreSummarized T (with_kept own reducer rows row) (with_kept own reducer summaries own)
summarized_kept T own reducer rows summaries row w v = go (ltb (ecart_of own) (ecart_of reducer))
  where
    go : (b : Bool) → AreSummarized T (cond b (rows ++ row ∷ []) rows) (cond b (summaries ++ own ∷ []) summaries)
    go true = summarized_put T rows summaries row own w v
    go false = w

-- a step keeps one intermediate more at most
pub length_kept : (own reducer : Summary) (rows : List (List ℕ)) (row : List ℕ) → length (with_kept own reducer rows row) ≤ length rows + 1
length_kept own reducer rows row = go (ltb (ecart_of own) (ecart_of reducer))
  where
    go : (b : Bool) → length (cond b (rows ++ row ∷ []) rows) ≤ length rows + 1
    go true = omega (arith, length-append rows (row ∷ []))
    go false = omega arith

-- the chosen row is the same when one more is put behind
pub chosen_row_kept : (K T : List (List ℕ)) (own reducer : Summary) (row : List ℕ) (c : Choice) → IsThere (length K) (length T) c → chosen_row K (with_kept own reducer T row) c ≡ chosen_row K T c
chosen_row_kept K T own reducer row (Entry i) l = refl
chosen_row_kept K T own reducer row (Kept k) l = go (ltb (ecart_of own) (ecart_of reducer))
  where
    go : (b : Bool) → row_at (cond b (T ++ row ∷ []) T) k ≡ row_at T k
    go true = get_or_append_left T (row ∷ []) [] k l
    go false = refl

-- a choice among equal numbers of members is the same
pub there_same : (a b a' b' : ℕ) (c : Choice) → a ≡ a' → b ≡ b' → IsThere a b c → IsThere a' b' c
there_same a b a' b' c e f h = subst (λ x. IsThere x b' c) e (subst (λ y. IsThere a y c) f h)

-- a choice among equal summaries is the same
pub choice_of : (T : Shape) (r : ℕ) (S S' U U' : List Summary) (c : Choice) → S ≡ S' → U ≡ U' → IsChoice T S U r c → IsChoice T S' U' r c
choice_of T r S S' U U' c e f h = subst (λ x. IsChoice T x U' r c) e (subst (λ y. IsChoice T S y r c) f h)

-- the row that is lent is the chosen one
pub residues_are : (K T kept : List (List ℕ)) (own reducer : Summary) (row residues : List ℕ) (c : Choice) → residues ≡ chosen_row K kept c → kept ≡ with_kept own reducer T row → IsThere (length K) (length T) c
    → residues ≡ chosen_row K T c
residues_are K T kept own reducer row residues c e f l = e ∙ ap (λ z. chosen_row K z c) f ∙ chosen_row_kept K T own reducer row c l

-- a place before is one after
pub there_more : (K T kept : List (List ℕ)) (own reducer : Summary) (row : List ℕ) (c : Choice) → kept ≡ with_kept own reducer T row → IsThere (length K) (length T) c → IsThere (length K) (length kept) c
there_more K T kept own reducer row (Entry i) e l = l
there_more K T kept own reducer row (Kept k) e l = go (ltb (ecart_of own) (ecart_of reducer)) (ap length e)
  where
    go : (b : Bool) → length kept ≡ length (cond b (T ++ row ∷ []) T) → k < length kept
    go true f = omega (arith, f, l, length-append T (row ∷ []))
    go false f = omega (arith, f, l)
