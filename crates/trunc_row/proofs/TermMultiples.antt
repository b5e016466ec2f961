-- The multiple of a list of terms is subtracted term by term: each product that has a rank changes the residue there.
-- Ranks rise from term to term, so no two products have one rank, and behind one that is beyond the degree all are.
use Rattle.std.proofs.Common.{◌≡◌, ℕ, zero, suc, ◌+◌, ◌-◌, ◌*◌, ◌%◌, ◌<◌, ◌≤◌, ◌⊎◌, List, [], ◌∷◌, length, take, get_or, set, cond, eqb, Some, slice_get, refl, ap, sym, ◌∙◌, inl, inr, subst, arith, get_or-set_other, get_or-set_same}
use Rattle.std.proofs.lemmas.Bool.{cases_lt, cases_eq, ne_eqb}
use Rattle.std.proofs.lemmas.List.{take_all}
use Rattle.local_order.specs.Mono.{degree, mono_times, Divides}
use Rattle.local_order.specs.Shape.{Shape, count}
use Rattle.local_order.proofs.Order.{degree-mono_times}
use Rattle.mono_rank.specs.Rank.{HasRank, mono_of_rank}
use Rattle.mono_rank.proofs.ByRank.{rank-mono_of_rank}
use Rattle.mono_rank.proofs.Ranks.{one_of_rank, one_rank, rank_small}
use Rattle.rank_algebra.specs.Rows.{IsRow}
use Rattle.mono_rank.specs.Rows.{SubtractsMultiple}
use Rattle.entry_code.specs.declared.term.Term.{Term}
use Rattle.entry_code.specs.Terms.{vector_of_terms, HasRisingRanks}
use Rattle.trunc_row.specs.Rows.{IsRowOfTerms}
use Rattle.trunc_row.proofs.Residues.{row_mod, row_set, less_step, less_none}
use Rattle.trunc_row.proofs.Walks.{same_factor, later_degree}
use Rattle.trunc_row.proofs.TermRows.{coef-none, coef-own, coef-other}

-- the multiple of the first i terms is subtracted
pub record TermsLessTo (p : ℕ) (T : Shape) (c a : ℕ) (ts : List Term) (i : ℕ) (old new : List ℕ) : Type 0 where
  pub row : IsRow p (count T) new
  pub done : (x y : List ℕ) (j k : ℕ) → HasRank T x a → HasRank T y j → HasRank T (mono_times x y) k
      → get_or new k 0 ≡ (get_or old k 0 + (p - c) * vector_of_terms (take i ts) j) % p
  pub others : (x m : List ℕ) (k : ℕ) → HasRank T x a → HasRank T m k → (Divides x m → ⊥) → get_or new k 0 ≡ get_or old k 0

-- a product that has a rank has one of a monomial
pub product_low : (T : Shape) (a b r : ℕ) → 1 ≤ T.variables → a < count T → b < count T → ((x y : List ℕ) → HasRank T x a → HasRank T y b → HasRank T (mono_times x y) r) → r < count T
product_low T a b r some la lb product =
    rank_small T (mono_times (mono_of_rank T a) (mono_of_rank T b)) r (product (mono_of_rank T a) (mono_of_rank T b) (rank-mono_of_rank T a some la) (rank-mono_of_rank T b some lb))

-- no term is subtracted yet
pub terms_less_none : (p : ℕ) (T : Shape) (c a : ℕ) (ts : List Term) (r : List ℕ) → IsRow p (count T) r → TermsLessTo p T c a ts 0 r r
terms_less_none p T c a ts r h = record {
  row = h;
  done = λ x y j k hx hy hk. less_none p c (get_or r k 0) (vector_of_terms (take 0 ts) j) (coef-none ts 0 j (λ i t l. absurd (omega arith))) (row_mod p (count T) r k h);
  others = λ x m k hx hm none. refl;
}

-- as a loop counts
one_more : (i : ℕ) → suc i ≡ i + 1
one_more i = omega arith

-- the next term is subtracted at the rank of its product
pub terms_less_set : (p : ℕ) (T : Shape) (c a : ℕ) (ts : List Term) (i : ℕ) (t : Term) (old new : List ℕ) (place e v : ℕ) → 1 ≤ T.variables → a < count T →
    HasRisingRanks (count T) ts → slice_get ts i ≡ Some t → t.rank < count T →
    ((x y : List ℕ) → HasRank T x a → HasRank T y t.rank → HasRank T (mono_times x y) place) → IsRow p (count T) old →
    e ≡ (p - c) % p → v ≡ (get_or new place 0 + e * t.coef) % p → v < p → TermsLessTo p T c a ts i old new → TermsLessTo p T c a ts (i + 1) old (set new place v)
terms_less_set p T c a ts i t old new place e v some la w at lt product own ee ve small h = record {
  row = row_set p (count T) new place v h.row small;
  done = λ x y j k hx hy hk. go x y j k hx hy hk (cases_eq j t.rank);
  others = λ x m k hx hm none. get_or-set_other new place k v 0 (λ z. apart x m k hx hm none z) ∙ h.others x m k hx hm none;
}
  where
    y : List ℕ
    y = mono_of_rank T t.rank

    hy : HasRank T y t.rank
    hy = rank-mono_of_rank T t.rank some lt

    -- what is no multiple stands elsewhere
    apart : (x m : List ℕ) (k : ℕ) → HasRank T x a → HasRank T m k → (Divides x m → ⊥) → k ≡ place → ⊥
    apart x m k hx hm none z =
        none (y, hy.in_ring ∙ sym hm.in_ring, one_of_rank T m (mono_times x y) place (subst (HasRank T m) z hm) (product x y hx hy))

    -- the product with another monomial stands elsewhere
    away : (x u : List ℕ) (j k : ℕ) → HasRank T x a → HasRank T u j → HasRank T (mono_times x u) k → (j ≡ t.rank → ⊥) → k ≡ place → ⊥
    away x u j k hx hu hk n z =
        n (same_factor T x x u y a j t.rank hx hx hu hy (one_of_rank T (mono_times x u) (mono_times x y) place (subst (HasRank T (mono_times x u)) z hk) (product x y hx hy)))

    -- nothing was subtracted there yet
    before : (x u : List ℕ) → HasRank T x a → HasRank T u t.rank → HasRank T (mono_times x u) place → get_or new place 0 ≡ get_or old place 0
    before x u hx hu hk =
        h.done x u t.rank place hx hu hk
        ∙ sym (less_none p c (get_or old place 0) (vector_of_terms (take i ts) t.rank)
        (coef-none ts i t.rank (λ j s l f z. omega (arith, z, w.rising j i s t l f at))) (row_mod p (count T) old place own))

    own_coef : vector_of_terms (take (i + 1) ts) t.rank ≡ t.coef
    own_coef = subst (λ j. vector_of_terms (take j ts) t.rank ≡ t.coef) (one_more i) (coef-own ts i t at (λ j s l f z. omega (arith, z, w.rising j i s t l f at)))

    here : (x u : List ℕ) → HasRank T x a → HasRank T u t.rank → get_or (set new place v) place 0 ≡ (get_or old place 0 + (p - c) * vector_of_terms (take (i + 1) ts) t.rank) % p
    here x u hx hu =
        let hk = product x u hx hu in
        get_or-set_same new place v 0 (omega (arith, h.row.full, rank_small T (mono_times x u) place hk))
        ∙ less_step p c (get_or new place 0) t.coef e v ee ve
        ∙ ap (λ z. (z + (p - c) * t.coef) % p) (before x u hx hu hk)
        ∙ ap (λ z. (get_or old place 0 + (p - c) * z) % p) (sym own_coef)

    go : (x u : List ℕ) (j k : ℕ) → HasRank T x a → HasRank T u j → HasRank T (mono_times x u) k → (j ≡ t.rank) ⊎ (j ≡ t.rank → ⊥)
        → get_or (set new place v) k 0 ≡ (get_or old k 0 + (p - c) * vector_of_terms (take (i + 1) ts) j) % p
    go x u j k hx hu hk (inl z) =
        let hu_t : HasRank T u t.rank = subst (HasRank T u) z hu in
        let there : place ≡ k = one_rank T (mono_times x u) (mono_times x u) place k (product x u hx hu_t) hk refl in
        subst (λ k. get_or (set new place v) k 0 ≡ (get_or old k 0 + (p - c) * vector_of_terms (take (i + 1) ts) j) % p) there
        (subst (λ j. get_or (set new place v) place 0 ≡ (get_or old place 0 + (p - c) * vector_of_terms (take (i + 1) ts) j) % p) (sym z) (here x u hx hu_t))
    go x u j k hx hu hk (inr n) =
        get_or-set_other new place k v 0 (away x u j k hx hu hk n)
        ∙ h.done x u j k hx hu hk
        ∙ ap (λ z. (get_or old k 0 + (p - c) * z) % p)
        (sym (subst (λ i1. vector_of_terms (take i1 ts) j ≡ vector_of_terms (take i ts) j) (one_more i) (coef-other ts i j t at (λ z. n (sym z)))))

-- where no term from the i-th on has a rank, all terms have there what the first i have
coef-front : (ts : List Term) (i r : ℕ) → ((k : ℕ) (u : Term) → i ≤ k → slice_get ts k ≡ Some u → u.rank ≡ r → ⊥) → vector_of_terms ts r ≡ vector_of_terms (take i ts) r
coef-front [] zero r h = refl
coef-front [] (suc i) r h = refl
coef-front (t ∷ ts) zero r h =
    ap (λ b. cond b t.coef (vector_of_terms ts r)) (ne_eqb t.rank r (h 0 t (omega arith) refl))
    ∙ coef-front ts zero r (λ k u l e. h (suc k) u (omega arith) e)
    ∙ coef-none ts 0 r (λ j u l. absurd (omega arith))
coef-front (t ∷ ts) (suc i) r h = ap (cond (eqb t.rank r) t.coef) (coef-front ts i r (λ k u l e. h (suc k) u (omega arith) e))

-- where the product of a term is beyond the degree, so are those behind it, and all is subtracted
pub terms_less_past : (p : ℕ) (T : Shape) (c a : ℕ) (ts : List Term) (i : ℕ) (t : Term) (old new : List ℕ) → 1 ≤ T.variables →
    HasRisingRanks (count T) ts → slice_get ts i ≡ Some t → t.rank < count T →
    ((x y : List ℕ) → HasRank T x a → HasRank T y t.rank → T.degree < degree (mono_times x y)) → TermsLessTo p T c a ts i old new → TermsLessTo p T c a ts (length ts) old new
terms_less_past p T c a ts i t old new some w at lt high h = record {
  row = h.row;
  done = λ x y j q hx hy hq. h.done x y j q hx hy hq
      ∙ ap (λ z. (get_or old q 0 + (p - c) * z) % p)
      (sym (ap (λ s. vector_of_terms s j) (take_all (length ts) ts (omega arith)) ∙ coef-front ts i j (λ k u l e z. behind u k l e (omega (arith, z, below x y j q hx hy hq (cases_lt j t.rank))))));
  others = h.others;
}
  where
    first : List ℕ
    first = mono_of_rank T t.rank

    first_rank : HasRank T first t.rank
    first_rank = rank-mono_of_rank T t.rank some lt

    -- what has a product stands before the term
    below : (x y : List ℕ) (j k : ℕ) → HasRank T x a → HasRank T y j → HasRank T (mono_times x y) k → (j < t.rank) ⊎ (t.rank ≤ j) → j < t.rank
    below x y j k hx hy hk (inl l) = l
    below x y j k hx hy hk (inr l) = absurd (omega (
      arith,
      high x first hx first_rank,
      later_degree T first y t.rank j some first_rank hy l,
      degree-mono_times x first,
      degree-mono_times x y,
      hk.low,
    ))

    -- no term from there on has a lesser rank
    behind : (u : Term) (k : ℕ) → i ≤ k → slice_get ts k ≡ Some u → u.rank < t.rank → ⊥
    behind u k l e m = by (cases_lt i k)
      where
        by : (i < k) ⊎ (k ≤ i) → ⊥
        by (inl o) = omega (arith, m, w.rising i k t u o at e)
        by (inr o) =
            let here : k ≡ i = omega (arith, l, o) in
            let same : Some u ≡ Some t = sym e ∙ ap (slice_get ts) here ∙ at in
            let one : u ≡ t = cc same in
            omega (arith, m, ap (λ (s : Term). s.rank) one)

-- past the last term the whole multiple is subtracted, whichever row has the terms
pub terms_less_all : (p : ℕ) (T : Shape) (c a : ℕ) (ts : List Term) (i : ℕ) (g old new : List ℕ) → length ts ≤ i → TermsLessTo p T c a ts i old new → IsRowOfTerms (count T) ts g →
    SubtractsMultiple p T c a g old new
terms_less_all p T c a ts i g old new past h w = record {
  row = h.row;
  multiples = λ x y j k hx hy hk. h.done x y j k hx hy hk
      ∙ ap (λ z. (get_or old k 0 + (p - c) * z) % p) (ap (λ s. vector_of_terms s j) (take_all i ts past) ∙ sym (w.coefs j));
  others = h.others;
}
