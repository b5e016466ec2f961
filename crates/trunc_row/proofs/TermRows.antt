-- Terms with rising ranks are written into a row one by one.
-- No two have one rank, so at each rank stands the coefficient of the first term of this rank.
use Rattle.std.proofs.Common.{◌≡◌, ℕ, zero, suc, ◌+◌, ◌<◌, ◌≤◌, ◌⊎◌, List, [], ◌∷◌, length, get_or, take, set, All, Bool, true, false, cond, eqb, Some, None, replicate, slice_get, refl, ap, sym, ◌∙◌, inl, inr, subst, arith, get_or-set_other, get_or-set_same}
use Rattle.std.proofs.lemmas.Bool.{cases_lt, cases_eq, eq-eqb, ne_eqb}
use Rattle.std.proofs.lemmas.List.{length-set, length-replicate, get_or-replicate, get_or_past, take_all, get_or_default}
use Rattle.std.proofs.lemmas.List.Elements.{All-get_or}
use Rattle.std.proofs.lemmas.Option.{slice_get_cases, slice_get_within, get_or_from_slice_get}
use Rattle.entry_code.specs.declared.term.Term.{Term}
use Rattle.rank_algebra.specs.Rows.{IsRow}
use Rattle.trunc_row.specs.Rows.{IsRowOfTerms}
use Rattle.entry_code.specs.Terms.{vector_of_terms, HasRisingRanks}

-- the first i terms are written
pub record TermsTo (places i : ℕ) (ts : List Term) (r : List ℕ) : Type 0 where
  pub full : length r ≡ places
  pub coefs : (k : ℕ) → get_or r k 0 ≡ vector_of_terms (take i ts) k

-- at a rank that none of the first i terms has there is nothing
pub coef-none : (ts : List Term) (i r : ℕ) → ((j : ℕ) (t : Term) → j < i → slice_get ts j ≡ Some t → t.rank ≡ r → ⊥) → vector_of_terms (take i ts) r ≡ 0
coef-none ts zero r h = ap (λ s. vector_of_terms s r) (nothing ts)
  where
    nothing : (ts : List Term) → take 0 ts ≡ []
    nothing [] = refl
    nothing (t ∷ ts) = refl
coef-none [] (suc i) r h = refl
coef-none (t ∷ ts) (suc i) r h =
    ap (λ b. cond b t.coef (vector_of_terms (take i ts) r)) (ne_eqb t.rank r (h 0 t (omega arith) refl))
    ∙ coef-none ts i r (λ j u l e. h (suc j) u (omega arith) e)

-- the next term changes nothing at other ranks
pub coef-other : (ts : List Term) (i r : ℕ) (t : Term) → slice_get ts i ≡ Some t → (t.rank ≡ r → ⊥) → vector_of_terms (take (suc i) ts) r ≡ vector_of_terms (take i ts) r
coef-other [] i r t e n = absurd (cc e)
coef-other (s ∷ ts) zero r t e n =
    let same : s ≡ t = cc e in
    ap (λ b. cond b s.coef (vector_of_terms (take 0 ts) r)) (ne_eqb s.rank r (λ q. n (ap (λ x. x.rank) (sym same) ∙ q)))
    ∙ nothing ts
  where
    nothing : (ts : List Term) → vector_of_terms (take 0 ts) r ≡ 0
    nothing [] = refl
    nothing (t ∷ ts) = refl
coef-other (s ∷ ts) (suc i) r t e n = ap (cond (eqb s.rank r) s.coef) (coef-other ts i r t e n)

-- at its own rank it adds its coefficient, where it is the first of this rank
pub coef-own : (ts : List Term) (i : ℕ) (t : Term) → slice_get ts i ≡ Some t → ((j : ℕ) (u : Term) → j < i → slice_get ts j ≡ Some u → u.rank ≡ t.rank → ⊥) → vector_of_terms (take (suc i) ts) t.rank ≡ t.coef
coef-own [] i t e h = absurd (cc e)
coef-own (s ∷ ts) zero t e h =
    let same : s ≡ t = cc e in
    subst (λ u. cond (eqb s.rank u.rank) s.coef (vector_of_terms (take 0 ts) u.rank) ≡ u.coef) same
    (ap (λ b. cond b s.coef (vector_of_terms (take 0 ts) s.rank)) (eq-eqb s.rank s.rank refl))
coef-own (s ∷ ts) (suc i) t e h =
    ap (λ b. cond b s.coef (vector_of_terms (take (suc i) ts) t.rank)) (ne_eqb s.rank t.rank (h 0 s (omega arith) refl))
    ∙ coef-own ts i t e (λ j u l f. h (suc j) u (omega arith) f)

-- before the first term nothing is written
pub terms_none : (places : ℕ) (ts : List Term) (r : List ℕ) → length r ≡ places → ((k : ℕ) → get_or r k 0 ≡ 0) → TermsTo places 0 ts r
terms_none places ts r e z = record { full = e; coefs = λ k. z k ∙ sym (coef-none ts 0 k (λ j t l. absurd (omega arith))) }

-- one more term is written
pub terms_more : (places i : ℕ) (ts : List Term) (r : List ℕ) (t : Term) → HasRisingRanks places ts → TermsTo places i ts r → slice_get ts i ≡ Some t → t.rank < places → TermsTo places (i + 1) ts (set r t.rank t.coef)
terms_more places i ts r t w h e l = record {
  full = length-set r t.rank t.coef ∙ h.full;
  coefs = λ k. go k (cases_eq k t.rank) ∙ ap (λ j. vector_of_terms (take j ts) k) (let q : suc i ≡ i + 1 = omega arith in q);
}
  where
    go : (k : ℕ) → (k ≡ t.rank) ⊎ (k ≡ t.rank → ⊥) → get_or (set r t.rank t.coef) k 0 ≡ vector_of_terms (take (suc i) ts) k
    go k (inl q) =
        ap (λ x. get_or (set r t.rank t.coef) x 0) q
        ∙ get_or-set_same r t.rank t.coef 0 (omega (arith, h.full, l))
        ∙ sym (coef-own ts i t e (λ j u m f d. omega (arith, d, w.rising j i u t m f e)))
        ∙ ap (vector_of_terms (take (suc i) ts)) (sym q)
    go k (inr n) = get_or-set_other r t.rank k t.coef 0 n ∙ h.coefs k ∙ sym (coef-other ts i k t e (λ q. n (sym q)))

-- in the end all terms are written
pub terms_all : (places i : ℕ) (ts : List Term) (r : List ℕ) → TermsTo places i ts r → length ts ≤ i → IsRowOfTerms places ts r
terms_all places i ts r h past = record { full = h.full; coefs = λ k. h.coefs k ∙ ap (λ s. vector_of_terms s k) (take_all i ts past) }

-- the coefficients of terms with residues are residues
pub coef-small : (p : ℕ) → 0 < p → (ts : List Term) (r : ℕ) → All (λ t. t.coef < p) ts → vector_of_terms ts r < p
coef-small p l [] r h = l
coef-small p l (t ∷ ts) r h = go (eqb t.rank r) (coef-small p l ts r (λ k x m. h (suc k) x (omega (arith, m))))
  where
    go : (b : Bool) → vector_of_terms ts r < p → cond b t.coef (vector_of_terms ts r) < p
    go true m = h 0 t (omega arith)
    go false m = m

-- so their row is one of residues
pub terms_row : (p places : ℕ) (ts : List Term) (r : List ℕ) → 0 < p → All (λ t. t.coef < p) ts → IsRowOfTerms places ts r → IsRow p places r
terms_row p places ts r l h w = record { full = w.full; residues = λ k x m. subst (λ y. y < p) (sym (get_or_default r k x 0 m ∙ w.coefs k)) (coef-small p l ts k h) }

-- what holds of all terms holds of one of them
pub term_low : (places : ℕ) (ts : List Term) (i : ℕ) (t : Term) → All (λ u. u.rank < places) ts → slice_get ts i ≡ Some t → t.rank < places
term_low places ts i t h e = subst (λ u. u.rank < places) (get_or_from_slice_get ts i t t e) (All-get_or (λ u. u.rank < places) ts i t (slice_get_within ts i t e) h)

-- terms with rising ranks have a row
pub terms_row_of : (places : ℕ) (ts : List Term) → HasRisingRanks places ts → (r : List ℕ) × IsRowOfTerms places ts r
terms_row_of places ts w = let r = first (length ts) in (r.0, terms_all places (length ts) ts r.0 r.1 (omega arith))
  where
    -- zeros at all places
    zeros : (k : ℕ) → (k < places) ⊎ (places ≤ k) → (let z : ℕ = 0 in get_or (replicate places z) k z ≡ z)
    zeros k (inl l) = get_or-replicate places k 0 0 l
    zeros k (inr l) = get_or_past (replicate places 0) k 0 (omega (arith, l, length-replicate places (let z : ℕ = 0 in z)))

    -- the first i of them have one
    first : (i : ℕ) → (r : List ℕ) × TermsTo places i ts r
    first zero = (replicate places 0, terms_none places ts (replicate places 0) (length-replicate places (let z : ℕ = 0 in z)) (λ k. zeros k (cases_lt k places)))
    first (suc i) = next (first i) (slice_get_cases ts i).1
      where
        next : (r : List ℕ) × TermsTo places i ts r → ((t : Term) × (i < length ts) × (slice_get ts i ≡ Some t) × (get_or ts i t ≡ t)) ⊎ ((length ts ≤ i) × (slice_get ts i ≡ None))
            → (r : List ℕ) × TermsTo places (suc i) ts r
        next r (inl t) = (
          set r.0 t.0.rank t.0.coef,
          subst (λ j. TermsTo places j ts (set r.0 t.0.rank t.0.coef)) (let q : i + 1 ≡ suc i = omega arith in q)
              (terms_more places i ts r.0 t.0 w r.1 t.2 (term_low places ts i t.0 w.low t.2)),
        )
        next r (inr past) = (r.0, record { full = r.1.full; coefs = λ k. r.1.coefs k ∙ ap (λ s. vector_of_terms s k) (take_all i ts past.0 ∙ sym (take_all (suc i) ts (omega (arith, past.0)))) })
