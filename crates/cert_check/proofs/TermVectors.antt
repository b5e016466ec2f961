-- Vectors of terms whose ranks rise: what one more term adds, and what later terms don't reach.
-- The ranks before a place are below the one there, so each coefficient comes from one term.
use Rattle.std.proofs.Common.{◌≡◌, ℕ, zero, suc, ◌+◌, ◌<◌, List, [], ◌∷◌, ◌++◌, length, get_or, take, slice_get, Some, cond, eqb, refl, sym, ◌∙◌, ap, subst, arith}
use Rattle.std.proofs.lemmas.Bool.{eq-eqb, ne_eqb}
use Rattle.std.proofs.lemmas.List.{take_more}
use Rattle.std.proofs.lemmas.Option.{slice_get_within, get_or_from_slice_get}
use Rattle.entry_code.specs.declared.term.Term.{Term}
use Rattle.mora_law.specs.Entries.{lead_rank}
use Rattle.entry_code.specs.Terms.{vector_of_terms}
use Rattle.cert_check.specs.Sparse.{AreRisingTerms}

-- each rank is below s
abbrev AreBelow : ℕ → List Term → Type 0
AreBelow s [] = Unit {0}
AreBelow s (t ∷ ts) = (t.rank < s) × AreBelow s ts

-- behind the first the ranks rise
pub rising_rest : (t : Term) (ts : List Term) → AreRisingTerms (t ∷ ts) → AreRisingTerms ts
rising_rest t [] h = tt
rising_rest t (u ∷ ts) h = h.1

-- the first rank is below each later one
pub first_below : (t : Term) (ts : List Term) (k : ℕ) (d : Term) → AreRisingTerms (t ∷ ts) → k < length ts → t.rank < (get_or ts k d).rank
first_below t [] k d h l = absurd (omega (arith, l))
first_below t (u ∷ ts) zero d h l = h.0
first_below t (u ∷ ts) (suc k) d h l = omega (arith, h.0, first_below u ts k d h.1 (omega (arith, l)))

-- the ranks before a place are below the one there
taken_below : (ts : List Term) (k : ℕ) (d : Term) → AreRisingTerms ts → k < length ts → AreBelow (get_or ts k d).rank (take k ts)
taken_below ts zero d h l = tt
taken_below [] (suc k) d h l = tt
taken_below (t ∷ ts) (suc k) d h l = (first_below t ts k d h (omega (arith, l)), taken_below ts k d (rising_rest t ts h) (omega (arith, l)))

-- no term has the rank
below_none : (s : ℕ) (ts : List Term) → AreBelow s ts → vector_of_terms ts s ≡ 0
below_none s [] h = refl
below_none s (t ∷ ts) h = ap (λ b. cond b t.coef (vector_of_terms ts s)) (ne_eqb t.rank s (λ e. omega (arith, e, h.0))) ∙ below_none s ts h.1

-- a term put behind them is at its rank
behind_new : (ts : List Term) (t : Term) → AreBelow t.rank ts → vector_of_terms (ts ++ t ∷ []) t.rank ≡ t.coef
behind_new [] t h = ap (λ b. cond b t.coef 0) (eq-eqb t.rank t.rank refl)
behind_new (u ∷ ts) t h = ap (λ b. cond b u.coef (vector_of_terms (ts ++ t ∷ []) t.rank)) (ne_eqb u.rank t.rank (λ e. omega (arith, e, h.0))) ∙ behind_new ts t h.1

-- and nowhere else
behind_other : (ts : List Term) (t : Term) (s : ℕ) → (s ≡ t.rank → ⊥) → vector_of_terms (ts ++ t ∷ []) s ≡ vector_of_terms ts s
behind_other [] t s n = ap (λ b. cond b t.coef 0) (ne_eqb t.rank s (λ e. n (sym e)))
behind_other (u ∷ ts) t s n = ap (λ x. cond (eqb u.rank s) u.coef x) (behind_other ts t s n)

-- a term is the coefficient at its rank
pub coef_there : (ts : List Term) (k : ℕ) (d : Term) → AreRisingTerms ts → k < length ts → vector_of_terms ts (get_or ts k d).rank ≡ (get_or ts k d).coef
coef_there [] k d h l = absurd (omega (arith, l))
coef_there (t ∷ ts) zero d h l = ap (λ b. cond b t.coef (vector_of_terms ts t.rank)) (eq-eqb t.rank t.rank refl)
coef_there (t ∷ ts) (suc k) d h l =
    ap (λ b. cond b t.coef (vector_of_terms ts (get_or ts k d).rank)) (ne_eqb t.rank (get_or ts k d).rank (λ e. omega (arith, e, first_below t ts k d h (omega (arith, l)))))
    ∙ coef_there ts k d (rising_rest t ts h) (omega (arith, l))

module _ (ts : List Term) (rising : AreRisingTerms ts) (k : ℕ) (t : Term) (there : slice_get ts k ≡ Some t) where
  -- the place is within the list
  within : k < length ts
  within = slice_get_within ts k t there

  -- the term stands there
  is : get_or ts k t ≡ t
  is = get_or_from_slice_get ts k t t there

  -- those before it have lesser ranks
  low : AreBelow t.rank (take k ts)
  low = subst (λ (x : Term). AreBelow x.rank (take k ts)) (get_or_from_slice_get ts k t t there) (taken_below ts k t rising (slice_get_within ts k t there))

  -- the terms up to it are those before it and itself
  more : take (k + 1) ts ≡ take k ts ++ t ∷ []
  more = take_more ts k t (slice_get_within ts k t there) ∙ ap (λ (x : Term). take k ts ++ x ∷ []) (get_or_from_slice_get ts k t t there)

  -- the term at place k is new there
  pub taken_new : vector_of_terms (take (k + 1) ts) t.rank ≡ t.coef
  taken_new = ap (λ us. vector_of_terms us t.rank) more ∙ behind_new (take k ts) t low

  -- before it there was none
  pub taken_none : vector_of_terms (take k ts) t.rank ≡ 0
  taken_none = below_none t.rank (take k ts) low

  -- at other ranks nothing changes
  pub taken_other : (s : ℕ) → (s ≡ t.rank → ⊥) → vector_of_terms (take (k + 1) ts) s ≡ vector_of_terms (take k ts) s
  taken_other s n = ap (λ us. vector_of_terms us s) more ∙ behind_other (take k ts) t s n

-- below the first rank there is nothing
low_none : (ts : List Term) (s : ℕ) (d : Term) → AreRisingTerms ts → (0 < length ts → s < (get_or ts 0 d).rank) → vector_of_terms ts s ≡ 0
low_none [] s d h l = refl
low_none (t ∷ []) s d h l = ap (λ b. cond b t.coef 0) (ne_eqb t.rank s (λ e. omega (arith, e, l (omega arith))))
low_none (t ∷ u ∷ ts) s d h l =
    ap (λ b. cond b t.coef (vector_of_terms (u ∷ ts) s)) (ne_eqb t.rank s (λ e. omega (arith, e, l (omega arith))))
    ∙ low_none (u ∷ ts) s d h.1 (λ x. omega (arith, l (omega arith), h.0))

-- below the rank at place k the first k terms are all
low_at : (ts : List Term) (k s : ℕ) (d : Term) → AreRisingTerms ts → k < length ts → s < (get_or ts k d).rank → vector_of_terms ts s ≡ vector_of_terms (take k ts) s
low_at ts zero s d h l m = low_none ts s d h (λ x. m)
low_at [] (suc k) s d h l m = refl
low_at (t ∷ ts) (suc k) s d h l m = ap (λ x. cond (eqb t.rank s) t.coef x) (low_at ts k s d (rising_rest t ts h) (omega (arith, l)) m)

-- below the rank of the term at place k the first k terms are all
pub taken_low : (ts : List Term) (k : ℕ) (t : Term) → slice_get ts k ≡ Some t → (s : ℕ) → AreRisingTerms ts → s < t.rank → vector_of_terms ts s ≡ vector_of_terms (take k ts) s
taken_low ts k t there s h m = low_at ts k s t h (slice_get_within ts k t there) (omega (arith, m, ap (λ (x : Term). x.rank) (get_or_from_slice_get ts k t t there)))

-- past the last rank there is nothing
pub past_last : (ts : List Term) (k : ℕ) (t : Term) (s : ℕ) → AreRisingTerms ts → suc k ≡ length ts → slice_get ts k ≡ Some t → t.rank < s → vector_of_terms ts s ≡ 0
past_last [] k t s h e g l = refl
past_last (u ∷ []) (suc k) t s h e g l = absurd (omega (arith, e))
past_last (u ∷ []) zero t s h e g l = let z : u ≡ t = cc g in ap (λ b. cond b u.coef 0) (ne_eqb u.rank s (λ f. omega (arith, f, l, ap (λ (x : Term). x.rank) z)))
past_last (u ∷ v ∷ ts) zero t s h e g l = absurd (omega (arith, e))
past_last (u ∷ v ∷ ts) (suc k) t s h e g l =
    ap (λ b. cond b u.coef (vector_of_terms (v ∷ ts) s)) (ne_eqb u.rank s (λ f. omega (arith, f, l, first_below u (v ∷ ts) k t h (omega (arith, e)), ap (λ (x : Term). x.rank) (get_or_from_slice_get (v ∷ ts) k t t g))))
    ∙ past_last (v ∷ ts) k t s h.1 (omega (arith, e)) g l

-- the first term is the lead
pub first_none : (ts : List Term) (s : ℕ) → AreRisingTerms ts → s < lead_rank ts → vector_of_terms ts s ≡ 0
first_none [] s h l = refl
first_none (t ∷ ts) s h l = low_none (t ∷ ts) s t h (λ x. l)

-- and has the first coefficient
pub lead_coef : (ts : List Term) (t : Term) → slice_get ts 0 ≡ Some t → vector_of_terms ts (lead_rank ts) ≡ t.coef
lead_coef [] t e = absurd (cc e)
lead_coef (u ∷ ts) t e = let z : u ≡ t = cc e in ap (λ b. cond b u.coef (vector_of_terms ts u.rank)) (eq-eqb u.rank u.rank refl) ∙ ap (λ (x : Term). x.coef) z
