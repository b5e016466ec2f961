-- Terms by rank and the entries of an ordered map: coefficients are look-ups, and the ranks rise as the keys do.
-- Each lemma goes along the terms.
use Rattle.std.proofs.Common.{◌≡◌, ◌≢◌, ℕ, zero, suc, ◌<◌, ◌⊎◌, List, [], ◌∷◌, ◌++◌, length, get_or, map, All, append_assoc, Bool, true, false, cond, eqb, Some, refl, sym, ◌∙◌, ap, ap₂, arith, inl, inr, append-nil}
use Rattle.std.specs.Prelude.{unwrap_or}
use Rattle.std.specs.Ordering.{nat_cmp, is_eq}
use Rattle.std.specs.Map.{lookup, keys_of}
use Rattle.std.specs.BTreeMap.{is_at}
use Rattle.std.specs.List.Sorted.{IsStrictlySortedBy}
use Rattle.std.specs.declared.cmp.Ordering.TheVariants.{Less, Equal, Greater}
use Rattle.std.specs.Prelude.{nat_eq, nat_lt}
use Rattle.std.proofs.lemmas.Cmp.{ranked}
use Rattle.std.proofs.lemmas.List.{map-append}
use Rattle.std.proofs.lemmas.Bool.{cases_order, eq-eqb, ne_eqb, lt-ltb, le-ltb}
use Rattle.entry_code.specs.declared.term.Term.{Term}
use Rattle.entry_code.specs.Terms.{vector_of_terms}
use Rattle.cert_check.specs.Sparse.{AreRisingTerms}
use Rattle.cert_check.proofs.TermVectors.{rising_rest, first_below}

-- the terms as entries
abbrev pub pairs : List Term → List (ℕ × ℕ)
pairs ts = map (λ t. (t.rank, t.coef)) ts

-- keys are compared as numbers
at_is_eqb : (r k : ℕ) → is_at (nat_cmp r) k ≡ eqb k r
at_is_eqb r k = go (cases_order r k)
  where
    by : (a b c : Bool) → nat_lt r k ≡ a → nat_eq r k ≡ b → eqb k r ≡ c → is_eq (cond a Less (cond b Equal Greater)) ≡ c → is_at (nat_cmp r) k ≡ eqb k r
    by a b c e f g h = ap₂ (λ x y. is_eq (cond x Less (cond y Equal Greater))) e f ∙ h ∙ sym g

    go : (r ≡ k) ⊎ ((r < k) ⊎ (k < r)) → is_at (nat_cmp r) k ≡ eqb k r
    go (inl e) = by false true true (le-ltb r k (omega (arith, e))) (eq-eqb r k e) (eq-eqb k r (sym e)) refl
    go (inr (inl l)) = by true false false (lt-ltb r k l) (ne_eqb r k (λ e. omega (arith, e, l))) (ne_eqb k r (λ e. omega (arith, e, l))) refl
    go (inr (inr l)) = by false false false (le-ltb r k (omega (arith, l))) (ne_eqb r k (λ e. omega (arith, e, l))) (ne_eqb k r (λ e. omega (arith, e, l))) refl

-- a coefficient is what a look-up finds, or 0
pub coef_is_lookup : (ts : List Term) (r : ℕ) → vector_of_terms ts r ≡ unwrap_or (lookup (is_at (nat_cmp r)) (pairs ts)) 0
coef_is_lookup [] r = refl
coef_is_lookup (t ∷ ts) r = ap (λ b. cond b t.coef (vector_of_terms ts r)) (sym (at_is_eqb r t.rank)) ∙ go (is_at (nat_cmp r) t.rank) (coef_is_lookup ts r)
  where
    go : (b : Bool) → vector_of_terms ts r ≡ unwrap_or (lookup (is_at (nat_cmp r)) (pairs ts)) 0 →
        cond b t.coef (vector_of_terms ts r) ≡ unwrap_or (cond b (Some t.coef) (lookup (is_at (nat_cmp r)) (pairs ts))) 0
    go true e = refl
    go false e = e

-- terms whose ranks are the keys of an ordered map rise
pub rising_from_keys : (ts : List Term) → IsStrictlySortedBy nat_cmp (keys_of (pairs ts)) → AreRisingTerms ts
unfolding IsStrictlySortedBy
rising_from_keys [] s = tt
rising_from_keys (t ∷ []) s = tt
rising_from_keys (t ∷ u ∷ ts) s = (ranked t.rank u.rank Less (sym s.0.0), rising_from_keys (u ∷ ts) s.1)

-- one more term is one more entry
pub pairs_more : (ts : List Term) (t : Term) (es xs : List (ℕ × ℕ)) → pairs ts ++ (t.rank, t.coef) ∷ es ≡ xs → pairs (ts ++ t ∷ []) ++ es ≡ xs
pairs_more ts t es xs e = ap (λ ys. ys ++ es) (map-append (λ (x : Term). (x.rank, x.coef)) ts (t ∷ [])) ∙ append_assoc (pairs ts) ((t.rank, t.coef) ∷ []) es ∙ e

-- a look-up at the rank of a term finds its coefficient
lookup_at : (ts : List Term) (k : ℕ) (d : Term) → AreRisingTerms ts → k < length ts → lookup (is_at (nat_cmp (get_or ts k d).rank)) (pairs ts) ≡ Some (get_or ts k d).coef
lookup_at [] k d h l = absurd (omega (arith, l))
lookup_at (t ∷ ts) zero d h l = ap (λ b. cond b (Some t.coef) (lookup (is_at (nat_cmp t.rank)) (pairs ts))) (at_is_eqb t.rank t.rank ∙ eq-eqb t.rank t.rank refl)
lookup_at (t ∷ ts) (suc k) d h l =
    ap (λ b. cond b (Some t.coef) (lookup (is_at (nat_cmp (get_or ts k d).rank)) (pairs ts))) (at_is_eqb (get_or ts k d).rank t.rank ∙ ne_eqb t.rank (get_or ts k d).rank (λ e. omega (arith, e, first_below t ts k d h (omega (arith, l)))))
    ∙ lookup_at ts k d (rising_rest t ts h) (omega (arith, l))

-- so no coefficient is 0 where no look-up finds 0
pub none_zero : (ts : List Term) → AreRisingTerms ts → ((r : ℕ) → lookup (is_at (nat_cmp r)) (pairs ts) ≡ Some 0 → ⊥) → All (λ (t : Term). t.coef ≢ 0) ts
none_zero ts h none k d l e = none (get_or ts k d).rank (lookup_at ts k d h l ∙ ap Some e)

-- a list with nothing behind it is the whole
pub all_taken : {X : Type 0} (xs ys zs : List X) → xs ++ ys ≡ zs → ys ≡ [] → xs ≡ zs
all_taken xs ys zs e f = sym (append-nil xs) ∙ ap (λ l. xs ++ l) (sym f) ∙ e
