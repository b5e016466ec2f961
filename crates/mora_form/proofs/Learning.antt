-- Terms that may be learnt: the test of them, term by term.
-- A rank that isn't above the last one, or a coefficient that is no residue other than 0, stands against a monic polynomial.
use Rattle.std.proofs.Common.{◌≡◌, ℕ, ◌+◌, ◌<◌, ◌≤◌, ◌⊎◌, List, [], ◌∷◌, length, Some, slice_get, refl, ap, sym, ◌∙◌, inl, inr, subst, arith}
use Rattle.std.proofs.lemmas.Bool.{cases_lt}
use Rattle.std.proofs.lemmas.List.Elements.{All-get_or, All-from_get_or}
use Rattle.std.proofs.lemmas.Option.{slice_get_within, get_or_from_slice_get, slice_get-get_or}
use Rattle.entry_code.specs.declared.term.Term.{Term}
use Rattle.mora_form.specs.State.{first_coef, AreMonicTerms}

-- the ranks of the first i terms rise, the last of them is just below `low`, and each is below `places` with a residue other than 0
pub record AreGood (p places i low : ℕ) (ts : List Term) : Type 0 where
  pub rising : (j k : ℕ) (t u : Term) → j < k → k < i → slice_get ts j ≡ Some t → slice_get ts k ≡ Some u → t.rank < u.rank
  pub below : (j : ℕ) (t : Term) → j < i → slice_get ts j ≡ Some t → t.rank < low
  pub last : 0 < low → (j : ℕ) × (t : Term) × (j < i) × (slice_get ts j ≡ Some t) × (t.rank + 1 ≡ low)
  pub ranks : (j : ℕ) (t : Term) → j < i → slice_get ts j ≡ Some t → t.rank < places
  pub residues : (j : ℕ) (t : Term) → j < i → slice_get ts j ≡ Some t → (0 < t.coef) × (t.coef < p)

-- so it is of no terms
pub good_none : (p places : ℕ) (ts : List Term) → AreGood p places 0 0 ts
good_none p places ts = record {
  rising = λ j k t u l m. absurd (omega (arith, m));
  below = λ j t l. absurd (omega (arith, l));
  last = λ l. absurd (omega (arith, l));
  ranks = λ j t l. absurd (omega (arith, l));
  residues = λ j t l. absurd (omega (arith, l));
}

-- at the place of a term stands this one alone
one_term : (ts : List Term) (j i : ℕ) (t u : Term) → j ≡ i → slice_get ts j ≡ Some t → slice_get ts i ≡ Some u → u ≡ t
one_term ts j i t u q e f = let same : Some u ≡ Some t = sym f ∙ ap (slice_get ts) (sym q) ∙ e in cc same

-- the next term has a greater rank
pub good_more : (p places i low : ℕ) (ts : List Term) (t : Term) → AreGood p places i low ts → slice_get ts i ≡ Some t → low ≤ t.rank → t.rank < places → 0 < t.coef → t.coef < p → AreGood p places (i + 1) (t.rank + 1) ts
good_more p places i low ts t h e l r some small = record {
  rising = λ j k u v a b f g. above j k u v a f g (cases_lt k i) b;
  below = λ j u a f. under j u f (cases_lt j i) a;
  last = λ a. (i, t, omega arith, e, refl);
  ranks = λ j u a f. rank j u f (cases_lt j i) a;
  residues = λ j u a f. residue j u f (cases_lt j i) a;
}
  where
    above : (j k : ℕ) (u v : Term) → j < k → slice_get ts j ≡ Some u → slice_get ts k ≡ Some v → (k < i) ⊎ (i ≤ k) → k < i + 1 → u.rank < v.rank
    above j k u v a f g (inl m) b = h.rising j k u v a m f g
    above j k u v a f g (inr m) b = subst (λ x. u.rank < x.rank) (one_term ts k i v t (omega (arith, m, b)) g e) (omega (arith, h.below j u (omega (arith, a, b)) f, l))

    under : (j : ℕ) (u : Term) → slice_get ts j ≡ Some u → (j < i) ⊎ (i ≤ j) → j < i + 1 → u.rank < t.rank + 1
    under j u f (inl m) a = omega (arith, h.below j u m f, l)
    under j u f (inr m) a = subst (λ x. x.rank < t.rank + 1) (one_term ts j i u t (omega (arith, m, a)) f e) (omega arith)

    rank : (j : ℕ) (u : Term) → slice_get ts j ≡ Some u → (j < i) ⊎ (i ≤ j) → j < i + 1 → u.rank < places
    rank j u f (inl m) a = h.ranks j u m f
    rank j u f (inr m) a = subst (λ x. x.rank < places) (one_term ts j i u t (omega (arith, m, a)) f e) r

    residue : (j : ℕ) (u : Term) → slice_get ts j ≡ Some u → (j < i) ⊎ (i ≤ j) → j < i + 1 → (0 < u.coef) × (u.coef < p)
    residue j u f (inl m) a = h.residues j u m f
    residue j u f (inr m) a = subst (λ x. (0 < x.coef) × (x.coef < p)) (one_term ts j i u t (omega (arith, m, a)) f e) (some, small)

-- the first coefficient is that of the first term
pub first_coef_is : (ts : List Term) (t : Term) → slice_get ts 0 ≡ Some t → first_coef ts ≡ t.coef
first_coef_is [] t e = absurd (cc e)
first_coef_is (u ∷ ts) t e = let same : u ≡ t = cc e in ap (λ x. x.coef) same

-- all terms are those of a monic polynomial, where the first coefficient is 1
pub good_all : (p places i low : ℕ) (ts : List Term) → AreGood p places i low ts → length ts ≤ i → 0 < length ts → first_coef ts ≡ 1 → AreMonicTerms p places ts
good_all p places i low ts h past some one = record {
  some = some;
  ranks = record {
    rising = λ j k t u a e f. h.rising j k t u a (omega (arith, past, slice_get_within ts k u f)) e f;
    low = All-from_get_or (λ t. t.rank < places) ts no_term (λ j l. h.ranks j _ (omega (arith, l, past)) (slice_get-get_or ts j no_term l));
  };
  one = one;
  residues = All-from_get_or (λ t. (0 < t.coef) × (t.coef < p)) ts no_term (λ j l. h.residues j _ (omega (arith, l, past)) (slice_get-get_or ts j no_term l));
}
  where
    no_term : Term
    no_term = record { rank = 0; coef = 0 }

-- a monic polynomial has no term whose rank isn't above that of the term before
pub not_below : (p places i low : ℕ) (ts : List Term) (t : Term) → AreGood p places i low ts → slice_get ts i ≡ Some t → AreMonicTerms p places ts → low ≤ t.rank
not_below p places i low ts t h e w = go (cases_lt t.rank low)
  where
    go : (t.rank < low) ⊎ (low ≤ t.rank) → low ≤ t.rank
    go (inr l) = l
    go (inl l) = let b = h.last (omega (arith, l)) in omega (arith, w.ranks.rising b.0 i b.1 t b.2 b.3 e, b.4)

-- each of its terms has a rank below `places` and a residue other than 0
pub term_good : (p places i : ℕ) (ts : List Term) (t : Term) → slice_get ts i ≡ Some t → AreMonicTerms p places ts → (t.rank < places) × (0 < t.coef) × (t.coef < p)
term_good p places i ts t e w =
    let l = slice_get_within ts i t e in
    let same = get_or_from_slice_get ts i t t e in
    let residue : (0 < t.coef) × (t.coef < p) = subst (λ x. (0 < x.coef) × (x.coef < p)) same (All-get_or (λ x. (0 < x.coef) × (x.coef < p)) ts i t l w.residues) in
    (subst (λ x. x.rank < places) same (All-get_or (λ x. x.rank < places) ts i t l w.ranks.low), residue.0, residue.1)
