-- Lists read by place, after one place changed or one came last.
-- By induction on the list and the place.
use Rattle.std.proofs.Common.{◌≡◌, ◌≢◌, ◌⊎◌, ℕ, zero, suc, ◌+◌, ◌<◌, ◌≤◌, List, [], ◌∷◌, ◌++◌, length, get_or, set, refl, sym, ap, inl, inr, ⊎_elim, arith}
use Rattle.std.specs.Prelude.{sum_by}
use Rattle.std.proofs.lemmas.List.Sums.{sum_by-set, sum_by-append}
use mathlib.Core.Option.{some, some-injective, some-ne-none}
use lib.ListN.{get_elem?}

module _ {A : Type 0} where
  -- a place that has a member is within the list, and the member is the one there
  pub at_here : (l : List A) (i : ℕ) (v d : A) → get_elem? l i ≡ some v → (i < length l) × (get_or l i d ≡ v)
  at_here [] i v d e = absurd (some-ne-none v (sym e))
  at_here (x ∷ xs) zero v d e = (omega arith, some-injective x v e)
  at_here (x ∷ xs) (suc i) v d e = let r = at_here xs i v d e in (omega arith, r.1)

  -- after a change of one place: the new member there, or an old one elsewhere
  pub at_set : (l : List A) (i j : ℕ) (a b : A) → get_elem? (set l i a) j ≡ some b → ((j ≡ i) × (a ≡ b)) ⊎ ((j ≢ i) × (get_elem? l j ≡ some b))
  at_set [] i j a b e = absurd (some-ne-none b (sym e))
  at_set (x ∷ xs) zero zero a b e = inl (refl, some-injective a b e)
  at_set (x ∷ xs) zero (suc j) a b e = inr ((λ h. omega arith), e)
  at_set (x ∷ xs) (suc i) zero a b e = inr ((λ h. omega arith), e)
  at_set (x ∷ xs) (suc i) (suc j) a b e = ⊎_elim (λ t. inl (ap suc t.0, t.1)) (λ t. let n = t.0 in inr ((λ h. n (omega arith)), t.1)) (at_set xs i j a b e)

  -- the place that changed has the new member
  pub set_here : (l : List A) (i : ℕ) (v a : A) → get_elem? l i ≡ some v → get_elem? (set l i a) i ≡ some a
  set_here [] i v a e = absurd (some-ne-none v (sym e))
  set_here (x ∷ xs) zero v a e = refl
  set_here (x ∷ xs) (suc i) v a e = set_here xs i v a e

  -- another place has what it had
  pub set_else : (l : List A) (i j : ℕ) (a : A) → j ≢ i → get_elem? (set l i a) j ≡ get_elem? l j
  set_else [] i j a n = refl
  set_else (x ∷ xs) zero zero a n = absurd (n refl)
  set_else (x ∷ xs) zero (suc j) a n = refl
  set_else (x ∷ xs) (suc i) zero a n = refl
  set_else (x ∷ xs) (suc i) (suc j) a n = set_else xs i j a (λ e. n (ap suc e))

  -- after one member more: an old one, or the new one last
  pub at_snoc : (l : List A) (a b : A) (j : ℕ) → get_elem? (l ++ a ∷ []) j ≡ some b → (get_elem? l j ≡ some b) ⊎ ((j ≡ length l) × (a ≡ b))
  at_snoc [] a b zero e = inr (refl, some-injective a b e)
  at_snoc [] a b (suc j) e = absurd (some-ne-none b (sym e))
  at_snoc (x ∷ xs) a b zero e = inl e
  at_snoc (x ∷ xs) a b (suc j) e = ⊎_elim (λ t. inl t) (λ t. let k = t.0 in inr (omega arith, t.1)) (at_snoc xs a b j e)

  -- a place of the first list is the same in a longer one
  pub at_longer : (l m : List A) (i : ℕ) (a : A) → get_elem? l i ≡ some a → get_elem? (l ++ m) i ≡ some a
  at_longer [] m i a e = absurd (some-ne-none a (sym e))
  at_longer (x ∷ xs) m zero a e = e
  at_longer (x ∷ xs) m (suc i) a e = at_longer xs m i a e

  -- a sum after one place changed
  pub sum_set : (f : A → ℕ) (l : List A) (i : ℕ) (v w : A) → get_elem? l i ≡ some v → sum_by f (set l i w) + f v ≡ sum_by f l + f w
  sum_set f l i v w e = let h = at_here l i v v e in let s = sum_by-set f l i w v h.0 in let is = ap f h.1 in omega arith

module _ {A : Type 0} where
  -- one member counts at most the sum
  pub sum_one : (f : A → ℕ) (l : List A) (i : ℕ) (v : A) → get_elem? l i ≡ some v → f v ≤ sum_by f l
  sum_one f [] i v e = absurd (some-ne-none v (sym e))
  sum_one f (x ∷ xs) zero v e = let is = ap f (some-injective x v e) in omega (arith, sum_by-append f (x ∷ []) xs)
  sum_one f (x ∷ xs) (suc i) v e = let r = sum_one f xs i v e in omega (arith, sum_by-append f (x ∷ []) xs)

  -- two members at different places count together at most the sum
  pub sum_two : (f : A → ℕ) (l : List A) (i j : ℕ) (v w : A) → i ≢ j → get_elem? l i ≡ some v → get_elem? l j ≡ some w → f v + f w ≤ sum_by f l
  sum_two f [] i j v w ne e e' = absurd (some-ne-none v (sym e))
  sum_two f (x ∷ xs) zero zero v w ne e e' = absurd (ne refl)
  sum_two f (x ∷ xs) zero (suc j) v w ne e e' = let is = ap f (some-injective x v e) in let r = sum_one f xs j w e' in omega (arith, sum_by-append f (x ∷ []) xs)
  sum_two f (x ∷ xs) (suc i) zero v w ne e e' = let is = ap f (some-injective x w e') in let r = sum_one f xs i v e in omega (arith, sum_by-append f (x ∷ []) xs)
  sum_two f (x ∷ xs) (suc i) (suc j) v w ne e e' = let r = sum_two f xs i j v w (λ s. ne (ap suc s)) e e' in omega (arith, sum_by-append f (x ∷ []) xs)
