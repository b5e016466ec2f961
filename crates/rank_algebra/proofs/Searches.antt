-- Searches among numbers that follow each other: what is found passes the test, and where nothing is found none passes.
-- By induction on how many numbers are left.
use Rattle.std.proofs.Common.{sym, ◌≡◌, ℕ, List, [], ◌∷◌, max, zero, suc, ◌+◌, ◌<◌, ◌≤◌, ◌⊎◌, Bool, true, false, ◌&&◌, Some, None, cond, refl, ◌∙◌, ap, ap₂, subst, arith, inl, inr}
use Rattle.std.specs.Prelude.{find, filter, fold}
use Rattle.std.specs.List.{range_with_len, list_all}
use Rattle.std.proofs.lemmas.Bool.{cases_lt}

-- both parts of a conjunction
pub and_true : (a b : Bool) → (a && b) ≡ true → (a ≡ true) × (b ≡ true)
and_true true true e = (refl, refl)
and_true true false e = absurd (cc e)
and_true false b e = absurd (cc e)

-- what a search among numbers finds passes the test
pub found : (test : ℕ → Bool) (a n k : ℕ) → find test (range_with_len a n) ≡ Some k → (k < a + n) × (test k ≡ true)
found test a zero k e = absurd (cc e)
found test a (suc n) k e = go (test a) refl e (found test (a + 1) n k)
  where
    go : (b : Bool) → test a ≡ b → cond b (Some a) (find test (range_with_len (a + 1) n)) ≡ Some k →
        (find test (range_with_len (a + 1) n) ≡ Some k → (k < a + 1 + n) × (test k ≡ true)) → (k < a + suc n) × (test k ≡ true)
    go true f g up = let z : a ≡ k = cc g in (omega (arith, z), subst (λ x. test x ≡ true) z f)
    go false f g up = let h = up g in (omega (arith, h.0), h.1)

-- searches by tests that agree find the same
pub find_same : (test test' : ℕ → Bool) (a n : ℕ) → ((k : ℕ) → k < a + n → test k ≡ test' k) → find test (range_with_len a n) ≡ find test' (range_with_len a n)
find_same test test' a zero h = refl
find_same test test' a (suc n) h = ap₂ (λ b o. cond b (Some a) o) (h a (omega arith)) (find_same test test' (a + 1) n (λ k l. h k (omega arith)))

-- where nothing is found no number passes
pub not_found : (test : ℕ → Bool) (a n : ℕ) → find test (range_with_len a n) ≡ None → (k : ℕ) → a ≤ k → k < a + n → test k ≡ false
not_found test a zero e k l m = absurd (omega (arith, l, m))
not_found test a (suc n) e k l m = go (test a) refl e (cases_lt a k) (λ g o. not_found test (a + 1) n g k o (omega arith))
  where
    go : (b : Bool) → test a ≡ b → cond b (Some a) (find test (range_with_len (a + 1) n)) ≡ None → (a < k) ⊎ (k ≤ a) →
        (find test (range_with_len (a + 1) n) ≡ None → a + 1 ≤ k → test k ≡ false) → test k ≡ false
    go true f g c up = absurd (cc g)
    go false f g (inl o) up = up g (omega arith)
    go false f g (inr o) up = let z : a ≡ k = omega arith in subst (λ x. test x ≡ false) z f

-- and where none passes nothing is found
pub none_found : (test : ℕ → Bool) (a n : ℕ) → ((k : ℕ) → a ≤ k → k < a + n → test k ≡ false) → find test (range_with_len a n) ≡ None
none_found test a zero h = refl
none_found test a (suc n) h =
    ap (λ b. cond b (Some a) (find test (range_with_len (a + 1) n))) (h a (omega arith) (omega arith))
    ∙ none_found test (a + 1) n (λ k l m. h k (omega arith) (omega arith))

-- what is found is the first to pass
pub found_first : (test : ℕ → Bool) (a n k : ℕ) → find test (range_with_len a n) ≡ Some k → (j : ℕ) → a ≤ j → j < k → test j ≡ false
found_first test a zero k e j l m = absurd (cc e)
found_first test a (suc n) k e j l m = go (test a) refl e (cases_lt a j) (λ g o. found_first test (a + 1) n k g j o m)
  where
    go : (b : Bool) → test a ≡ b → cond b (Some a) (find test (range_with_len (a + 1) n)) ≡ Some k → (a < j) ⊎ (j ≤ a) →
        (find test (range_with_len (a + 1) n) ≡ Some k → a + 1 ≤ j → test j ≡ false) → test j ≡ false
    go true f g c up = let z : a ≡ k = cc g in absurd (omega (arith, z, l, m))
    go false f g (inl o) up = up g (omega arith)
    go false f g (inr o) up = let z : a ≡ j = omega arith in subst (λ x. test x ≡ false) z f

-- and the first to pass is found
pub first_found : (test : ℕ → Bool) (a n k : ℕ) → a ≤ k → k < a + n → test k ≡ true → ((j : ℕ) → a ≤ j → j < k → test j ≡ false) → find test (range_with_len a n) ≡ Some k
first_found test a zero k l m t h = absurd (omega (arith, l, m))
first_found test a (suc n) k l m t h = go (cases_lt a k) (λ o. first_found test (a + 1) n k o (omega arith) t (λ j x y. h j (omega arith) y))
  where
    go : (a < k) ⊎ (k ≤ a) → (a + 1 ≤ k → find test (range_with_len (a + 1) n) ≡ Some k) → cond (test a) (Some a) (find test (range_with_len (a + 1) n)) ≡ Some k
    go (inl o) up = ap (λ b. cond b (Some a) (find test (range_with_len (a + 1) n))) (h a (omega arith) o) ∙ up (omega arith)
    go (inr o) up = let z : a ≡ k = omega arith in ap (λ b. cond b (Some a) (find test (range_with_len (a + 1) n))) (subst (λ x. test x ≡ true) (sym z) t) ∙ ap Some z

-- where all of some numbers pass, each does
pub each_passes : (test : ℕ → Bool) (a n : ℕ) → list_all test (range_with_len a n) ≡ true → (k : ℕ) → a ≤ k → k < a + n → test k ≡ true
each_passes test a zero e k l m = absurd (omega (arith, l, m))
each_passes test a (suc n) e k l m = let both = and_true (test a) (list_all test (range_with_len (a + 1) n)) e in go both.0 (cases_lt a k) (λ o. each_passes test (a + 1) n both.1 k o (omega arith))
  where
    go : test a ≡ true → (a < k) ⊎ (k ≤ a) → (a + 1 ≤ k → test k ≡ true) → test k ≡ true
    go f (inl o) up = up (omega arith)
    go f (inr o) up = let z : a ≡ k = omega arith in subst (λ x. test x ≡ true) z f

-- and where each does, all do
pub all_pass : (test : ℕ → Bool) (a n : ℕ) → ((k : ℕ) → a ≤ k → k < a + n → test k ≡ true) → list_all test (range_with_len a n) ≡ true
all_pass test a zero h = refl
all_pass test a (suc n) h = ap₂ (λ b c. b && c) (h a (omega arith) (omega arith)) (all_pass test (a + 1) n (λ k l m. h k (omega arith) (omega arith)))

-- tests that agree all pass together
pub all_same : (test test' : ℕ → Bool) (a n : ℕ) → ((k : ℕ) → test k ≡ test' k) → list_all test (range_with_len a n) ≡ list_all test' (range_with_len a n)
all_same test test' a zero h = refl
all_same test test' a (suc n) h = ap₂ (λ b c. b && c) (h a) (all_same test test' (a + 1) n h)

-- tests that agree let the same numbers pass
pub filter_same : (test test' : ℕ → Bool) (a n : ℕ) → ((k : ℕ) → k < a + n → test k ≡ test' k) → filter test (range_with_len a n) ≡ filter test' (range_with_len a n)
filter_same test test' a zero h = refl
filter_same test test' a (suc n) h = ap₂ (λ b s. cond b (a ∷ s) s) (h a (omega arith)) (filter_same test test' (a + 1) n (λ k l. h k (omega arith)))

-- the greatest of some values
abbrev pub greatest : (ℕ → ℕ) → ℕ → List ℕ → ℕ
greatest value most s = fold (λ m k. max m (value k)) most s

-- the greatest value of those that pass is at most a bound of them
pub greatest_low : (test : ℕ → Bool) (value : ℕ → ℕ) (t most a n : ℕ) → most ≤ t → ((k : ℕ) → a ≤ k → k < a + n → test k ≡ true → value k ≤ t)
    → greatest value most (filter test (range_with_len a n)) ≤ t
greatest_low test value t most a zero l h = l
greatest_low test value t most a (suc n) l h = go (test a) refl (λ m o. greatest_low test value t m (a + 1) n o (λ k x y. h k (omega arith) (omega arith)))
  where
    go : (b : Bool) → test a ≡ b → ((m : ℕ) → m ≤ t → greatest value m (filter test (range_with_len (a + 1) n)) ≤ t)
        → greatest value most (cond b (a ∷ filter test (range_with_len (a + 1) n)) (filter test (range_with_len (a + 1) n))) ≤ t
    go true e up = up (max most (value a)) (let z = h a (omega arith) (omega arith) e in omega (arith, l, z))
    go false e up = up most l

-- it is no less than what it began with
greatest_more : (value : ℕ → ℕ) (most : ℕ) (s : List ℕ) → most ≤ greatest value most s
greatest_more value most [] = omega arith
greatest_more value most (k ∷ s) = let up = greatest_more value (max most (value k)) s in omega (arith, up)

-- and no less than any of these values
pub greatest_high : (test : ℕ → Bool) (value : ℕ → ℕ) (most a n k : ℕ) → a ≤ k → k < a + n → test k ≡ true → value k ≤ greatest value most (filter test (range_with_len a n))
greatest_high test value most a zero k l m e = absurd (omega (arith, l, m))
greatest_high test value most a (suc n) k l m e = go (test a) refl (cases_lt a k) (λ most o. greatest_high test value most (a + 1) n k o (omega arith) e)
  where
    go : (b : Bool) → test a ≡ b → (a < k) ⊎ (k ≤ a) → ((most : ℕ) → a + 1 ≤ k → value k ≤ greatest value most (filter test (range_with_len (a + 1) n)))
        → value k ≤ greatest value most (cond b (a ∷ filter test (range_with_len (a + 1) n)) (filter test (range_with_len (a + 1) n)))
    go true f (inl o) up = up (max most (value a)) (omega arith)
    go false f (inl o) up = up most (omega arith)
    go true f (inr o) up = let z : a ≡ k = omega arith in
        let here = greatest_more value (max most (value a)) (filter test (range_with_len (a + 1) n)) in
        omega (arith, here, ap value z)
    go false f (inr o) up = let z : a ≡ k = omega arith in absurd (cc (sym e ∙ ap test (sym z) ∙ f))
