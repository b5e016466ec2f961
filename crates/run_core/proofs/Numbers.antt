-- Lists of worker numbers: the greatest is one of them, and is taken away once.
-- By induction on the list.
use Rattle.std.proofs.Common.{◌≡◌, ℕ, ◌+◌, ◌<◌, ◌≤◌, ◌⊎◌, Bool, true, false, cond, eqb, List, [], ◌∷◌, ◌++◌, length, refl, ap, subst, inl, inr, arith, eq-eqb}
use Rattle.std.proofs.lemmas.Bool.{cases_lt, eqb-true}
use Rattle.std.proofs.lemmas.List.Sums.{sum_by-append}
use Rattle.std.specs.Prelude.{max, min}
use Rattle.run_core.specs.State.{times, highest, lowest, without}

-- the first number and the others
pub times_first : (x n : ℕ) (ns : List ℕ) → times x (n ∷ ns) ≡ times x (n ∷ []) + times x ns
times_first x n ns = sum_by-append (λ (y : ℕ). cond (eqb x y) 1 0) (n ∷ []) ns

-- two lists
pub times_append : (x : ℕ) (ns ks : List ℕ) → times x (ns ++ ks) ≡ times x ns + times x ks
times_append x ns ks = sum_by-append (λ (y : ℕ). cond (eqb x y) 1 0) ns ks

-- a list of one number has it once
pub times_one : (n : ℕ) → times n (n ∷ []) ≡ 1
times_one n = ap (λ b. 0 + cond b 1 0) (eq-eqb n n refl)

-- a list has its first number
pub has_first : (n : ℕ) (ns : List ℕ) → 0 < times n (n ∷ ns)
has_first n ns = omega (arith, times_first n n ns, times_one n)

-- and its greatest
pub has_highest : (ns : List ℕ) → 0 < length ns → 0 < times (highest ns) ns
has_highest [] l = absurd (omega arith)
has_highest (n ∷ ns) l = go (cases_lt n (highest ns)) (has_highest ns)
  where
    some : (ks : List ℕ) → n < highest ks → 0 < length ks
    some [] m = absurd (omega arith)
    some (k ∷ ks) m = omega arith

    go : (n < highest ns) ⊎ (highest ns ≤ n) → (0 < length ns → 0 < times (highest ns) ns) → 0 < times (max n (highest ns)) (n ∷ ns)
    go (inl x) r = let e : highest ns ≡ max n (highest ns) = omega arith in
        let h = r (some ns x) in
        subst (λ k. 0 < times k (n ∷ ns)) e (omega (arith, times_first (highest ns) n ns))
    go (inr x) r = let e : n ≡ max n (highest ns) = omega arith in subst (λ k. 0 < times k (n ∷ ns)) e (has_first n ns)

-- a list without one of its numbers has it once less
pub times_without : (x y : ℕ) (ns : List ℕ) → 0 < times x ns → times y (without x ns) + times y (x ∷ []) ≡ times y ns
times_without x y [] l = absurd (omega arith)
times_without x y (n ∷ ns) l = go (eqb x n) refl (times_without x y ns)
  where
    go : (b : Bool) → eqb x n ≡ b → (0 < times x ns → times y (without x ns) + times y (x ∷ []) ≡ times y ns) →
        times y (cond b ns (n ∷ without x ns)) + times y (x ∷ []) ≡ times y (n ∷ ns)
    go true e r = let z : x ≡ n = eqb-true x n e in let w : times y (x ∷ []) ≡ times y (n ∷ []) = ap (λ k. times y (k ∷ [])) z in omega (arith, times_first y n ns)
    go false e r =
        let z : times x (n ∷ []) ≡ 0 = ap (λ b. 0 + cond b 1 0) e in
        let h = r (omega (arith, times_first x n ns)) in
        omega (arith, times_first y n ns, times_first y n (without x ns))

-- and is shorter by one
pub length_without : (x : ℕ) (ns : List ℕ) → 0 < times x ns → length (without x ns) + 1 ≡ length ns
length_without x [] l = absurd (omega arith)
length_without x (n ∷ ns) l = go (eqb x n) refl (length_without x ns)
  where
    go : (b : Bool) → eqb x n ≡ b → (0 < times x ns → length (without x ns) + 1 ≡ length ns) → length (cond b ns (n ∷ without x ns)) + 1 ≡ length (n ∷ ns)
    go true e r = omega arith
    go false e r =
        let z : times x (n ∷ []) ≡ 0 = ap (λ b. 0 + cond b 1 0) e in
        let h = r (omega (arith, times_first x n ns)) in
        omega arith

-- a list has its least number
pub has_lowest : (ns : List ℕ) → 0 < length ns → 0 < times (lowest ns) ns
has_lowest [] l = absurd (omega arith)
has_lowest (n ∷ []) l = has_first n []
has_lowest (n ∷ k ∷ ns) l = go (cases_lt n (lowest (k ∷ ns))) (has_lowest (k ∷ ns) (omega arith))
  where
    go : (n < lowest (k ∷ ns)) ⊎ (lowest (k ∷ ns) ≤ n) → 0 < times (lowest (k ∷ ns)) (k ∷ ns) → 0 < times (min n (lowest (k ∷ ns))) (n ∷ k ∷ ns)
    go (inl x) r = let e : n ≡ min n (lowest (k ∷ ns)) = omega arith in subst (λ x. 0 < times x (n ∷ k ∷ ns)) e (has_first n (k ∷ ns))
    go (inr x) r = let e : lowest (k ∷ ns) ≡ min n (lowest (k ∷ ns)) = omega arith in
        subst (λ x. 0 < times x (n ∷ k ∷ ns)) e (omega (arith, r, times_first (lowest (k ∷ ns)) n (k ∷ ns)))
