-- What is known to hold or not: conditions that a search of finite length decides.
use Rattle.std.proofs.Common.{◌≡◌, ℕ, zero, suc, ◌<◌, ◌≤◌, ◌⊎◌, List, [], ◌∷◌, true, Option, Some, None, refl, ap, ap₂, subst, arith, inl, inr}
use Rattle.std.proofs.lemmas.Bool.{cases_lt, cases_eq}
use Rattle.std.specs.Prelude.{is_some}

-- it holds, or it doesn't
abbrev pub Decided : Type 0 → Type 0
Decided A = A ⊎ (A → ⊥)

-- what is the same as something decided
pub decided_by : {A B : Type 0} → (A → B) → (B → A) → Decided A → Decided B
decided_by to from (inl a) = inl (to a)
decided_by to from (inr n) = inr (λ b. n (from b))

-- both
pub decided_both : {A B : Type 0} → Decided A → Decided B → Decided (A × B)
decided_both (inl a) (inl b) = inl (a, b)
decided_both (inl a) (inr n) = inr (λ x. n x.1)
decided_both (inr n) b = inr (λ x. n x.0)

-- one of two
pub decided_either : {A B : Type 0} → Decided A → Decided B → Decided (A ⊎ B)
decided_either (inl a) b = inl (inl a)
decided_either (inr n) (inl b) = inl (inr b)
decided_either {A} {B} (inr n) (inr m) = inr go
  where
    go : A ⊎ B → ⊥
    go (inl a) = n a
    go (inr b) = m b

-- that something isn't so
pub decided_not : {A : Type 0} → Decided A → Decided (A → ⊥)
decided_not (inl a) = inr (λ n. n a)
decided_not (inr n) = inl n

-- the second, where the first holds
pub decided_if : {A B : Type 0} → Decided A → Decided B → Decided (A → B)
decided_if (inr n) b = inl (λ a. absurd (n a))
decided_if (inl a) (inl b) = inl (λ x. b)
decided_if (inl a) (inr n) = inr (λ f. n (f a))

-- each number below n
pub decided_each : (Q : ℕ → Type 0) → ((k : ℕ) → Decided (Q k)) → (n : ℕ) → Decided ((k : ℕ) → k < n → Q k)
decided_each Q q zero = inl (λ k l. absurd (omega (arith, l)))
decided_each Q q (suc n) = go (decided_each Q q n) (q n)
  where
    go : Decided ((k : ℕ) → k < n → Q k) → Decided (Q n) → Decided ((k : ℕ) → k < suc n → Q k)
    go (inr m) x = inr (λ f. m (λ k l. f k (omega (arith, l))))
    go (inl f) (inr m) = inr (λ g. m (g n (omega arith)))
    go (inl f) (inl x) = inl (λ k l. at k l (cases_lt k n))
      where
        at : (k : ℕ) → k < suc n → (k < n) ⊎ (n ≤ k) → Q k
        at k l (inl m) = f k m
        at k l (inr m) = let z : n ≡ k = omega arith in subst Q z x

-- some number below n
pub decided_some : (Q : ℕ → Type 0) → ((k : ℕ) → Decided (Q k)) → (n : ℕ) → Decided ((k : ℕ) × (k < n) × Q k)
decided_some Q q n = go (decided_each (λ k. Q k → ⊥) (λ k. decided_not (q k)) n) (find n)
  where
    find : (n : ℕ) → (((k : ℕ) → k < n → Q k → ⊥) → ⊥) → (k : ℕ) × (k < n) × Q k
    find zero h = absurd (h (λ k l x. absurd (omega (arith, l))))
    find (suc m) h = at (q m) (find m)
      where
        at : Decided (Q m) → ((((k : ℕ) → k < m → Q k → ⊥) → ⊥) → (k : ℕ) × (k < m) × Q k) → (k : ℕ) × (k < suc m) × Q k
        at (inl x) up = (m, omega arith, x)
        at (inr misses) up =
            let r = up (λ f. h (λ k l x. below f k l x (cases_lt k m))) in
            (r.0, omega (arith, r.1), r.2)
          where
            below : ((k : ℕ) → k < m → Q k → ⊥) → (k : ℕ) → k < suc m → Q k → (k < m) ⊎ (m ≤ k) → ⊥
            below f k l x (inl o) = f k o x
            below f k l x (inr o) = let z : k ≡ m = omega arith in misses (subst Q z x)

    go : Decided ((k : ℕ) → k < n → Q k → ⊥) → ((((k : ℕ) → k < n → Q k → ⊥) → ⊥) → (k : ℕ) × (k < n) × Q k) → Decided ((k : ℕ) × (k < n) × Q k)
    go (inl f) up = inr (λ x. f x.0 x.1 x.2)
    go (inr n) up = inl (up n)

-- ---- numbers, lists and options
pub decided_lt : (a b : ℕ) → Decided (a < b)
decided_lt a b = go (cases_lt a b)
  where
    go : (a < b) ⊎ (b ≤ a) → Decided (a < b)
    go (inl l) = inl l
    go (inr l) = inr (λ m. omega (arith, l, m))

-- Whether a number is at most another is decided,
pub decided_le : (a b : ℕ) → Decided (a ≤ b)
decided_le a b = go (cases_lt b a)
  where
    go : (b < a) ⊎ (a ≤ b) → Decided (a ≤ b)
    go (inl l) = inr (λ m. omega (arith, l, m))
    go (inr l) = inl l

-- and so is whether two numbers are the same.
pub decided_nat : (a b : ℕ) → Decided (a ≡ b)
decided_nat a b = cases_eq a b

-- two lists, where two members are
pub decided_list : {X : Type 0} → ((x y : X) → Decided (x ≡ y)) → (xs ys : List X) → Decided (xs ≡ ys)
decided_list same [] [] = inl refl
decided_list same [] (y ∷ ys) = inr (λ e. absurd (cc e))
decided_list same (x ∷ xs) [] = inr (λ e. absurd (cc e))
decided_list {X} same (x ∷ xs) (y ∷ ys) = go (same x y) (decided_list same xs ys)
  where
    go : Decided (x ≡ y) → Decided (xs ≡ ys) → Decided (x ∷ xs ≡ y ∷ ys)
    go (inl e) (inl f) = inl (ap₂ ◌∷◌ e f)
    go (inl e) (inr n) = inr (λ z. n (cc z))
    go (inr n) f = inr (λ z. n (cc z))

-- two options, where two values are
pub decided_option : {X : Type 0} → ((x y : X) → Decided (x ≡ y)) → (a b : Option X) → Decided (a ≡ b)
decided_option same None None = inl refl
decided_option same None (Some y) = inr (λ e. absurd (cc e))
decided_option same (Some x) None = inr (λ e. absurd (cc e))
decided_option same (Some x) (Some y) = decided_by (λ e. ap Some e) (λ e. cc e) (same x y)

-- that an option has a value
pub decided_is_some : {X : Type 0} → (o : Option X) → Decided (is_some o ≡ true)
decided_is_some None = inr (λ e. absurd (cc e))
decided_is_some (Some x) = inl refl
