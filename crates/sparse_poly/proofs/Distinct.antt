-- Different letters, found one after another.
-- The loop over the bytes keeps that those before are letters and differ.
use Rattle.std.proofs.Common.{◌≡◌, ◌≢◌, ℕ, ◌+◌, ◌<◌, ◌≤◌, ◌⊎◌, List, length, take, get_or, nat_eq, true, false, inl, inr, subst, sym, ◌∙◌, arith}
use Rattle.std.proofs.lemmas.Bool.{cases_lt}
use Rattle.std.proofs.lemmas.List.{get_or-take, get_or_default, length-take-le}
use Rattle.std.specs.Char.{IsAsciiAlphabetic, IsNotAsciiAlphabetic}
use Rattle.std.specs.List.{HoldsAt}
use Rattle.sparse_poly.specs.Letters.{AreLetters}

-- the first i are letters, and different
pub record LettersTo (l : List ℕ) (i : ℕ) : Type 0 where
  pub letters : (k : ℕ) → k < i → IsAsciiAlphabetic (get_or l k 0)
  pub different : (j k : ℕ) → j < k → k < i → get_or l j 0 ≢ get_or l k 0

-- numbers that the test finds equal are equal
eq_of_nat_eq : (a b : ℕ) → nat_eq a b ≡ true → a ≡ b
eq_of_nat_eq a b h = grind arith

-- and equal numbers pass the test
nat_eq_of_eq : (a b : ℕ) → a ≡ b → nat_eq a b ≡ true
nat_eq_of_eq a b h = grind arith

-- one more
pub letters_more : (l : List ℕ) (i : ℕ) → LettersTo l i → i < length l → IsAsciiAlphabetic (get_or l i 0) →
    ((k d : ℕ) → 0 ≤ k → k < length (take i l) → nat_eq (get_or (take i l) k d) (get_or l i 0) ≡ false) → LettersTo l (i + 1)
letters_more l i h within letter none = record { letters = λ k b. first k b (cases_lt k i); different = λ j k a b. differ j k a b (cases_lt k i) }
  where
    first : (k : ℕ) → k < i + 1 → (k < i) ⊎ (i ≤ k) → IsAsciiAlphabetic (get_or l k 0)
    first k b (inl s) = h.letters k s
    first k b (inr s) = subst (λ x. IsAsciiAlphabetic (get_or l x 0)) (let e : i ≡ k = omega arith in e) letter

    new : (j : ℕ) → j < i → get_or l j 0 ≢ get_or l i 0
    new j a e =
        let is : nat_eq (get_or (take i l) j 0) (get_or l i 0) ≡ true = nat_eq_of_eq _ _ (get_or-take i l j 0 a ∙ e) in
        let not : nat_eq (get_or (take i l) j 0) (get_or l i 0) ≡ false = none j 0 (omega arith) (omega (arith, length-take-le i l (omega arith))) in
        cc

    differ : (j k : ℕ) → j < k → k < i + 1 → (k < i) ⊎ (i ≤ k) → get_or l j 0 ≢ get_or l k 0
    differ j k a b (inl s) = h.different j k a s
    differ j k a b (inr s) = subst (λ x. get_or l j 0 ≢ get_or l x 0) (let e : i ≡ k = omega arith in e) (new j (omega arith))

-- all
pub letters_all : (l : List ℕ) (i : ℕ) → LettersTo l i → length l ≤ i → 1 ≤ length l → length l ≤ 8 → AreLetters l
letters_all l i h past some few = record {
  some = some;
  few = few;
  letters = λ k d a. subst IsAsciiAlphabetic (get_or_default l k 0 d a) (h.letters k (omega arith));
  different = λ j k d a b e. h.different j k a (omega arith) (get_or_default l j 0 d (omega arith) ∙ e ∙ get_or_default l k d 0 b);
}

-- one that is no letter
pub no_letter : (l : List ℕ) (i : ℕ) → i < length l → IsNotAsciiAlphabetic (get_or l i 0) → AreLetters l → ⊥
no_letter l i within other are = go (are.letters i 0 within)
  where
    go : IsAsciiAlphabetic (get_or l i 0) → ⊥
    go (inl a) = omega (arith, other.0)
    go (inr a) = omega (arith, other.1)

-- one that stood before
pub no_new_letter : (l : List ℕ) (i k : ℕ) → i < length l → k < length (take i l) → HoldsAt (λ y. nat_eq y (get_or l i 0) ≡ true) (take i l) k → AreLetters l → ⊥
no_new_letter l i k within before same are =
    let low : k < i = omega (arith, length-take-le i l (omega arith)) in
    are.different k i 0 low within (sym (get_or-take i l k 0 low) ∙ eq_of_nat_eq _ _ (same 0))

-- a list that is not empty has a letter
pub some_letter : (l : List ℕ) → false ≡ (nat_eq (length l) 0) → 1 ≤ length l
some_letter l h = grind arith
