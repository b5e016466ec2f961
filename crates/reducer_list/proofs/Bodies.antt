-- Words that lie in the bodies of chunks, and lists of chunks.
-- By the place of a word; two bodies have no place in common.
use Rattle.std.proofs.Common.{◌≡◌, ◌≢◌, ◌⊎◌, ℕ, zero, suc, ◌+◌, ◌*◌, ◌<◌, ◌≤◌, List, [], ◌∷◌, ◌++◌, length, take, get_or, set, cond, eqb, refl, sym, ap, ◌∙◌, subst, inl, inr, arith, eq-eqb, ne_eqb, mul-le-mul_right, suc-mul, get_or-set_other, get_or-set_same, length-append}
use Rattle.std.specs.Prelude.{max}
use Rattle.std.proofs.lemmas.List.Sums.{sum_by-append}
use Rattle.std.proofs.lemmas.List.{take-take}
use mathlib.Core.Logic.{dite}
use native.Mathlib.Decide.{ℕ_discrete, dec_le}
use Rattle.run_core.specs.State.{times, highest}
use Rattle.run_core.proofs.Numbers.{has_first, times_first}
use Rattle.reducer_list.specs.View.{Setting, top}
use Rattle.reducer_list.specs.Rule.{body, Lies}
use Rattle.reducer_list.specs.Steps.{all_but_last, last_only}

-- a place in a row is before each place in a later row
rows_apart : (n c d k l : ℕ) → c < d → k < n → c * n + k < d * n + l
rows_apart n c d k l less small = let a : suc c * n ≤ d * n = mul-le-mul_right n less in omega (arith, suc-mul c n)

-- two bodies have no place in common
pub bodies_apart : (p : Setting) (c d k l : ℕ) → c ≢ d → k < top p + 8 → l < top p + 8 → body p c + k ≢ body p d + l
bodies_apart p c d k l ne sk sl e = dite (dec_le c d)
    (λ le. let less : c < d = omega arith in let r = rows_apart (top p + 8) c d k l less sk in let x : ℕ = c * (top p + 8) in let y : ℕ = d * (top p + 8) in let r' : x + k < y + l = r in let e' : top p + 3 + x + k ≡ top p + 3 + y + l = e in omega arith)
    (λ gt. let less : d < c = omega arith in let r = rows_apart (top p + 8) d c l k less sl in let x : ℕ = c * (top p + 8) in let y : ℕ = d * (top p + 8) in let r' : y + l < x + k = r in let e' : top p + 3 + x + k ≡ top p + 3 + y + l = e in omega arith)

-- what lies at a place stays where a word elsewhere changes
pub lies_set : (words : List ℕ) (at : ℕ) (xs : List ℕ) (j x : ℕ) → ((k : ℕ) → k < length xs → at + k ≢ j) → Lies words at xs → Lies (set words j x) at xs
lies_set words at xs j x away lies k less = get_or-set_other words j (at + k) x 0 (away k less) ∙ lies k less

-- what lies in a body stays where a word of another body changes
pub lies_elsewhere : (p : Setting) (words : List ℕ) (c d k x : ℕ) (xs : List ℕ) → c ≢ d → k < top p + 8 → length xs ≤ top p + 8 → Lies words (body p d) xs → Lies (set words (body p c + k) x) (body p d) xs
lies_elsewhere p words c d k x xs ne small short = lies_set words (body p d) xs (body p c + k) x (λ l less e. bodies_apart p d c l k (λ s. ne (sym s)) (omega arith) small e)

-- a word of the first k is that of the list
pub get_take : (xs : List ℕ) (k j : ℕ) → j < k → get_or (take k xs) j 0 ≡ get_or xs j 0
get_take [] zero j h = absurd (omega arith)
get_take [] (suc k) j h = refl
get_take (x ∷ xs) zero j h = absurd (omega arith)
get_take (x ∷ xs) (suc k) zero h = refl
get_take (x ∷ xs) (suc k) (suc j) h = get_take xs k j (omega arith)

-- a word of the first of two lists is that of both in one
pub get_front : (xs ys : List ℕ) (j : ℕ) → j < length xs → get_or (xs ++ ys) j 0 ≡ get_or xs j 0
get_front [] ys j h = absurd (omega arith)
get_front (x ∷ xs) ys zero h = refl
get_front (x ∷ xs) ys (suc j) h = get_front xs ys j (omega arith)

-- the last word of a list with one more
pub get_last : (xs : List ℕ) (x : ℕ) → get_or (xs ++ x ∷ []) (length xs) 0 ≡ x
get_last [] x = refl
get_last (y ∷ ys) x = get_last ys x

-- there are k among the first k
pub length_take : (xs : List ℕ) (k : ℕ) → k ≤ length xs → length (take k xs) ≡ k
length_take xs zero h = refl
length_take [] (suc k) h = absurd (omega arith)
length_take (x ∷ xs) (suc k) h = ap suc (length_take xs k (omega arith))

-- one word more lies there
pub lies_more : (words : List ℕ) (at k x : ℕ) (xs : List ℕ) → k ≤ length xs → at + k < length words → Lies words at xs → Lies (set words (at + k) x) at (take k xs ++ x ∷ [])
lies_more words at k x xs le room lies j less =
    let len : length (take k xs) ≡ k = length_take xs k le in
    let total : length (take k xs ++ x ∷ []) ≡ suc k = omega (arith, length-append (take k xs) (x ∷ [])) in
    dite (ℕ_discrete j k)
    (λ last. subst (λ (i : ℕ). get_or (set words (at + k) x) (at + i) 0 ≡ get_or (take k xs ++ x ∷ []) i 0) (sym last)
    (get_or-set_same words (at + k) x 0 room ∙ sym (get_last (take k xs) x) ∙ ap (λ (i : ℕ). get_or (take k xs ++ x ∷ []) i 0) len))
    (λ front. let small : j < k = omega arith in get_or-set_other words (at + k) (at + j) x 0 (λ e. front (omega arith)) ∙ lies j (omega arith) ∙ sym (get_take xs k j small) ∙ sym (get_front (take k xs) (x ∷ []) j (omega arith)))

-- a number is at least as often in a list with one more
times_later : (n x : ℕ) (xs : List ℕ) → times n xs ≤ times n (x ∷ xs)
times_later n x xs =
    let cut : times n (x ∷ xs) ≡ times n (x ∷ []) + times n xs = sum_by-append (λ (y : ℕ). cond (eqb n y) 1 0) (x ∷ []) xs in
    omega arith

-- a number that stands in a list is in it once at least
pub times_here : (xs : List ℕ) (i : ℕ) → i < length xs → 1 ≤ times (get_or xs i 0) xs
times_here [] i h = absurd (omega arith)
times_here (x ∷ xs) zero h = has_first x xs
times_here (x ∷ xs) (suc i) h = let r = times_here xs i (omega arith) in let l = times_later (get_or xs i 0) x xs in let n : ℕ = get_or xs i 0 in let r' : 1 ≤ times n xs = r in let l' : times n xs ≤ times n (x ∷ xs) = l in let g : 1 ≤ times n (x ∷ xs) = omega arith in g

-- a word of a body is among the words of the table
pub inside : (p : Setting) (c k : ℕ) → c < top p + p.workers → k < top p + 8 → body p c + k < top p + 3 + (top p + p.workers) * (top p + 8)
inside p c k less small = let r = rows_apart (top p + 8) c (top p + p.workers) k 0 less small in let x : ℕ = c * (top p + 8) in let y : ℕ = (top p + p.workers) * (top p + 8) in let r' : x + k < y + 0 = r in let g : top p + 3 + x + k < top p + 3 + y = omega arith in g

-- a word below the bodies changes
pub lies_low : (p : Setting) (words : List ℕ) (j x d : ℕ) (xs : List ℕ) → j < top p + 3 → Lies words (body p d) xs → Lies (set words j x) (body p d) xs
lies_low p words j x d xs low = lies_set words (body p d) xs j x (λ k less e. let y : ℕ = d * (top p + 8) in let e' : top p + 3 + y + k ≡ j = e in omega arith)

module _ {A : Type 0} where
  -- the first of two lists in one are the first of the first list
  pub take_front : (xs ys : List A) (k : ℕ) → k ≤ length xs → take k (xs ++ ys) ≡ take k xs
  take_front xs ys zero h = refl
  take_front [] ys (suc k) h = absurd (omega arith)
  take_front (x ∷ xs) ys (suc k) h = ap (λ (l : List A). x ∷ l) (take_front xs ys k (omega arith))

  -- the first of as many as there are is the whole list
  pub take_all : (xs : List A) (k : ℕ) → k ≡ length xs → take k xs ≡ xs
  take_all [] zero e = refl
  take_all [] (suc k) e = absurd (omega arith)
  take_all (x ∷ xs) zero e = absurd (omega arith)
  take_all (x ∷ xs) (suc k) e = ap (λ (l : List A). x ∷ l) (take_all xs k (omega arith))

-- how often a number is in a list with one more at its end
pub times_snoc : (n c : ℕ) (xs : List ℕ) → times n (xs ++ c ∷ []) ≡ times n xs + times n (c ∷ [])
times_snoc n c xs = sum_by-append (λ (y : ℕ). cond (eqb n y) 1 0) xs (c ∷ [])

-- a number is once in a list of itself, and never in a list of another
pub times_one : (n c : ℕ) → ((n ≡ c) × (times n (c ∷ []) ≡ 1)) ⊎ ((n ≢ c) × (times n (c ∷ []) ≡ 0))
times_one n c = dite (ℕ_discrete n c) (λ e. inl (e, ap (λ b. 0 + cond b 1 0) (eq-eqb n c e))) (λ ne. inr (ne, ap (λ b. 0 + cond b 1 0) (ne_eqb n c ne)))

-- what lies at one place is one list as far as both go
pub lies_agree : (words : List ℕ) (at : ℕ) (xs ys : List ℕ) (k : ℕ) → Lies words at xs → Lies words at ys → k < length xs → k < length ys → get_or xs k 0 ≡ get_or ys k 0
lies_agree words at xs ys k l m a b = sym (l k a) ∙ m k b

-- two lists of the same words are one
pub same_lists : (xs ys : List ℕ) → length xs ≡ length ys → ((k : ℕ) → k < length xs → get_or xs k 0 ≡ get_or ys k 0) → xs ≡ ys
same_lists [] [] e all = refl
same_lists [] (y ∷ ys) e all = absurd (omega arith)
same_lists (x ∷ xs) [] e all = absurd (omega arith)
same_lists (x ∷ xs) (y ∷ ys) e all = λ i. all 0 (omega arith) i ∷ same_lists xs ys (omega arith) (λ k less. all (suc k) (omega arith)) i

-- the next word after those that lie there
pub lies_next : (words : List ℕ) (at x : ℕ) (xs : List ℕ) → get_or words (at + length xs) 0 ≡ x → Lies words at xs → Lies words at (xs ++ x ∷ [])
lies_next words at x xs here lies k less =
    let total : length (xs ++ x ∷ []) ≡ suc (length xs) = omega (arith, length-append xs (x ∷ [])) in
    dite (ℕ_discrete k (length xs))
    (λ last. subst (λ (i : ℕ). get_or words (at + i) 0 ≡ get_or (xs ++ x ∷ []) i 0) (sym last) (here ∙ sym (get_last xs x)))
    (λ front. lies k (omega arith) ∙ sym (get_front xs (x ∷ []) k (omega arith)))

module _ {A : Type 0} where
  -- the first words up to the one that was set end with it
  pub take_set : (l : List A) (k n : ℕ) (x : A) → k < length l → n ≡ suc k → take n (set l k x) ≡ take k l ++ x ∷ []
  take_set l k n x less is = ap (λ (m : ℕ). take m (set l k x)) is ∙ by_place l k x less
    where
      by_place : (l : List A) (k : ℕ) (x : A) → k < length l → take (suc k) (set l k x) ≡ take k l ++ x ∷ []
      by_place [] k x less = absurd (omega arith)
      by_place (y ∷ ys) zero x less = refl
      by_place (y ∷ ys) (suc k) x less = ap (λ (m : List A). y ∷ m) (by_place ys k x (omega arith))

-- no half of a list has a greater number than the list
pub highest_cut : (cs : List ℕ) → (highest (all_but_last cs) ≤ highest cs) × (highest (last_only cs) ≤ highest cs)
highest_cut [] = (omega arith, omega arith)
highest_cut (c ∷ []) = (omega arith, omega arith)
highest_cut (c ∷ d ∷ cs) = let r = highest_cut (d ∷ cs) in let a = r.0 in let b = r.1 in (omega arith, omega arith)

-- two lists in one have no number greater than both
pub highest_append : (xs ys : List ℕ) → highest (xs ++ ys) ≤ max (highest xs) (highest ys)
highest_append [] ys = omega arith
highest_append (x ∷ xs) ys = let r = highest_append xs ys in omega arith

-- two halves have the chunks of one
pub times_cut : (x : ℕ) (cs : List ℕ) → times x (all_but_last cs) + times x (last_only cs) ≡ times x cs
times_cut x [] = refl
times_cut x (c ∷ []) = omega arith
times_cut x (c ∷ d ∷ cs) = omega (arith, times_cut x (d ∷ cs), times_first x c (d ∷ cs), times_first x c (all_but_last (d ∷ cs)))

-- one word more of a list
pub take_more : (ws : List ℕ) (k : ℕ) → k < length ws → take k ws ++ get_or ws k 0 ∷ [] ≡ take (k + 1) ws
take_more ws k less = go ws k less ∙ ap (λ (n : ℕ). take n ws) (let z : suc k ≡ k + 1 = omega arith in z)
  where
    go : (ws : List ℕ) (k : ℕ) → k < length ws → take k ws ++ get_or ws k 0 ∷ [] ≡ take (suc k) ws
    go [] k less = absurd (omega arith)
    go (w ∷ ws) zero less = refl
    go (w ∷ ws) (suc k) less = ap (λ (l : List ℕ). w ∷ l) (go ws k (omega arith))

-- the first words of what has as many
pub take_again : (k : ℕ) (d ws : List ℕ) → (0 < k → d ≡ take k ws) → take k d ≡ take k ws
take_again zero d ws h = refl
take_again (suc k) d ws h = ap (take (suc k)) (h (omega arith)) ∙ take-take (suc k) (suc k) ws (omega arith)
