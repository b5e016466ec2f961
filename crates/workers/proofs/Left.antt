-- A round in which some worker claimed a ticket leaves fewer tickets to take.
-- By induction on the workers: none takes more than it may, and one takes some.
use Rattle.std.proofs.Common.{◌≡◌, ℕ, zero, suc, ◌+◌, ◌<◌, ◌≤◌, false, List, [], ◌∷◌, length, get_or, map, refl, ap, ◌∙◌, arith}
use Rattle.std.proofs.lemmas.List.Sums.{sum_by-append}
use Rattle.reducer_list.specs.View.{Setting, Board}
use Rattle.workers.specs.Working.{Working, numbers_of}
use Rattle.workers.specs.Rounds.{HasTakenTurns, left_of, left_to}

-- each worker has taken its turns
abbrev pub EachHas : Board → List Working → List Working → Type 0
EachHas b xs ys = (i : ℕ) (d : Working) → i < length xs → HasTakenTurns b (get_or xs i d) (get_or ys i d)

-- a worker more
left_cons : (p : Setting) (w : Working) (ws : List Working) → left_to p (w ∷ ws) ≡ left_of p w + left_to p ws
left_cons p w ws = sum_by-append (left_of p) (w ∷ []) ws ∙ (let z : left_to p (w ∷ []) ≡ left_of p w = omega arith in ap (λ (n : ℕ). n + left_to p ws) z)

-- no more is left than before
no_more_left : (b : Board) (xs ys : List Working) → length ys ≡ length xs → EachHas b xs ys → left_to b.setting ys ≤ left_to b.setting xs
no_more_left b [] [] len each = omega arith
no_more_left b [] (y ∷ ys) len each = absurd (omega arith)
no_more_left b (x ∷ xs) [] len each = absurd (omega arith)
no_more_left b (x ∷ xs) (y ∷ ys) len each =
    let h = (each 0 x (omega arith)).more in
    let r = no_more_left b xs ys (omega arith) (λ i d less. each (suc i) d (omega arith)) in
    let a = left_cons b.setting x xs in let c = left_cons b.setting y ys in
    let h' : left_of b.setting y ≤ left_of b.setting x = omega arith in
    omega arith

-- and less, where one claimed a ticket
pub less_left : (b : Board) (xs ys : List Working) (k : ℕ) (d : Working) → length ys ≡ length xs → EachHas b xs ys → k < length ys → (get_or ys k d).rests ≡ false →
    left_to b.setting ys < left_to b.setting xs
less_left b xs [] k d len each less busy = absurd (omega arith)
less_left b [] (y ∷ ys) k d len each less busy = absurd (omega arith)
less_left b (x ∷ xs) (y ∷ ys) zero d len each less busy =
    let h = (each 0 d (omega arith)).busy busy in
    let h0 = h.0 in let h1 = h.1 in
    let r = no_more_left b xs ys (omega arith) (λ i e below. each (suc i) e (omega arith)) in
    let a = left_cons b.setting x xs in let c = left_cons b.setting y ys in
    let h' : left_of b.setting y < left_of b.setting x = omega arith in
    omega arith
less_left b (x ∷ xs) (y ∷ ys) (suc k) d len each less busy =
    let h = (each 0 x (omega arith)).more in
    let r = less_left b xs ys k d (omega arith) (λ i e below. each (suc i) e (omega arith)) (omega arith) busy in
    let a = left_cons b.setting x xs in let c = left_cons b.setting y ys in
    let h' : left_of b.setting y ≤ left_of b.setting x = omega arith in
    omega arith

-- a round changes no numbers
pub same_numbers : (b : Board) (xs ys : List Working) → length ys ≡ length xs → EachHas b xs ys → map numbers_of ys ≡ map numbers_of xs
same_numbers b [] [] len each = refl
same_numbers b [] (y ∷ ys) len each = absurd (omega arith)
same_numbers b (x ∷ xs) [] len each = absurd (omega arith)
same_numbers b (x ∷ xs) (y ∷ ys) len each = λ t. (each 0 x (omega arith)).numbers t ∷ same_numbers b xs ys (omega arith) (λ i d less. each (suc i) d (omega arith)) t
