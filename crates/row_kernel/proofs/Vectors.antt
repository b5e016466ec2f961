-- Vectors lane by lane.
-- Each operation on vectors is the operation on the numbers at each index below 8.
use Rattle.std.proofs.Common.{◌≡◌, ℕ, ◌+◌, ◌-◌, ◌*◌, ◌/◌, ◌%◌, ◌^◌, ◌<◌, List, map, length, get_or, replicate, cond, ltb, false, ap, sym, ◌∙◌, subst, arith, w32, Fits}
use Rattle.std.proofs.lemmas.Simd.{tops_compared, length-zip2, length-sel_l, get_or-sel_l, get_or-zip2, get_or-replicate, length-replicate, Each1-get_or, Each1-from_get_or}
use Rattle.std.proofs.Math.Nat.{mod-eq_of_lt}
use Rattle.std.proofs.lemmas.List.{length-map, get_or-map}
use lib.Lanes.{zip2, sel_l, top, Each1}
use Rattle.row_kernel.proofs.Reduction.{wrapped_less, lesser_is_residue, rest, rest_small, rest_same}

-- the least of each lane and of its wrapped difference with p, as vectors give it
abbrev pub lesser : ℕ → List ℕ → List ℕ
lesser p xs = let ys = zip2 wrapped_less xs (replicate 8 p) in sel_l (map (top 31) (zip2 (λ a b. cond (ltb a b) (2 ^ 32 - 1) 0) xs ys)) xs ys

-- a vector and a splat give as many lanes
pub splat_full : (f : ℕ → ℕ → ℕ) (xs : List ℕ) (y : ℕ) → length xs ≡ 8 → length (zip2 f xs (replicate 8 y)) ≡ 8
splat_full f xs y h = length-zip2 f xs (replicate 8 y) (h ∙ sym (length-replicate 8 y)) ∙ h

-- each lane of a vector and a splat
pub splat_at : (f : ℕ → ℕ → ℕ) (xs : List ℕ) (y j : ℕ) → length xs ≡ 8 → j < 8 → get_or (zip2 f xs (replicate 8 y)) j 0 ≡ f (get_or xs j 0) y
splat_at f xs y j h l = get_or-zip2 f xs (replicate 8 y) j 0 0 0 (omega (arith, h)) (omega (arith, length-replicate 8 y)) ∙ ap (f (get_or xs j 0)) (get_or-replicate 8 j y 0 l)

-- the lesser has as many lanes
pub lesser_full : (p : ℕ) (xs : List ℕ) → length xs ≡ 8 → length (lesser p xs) ≡ 8
lesser_full p xs h =
    let ys = zip2 wrapped_less xs (replicate 8 p) in
    let full : length ys ≡ 8 = splat_full wrapped_less xs p h in
    let tests : length (zip2 ltb xs ys) ≡ 8 = length-zip2 ltb xs ys (h ∙ sym full) ∙ h in
    ap (λ ms. length (sel_l ms xs ys)) (tops_compared w32 ltb xs ys) ∙ length-sel_l (zip2 ltb xs ys) xs ys (tests ∙ sym h) (tests ∙ sym full) ∙ tests

-- each lane of the lesser is the residue of a number below twice p
pub lesser_at : (p : ℕ) (xs : List ℕ) (j : ℕ) → p < 2 ^ 31 → length xs ≡ 8 → j < 8 → get_or xs j 0 < 2 * p → get_or (lesser p xs) j 0 ≡ get_or xs j 0 % p
lesser_at p xs j prime h l small =
    let ys = zip2 wrapped_less xs (replicate 8 p) in
    let x = get_or xs j 0 in
    let full : length ys ≡ 8 = splat_full wrapped_less xs p h in
    let tests : length (zip2 ltb xs ys) ≡ 8 = length-zip2 ltb xs ys (h ∙ sym full) ∙ h in
    let at : get_or ys j 0 ≡ wrapped_less x p = splat_at wrapped_less xs p j h l in
    ap (λ ms. get_or (sel_l ms xs ys) j 0) (tops_compared w32 ltb xs ys)
    ∙ get_or-sel_l (zip2 ltb xs ys) xs ys j 0 (omega (arith, tests)) (omega (arith, h)) (omega (arith, full))
    ∙ ap (λ t. cond t x (get_or ys j 0)) (get_or-zip2 ltb xs ys j 0 0 false (omega (arith, h)) (omega (arith, full)))
    ∙ ap (λ y. cond (ltb x y) x y) at
    ∙ lesser_is_residue p x prime small

-- ---- the products of a factor f, with its quotient q, and the lanes ys
-- the product on 64 bits of each lane and one number
abbrev pub products : List ℕ → ℕ → List ℕ
products xs y = zip2 (λ a b. a * b % 2 ^ 64) xs (replicate 8 y)

-- the quotients
abbrev pub guesses : ℕ → List ℕ → List ℕ
guesses q xs = zip2 (λ a b. a / 2 ^ b) (products xs q) (replicate 8 32)

-- what is left of the products, as vectors give it
abbrev pub rests : ℕ → ℕ → ℕ → List ℕ → List ℕ
rests p f q ys = let xs = map (λ y. y) ys in zip2 (λ a b. (a + (2 ^ 64 - b)) % 2 ^ 64) (products xs f) (products (guesses q xs) p)

-- what is left has as many lanes
pub rests_full : (p f q : ℕ) (ys : List ℕ) → length ys ≡ 8 → length (rests p f q ys) ≡ 8
rests_full p f q ys h =
    let xs = map (λ y. y) ys in
    let full : length xs ≡ 8 = length-map ys (λ y. y) ∙ h in
    let left : length (products xs f) ≡ 8 = splat_full (λ a b. a * b % 2 ^ 64) xs f full in
    let inner : length (guesses q xs) ≡ 8 = splat_full (λ a b. a / 2 ^ b) (products xs q) 32 (splat_full (λ a b. a * b % 2 ^ 64) xs q full) in
    let right : length (products (guesses q xs) p) ≡ 8 = splat_full (λ a b. a * b % 2 ^ 64) (guesses q xs) p inner in
    length-zip2 (λ a b. (a + (2 ^ 64 - b)) % 2 ^ 64) (products xs f) (products (guesses q xs) p) (left ∙ sym right) ∙ left

-- each lane of what is left
pub rests_at : (p f q : ℕ) (ys : List ℕ) (j : ℕ) → length ys ≡ 8 → j < 8 → get_or (rests p f q ys) j 0 ≡ rest p f q (get_or ys j 0)
rests_at p f q ys j h l =
    let xs = map (λ y. y) ys in
    let full : length xs ≡ 8 = length-map ys (λ y. y) ∙ h in
    let left : length (products xs f) ≡ 8 = splat_full (λ a b. a * b % 2 ^ 64) xs f full in
    let high : length (products xs q) ≡ 8 = splat_full (λ a b. a * b % 2 ^ 64) xs q full in
    let inner : length (guesses q xs) ≡ 8 = splat_full (λ a b. a / 2 ^ b) (products xs q) 32 high in
    let right : length (products (guesses q xs) p) ≡ 8 = splat_full (λ a b. a * b % 2 ^ 64) (guesses q xs) p inner in
    let same : get_or xs j 0 ≡ get_or ys j 0 = get_or-map (λ y. y) ys j 0 0 (omega (arith, h)) in
    get_or-zip2 (λ a b. (a + (2 ^ 64 - b)) % 2 ^ 64) (products xs f) (products (guesses q xs) p) j 0 0 0 (omega (arith, left)) (omega (arith, right))
    ∙ ap (λ a. (a + (2 ^ 64 - get_or (products (guesses q xs) p) j 0)) % 2 ^ 64) (splat_at (λ a b. a * b % 2 ^ 64) xs f j full l)
    ∙ ap (λ b. (get_or xs j 0 * f % 2 ^ 64 + (2 ^ 64 - b)) % 2 ^ 64)
    (splat_at (λ a b. a * b % 2 ^ 64) (guesses q xs) p j inner l
    ∙ ap (λ a. a * p % 2 ^ 64) (splat_at (λ a b. a / 2 ^ b) (products xs q) 32 j high l ∙ ap (λ a. a / 2 ^ 32) (splat_at (λ a b. a * b % 2 ^ 64) xs q j full l)))
    ∙ ap (rest p f q) same

-- each lane of what is left is below twice p
pub rests_small : (p f q : ℕ) (ys : List ℕ) → p < 2 ^ 31 → f < p → q ≡ f * 2 ^ 32 / p → length ys ≡ 8 → Each1 (Fits w32) ys → (j : ℕ) → j < 8 → get_or (rests p f q ys) j 0 < 2 * p
rests_small p f q ys prime factor e h fits j l =
    subst (λ x. x < 2 * p) (sym (rests_at p f q ys j h l)) (rest_small p f q (get_or ys j 0) prime factor (Each1-get_or (Fits w32) ys j 0 (omega (arith, h)) fits).fits e)

-- so it fits in 32 bits
pub rests_fit : (p f q : ℕ) (ys : List ℕ) → p < 2 ^ 31 → f < p → q ≡ f * 2 ^ 32 / p → length ys ≡ 8 → Each1 (Fits w32) ys → Each1 (Fits w32) (rests p f q ys)
rests_fit p f q ys prime factor e h fits =
    Each1-from_get_or (Fits w32) (rests p f q ys) 0
    (λ j l. record { fits = omega (arith, rests_small p f q ys prime factor e h fits j (omega (arith, rests_full p f q ys h))) })

-- and has the residue of the product
pub rests_same : (p f q : ℕ) (ys : List ℕ) → p < 2 ^ 31 → f < p → q ≡ f * 2 ^ 32 / p → length ys ≡ 8 → Each1 (Fits w32) ys → (j : ℕ) → j < 8 → get_or (rests p f q ys) j 0 % p ≡ (f * get_or ys j 0) % p
rests_same p f q ys prime factor e h fits j l =
    ap (λ x. x % p) (rests_at p f q ys j h l) ∙ rest_same p f q (get_or ys j 0) prime factor (Each1-get_or (Fits w32) ys j 0 (omega (arith, h)) fits).fits e

-- ---- sums of pairs of lanes
-- the sums on 32 bits
abbrev pub wrapped_sums : List ℕ → List ℕ → List ℕ
wrapped_sums xs ys = zip2 (λ a b. (a + b) % 2 ^ 32) xs ys

-- there are as many
pub sums_full : (xs ys : List ℕ) → length xs ≡ 8 → length ys ≡ 8 → length (wrapped_sums xs ys) ≡ 8
sums_full xs ys h k = length-zip2 (λ a b. (a + b) % 2 ^ 32) xs ys (h ∙ sym k) ∙ h

-- sums of residues don't wrap
pub sums_at : (p : ℕ) (xs ys : List ℕ) (j : ℕ) → p < 2 ^ 31 → length xs ≡ 8 → length ys ≡ 8 → j < 8 → get_or xs j 0 < p → get_or ys j 0 < p → get_or (wrapped_sums xs ys) j 0 ≡ get_or xs j 0 + get_or ys j 0
sums_at p xs ys j prime h k l a b =
    get_or-zip2 (λ a b. (a + b) % 2 ^ 32) xs ys j 0 0 0 (omega (arith, h)) (omega (arith, k)) ∙ mod-eq_of_lt (omega arith)
