-- How a monomial is stored: n exponents before zeros, and their sum.
use Rattle.std.proofs.Common.{◌≡◌, ℕ, ◌-◌, ◌<◌, ◌≤◌, List, ◌++◌, length, take, replicate, get_or, All, ap, sym, ◌∙◌, ⊎_elim, arith}
use Rattle.local_order.specs.Limits.{max_exponent, max_variables}
use Rattle.std.proofs.lemmas.Bool.{cases_lt}
use Rattle.std.proofs.lemmas.List.{length-take-le, length-append, length-replicate, get_or_append_left, get_or-append_right, get_or-take, get_or-replicate, get_or_past, ext_get_or}
use Rattle.local_order.specs.Mono.{degree}

-- one to eight exponents of at most 1,000, then zeros, and the sum of the exponents
pub record IsStored (exps : List ℕ) (n total : ℕ) : Type 0 where
  pub full : length exps ≡ 8
  pub some : 1 ≤ n
  pub few : n ≤ max_variables
  pub rest : (k : ℕ) → n ≤ k → get_or exps k 0 ≡ 0
  pub small : All (λ e. e ≤ max_exponent) exps
  pub total_is : degree (take n exps) ≡ total

-- the number of exponents in front
pub length_front : (exps : List ℕ) (n total : ℕ) → IsStored exps n total → length (take n exps) ≡ n
length_front exps n total s = length-take-le n exps (omega (arith, s.full, s.few))

-- a list of zeros has 0 at each place
pub zero_at : (m k : ℕ) → let z : ℕ = 0 in get_or (replicate m z) k z ≡ z
zero_at m k =
    let z : ℕ = 0 in
    ⊎_elim
    (λ (l : k < m). get_or-replicate m k z z l)
    (λ (l : m ≤ k). get_or_past (replicate m z) k z (omega (arith, length-replicate m z)))
    (cases_lt k m)

-- eight numbers of which all from a place on are 0 are those before it, filled with zeros
pub filled_with_zeros : (xs : List ℕ) (n : ℕ) → length xs ≡ 8 → n ≤ 8 → ((k : ℕ) → n ≤ k → get_or xs k 0 ≡ 0) →
    take n xs ++ replicate (8 - length (take n xs)) 0 ≡ xs
filled_with_zeros xs n full few rest =
    ap (λ k. take n xs ++ replicate (8 - k) 0) front
    ∙ ext_get_or 0 (take n xs ++ zeros) xs long each
  where
    zeros : List ℕ
    zeros = replicate (8 - n) 0

    front : length (take n xs) ≡ n
    front = length-take-le n xs (omega (arith, full, few))

    long : length (take n xs ++ zeros) ≡ length xs
    long = let z : ℕ = 0 in omega (arith, length-append (take n xs) zeros, front, length-replicate (8 - n) z, full, few)

    each : (k : ℕ) → k < length (take n xs ++ zeros) → get_or (take n xs ++ zeros) k 0 ≡ get_or xs k 0
    each k i =
        ⊎_elim
        (λ (l : k < n). get_or_append_left (take n xs) zeros 0 k (omega (arith, front)) ∙ get_or-take n xs k 0 l)
        (λ (l : n ≤ k). get_or-append_right (take n xs) zeros n k 0 front l ∙ zero_at (8 - n) (k - n) ∙ sym (rest k l))
        (cases_lt k n)

-- so the exponents of a monomial, filled with zeros, are what is stored
pub front_and_zeros : (exps : List ℕ) (n total : ℕ) → IsStored exps n total → take n exps ++ replicate (8 - length (take n exps)) 0 ≡ exps
front_and_zeros exps n total s = filled_with_zeros exps n s.full s.few s.rest
