-- The number of monomials by products: Pascal's rule gives it as a quotient without a rest.
-- So it is computed in as many steps as there are variables; and as it grows with both, it fits 64 bits.
use Rattle.std.proofs.Common.{◌≡◌, ℕ, zero, suc, ◌+◌, ◌*◌, ◌/◌, ◌<◌, ◌≤◌, refl, ap, sym, ◌∙◌, arith, add-one}
use Rattle.std.proofs.Math.Nat.{mul-div_cancel, mul-le-mul}
use Rattle.local_order.specs.Count.{monomial_count, count_by_products}

-- of degree 0 there is 1 alone
pub monomial_count-zero : (n : ℕ) → monomial_count n 0 ≡ 1
monomial_count-zero zero = refl
monomial_count-zero (suc n) = refl

-- what Pascal's rule makes of two products by induction
pascal_step : (n d a b c e : ℕ) → a ≡ e + c → a * suc n ≡ e * (suc n + suc d) → b * suc (suc n) ≡ c * (suc (suc n) + d) → (a + b) * suc (suc n) ≡ a * (suc (suc n) + suc d)
pascal_step n d a b c e s p q =
    let r : c * n + c ≡ e * d + e = omega (arith, ap (λ x. x * suc n) s) in
    let t : a * d ≡ e * d + c * d = omega (arith, ap (λ x. x * d) s) in
    omega arith

-- one more variable multiplies by (n + 1 + d) / (n + 1)
pub monomial_count-product : (n d : ℕ) → monomial_count (suc n) d * suc n ≡ monomial_count n d * (suc n + d)
monomial_count-product n zero = omega (arith, ap (λ x. x * (suc n + 0)) (monomial_count-zero n))
monomial_count-product zero (suc d) = omega (arith, monomial_count-product zero d)
monomial_count-product (suc n) (suc d) =
    pascal_step n d (monomial_count (suc n) (suc d)) (monomial_count (suc (suc n)) d) (monomial_count (suc n) d) (monomial_count n (suc d)) refl
    (monomial_count-product n (suc d)) (monomial_count-product (suc n) d)

-- the quick computation gives the number of monomials
pub count_by_products-is : (n d : ℕ) → count_by_products n d ≡ monomial_count n d
count_by_products-is zero d = refl
count_by_products-is (suc n) d =
    ap (λ x. x * (suc n + d) / suc n) (count_by_products-is n d)
    ∙ ap (λ x. x / suc n) (sym (monomial_count-product n d))
    ∙ mul-div_cancel (monomial_count (suc n) d) (omega arith)

-- there are 509,850,594,887,712 monomials in eight variables up to degree 255
example : count_by_products 8 255 ≡ 509850594887712
example = refl

-- ---- how the numbers grow
-- there is some monomial
pub count_some : (n d : ℕ) → 0 < monomial_count n d
count_some zero d = omega arith
count_some (suc n) zero = omega arith
count_some (suc n) (suc d) = omega (arith, count_some n (suc d))

-- a greater degree makes no fewer
pub count_in_degree : (n p q : ℕ) → p ≤ q → monomial_count n p ≤ monomial_count n q
count_in_degree zero p q l = omega arith
count_in_degree (suc n) zero q l = count_some (suc n) q
count_in_degree (suc n) (suc p) zero l = absurd (omega arith)
count_in_degree (suc n) (suc p) (suc q) l = omega (arith, count_in_degree n (suc p) (suc q) l, count_in_degree (suc n) p q (omega arith))

-- more variables make no fewer
pub count_in_variables : (n m d : ℕ) → n ≤ m → monomial_count n d ≤ monomial_count m d
count_in_variables zero m d l = count_some m d
count_in_variables (suc n) zero d l = absurd (omega arith)
count_in_variables (suc n) (suc m) zero l = omega arith
count_in_variables (suc n) (suc m) (suc d) l = omega (arith, count_in_variables n m (suc d) (omega arith), count_in_variables (suc n) (suc m) d l)

-- at most as many as in 8 variables and of degree 255
pub count_low : (n d : ℕ) → n ≤ 8 → d ≤ 255 → monomial_count n d ≤ 509850594887712
count_low n d few low = go 8 255 few low
  where
    go : (m e : ℕ) → n ≤ m → d ≤ e → monomial_count n d ≤ count_by_products m e
    go m e l k = omega (arith, count_in_degree n d e k, count_in_variables n m e l, count_by_products-is m e)

-- ---- the loop over the factors
-- the next product fits
pub product_low : (n d k r : ℕ) → n ≤ 8 → d ≤ 255 → r ≡ d + n + 1 → k ≡ count_by_products n d → k * r ≤ 509850594887712 * 264
product_low n d k r few low above e =
    let l = count_low n d few low in
    mul-le-mul {n₁ = k} {m₁ = r} {n₂ = 509850594887712} {m₂ = 264} (omega (arith, e, l, count_by_products-is n d)) (omega arith)

-- one more factor
pub count_goes : (n d k r s : ℕ) → r ≡ d + n + 1 → s ≡ n + 1 → k ≡ count_by_products n d → k * r / s ≡ count_by_products (n + 1) d
count_goes n d k r s above below e =
    let up : r ≡ suc n + d = omega arith in
    let under : s ≡ suc n = omega arith in
    rw (e, up, under, add-one) refl

-- all factors
pub count_ends : (n m d k : ℕ) → m ≡ n → k ≡ count_by_products m d → k ≡ monomial_count n d
count_ends n m d k same e = e ∙ ap (λ i. count_by_products i d) same ∙ count_by_products-is n d
