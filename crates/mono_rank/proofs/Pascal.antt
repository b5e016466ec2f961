-- Numbers of monomials below a degree: Pascal's rule, and that they grow with the degree.
-- One more variable is absent from a monomial, or divides it and leaves a lesser degree.
use Rattle.std.proofs.Common.{◌≡◌, ℕ, zero, suc, ◌+◌, ◌*◌, ◌/◌, ◌<◌, ◌≤◌, refl, ap, ◌∙◌, arith, add-one}
use Rattle.local_order.specs.Count.{monomial_count}
use Rattle.local_order.proofs.Count.{monomial_count-zero}
pub use Rattle.local_order.proofs.Count.{count_some, count_in_degree, count_in_variables, count_low}
use Rattle.mono_rank.specs.Rank.{fewer}

-- one more variable is absent, or divides and leaves a lesser degree
pub pascal : (i p : ℕ) → monomial_count (suc i) p ≡ monomial_count i p + fewer (suc i) p
pascal i zero = omega (arith, monomial_count-zero i)
pascal i (suc p) = refl

-- fewer have a degree below one that is less
pub fewer_in_degree : (n p q : ℕ) → p ≤ q → fewer n p ≤ fewer n q
fewer_in_degree n zero q l = omega arith
fewer_in_degree n (suc p) zero l = absurd (omega arith)
fewer_in_degree n (suc p) (suc q) l = count_in_degree n p q (omega arith)

-- below a degree as well
pub fewer_low : (n p : ℕ) → n ≤ 8 → p ≤ 256 → fewer n p ≤ 509850594887712
fewer_low n zero few low = omega arith
fewer_low n (suc p) few low = count_low n p few (omega arith)
