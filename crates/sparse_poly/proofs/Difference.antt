-- The difference of two polynomials is 0 exactly where their coefficients are the same.
-- It lies in the ideal where both do, and with what was taken away it is what it was taken from.
use Rattle.std.proofs.Common.{◌≡◌, ℕ, ◌+◌, ◌-◌, ◌*◌, ◌%◌, ◌<◌, List, ◌++◌, refl, ap, sym, ◌∙◌, arith}
use Rattle.std.proofs.Math.Nat.{mul-mod_right, zero-mod}
use Rattle.prime_field.proofs.Residue.{add_same, cancel}
use Rattle.sparse_poly.specs.Poly.{Poly, total, coef, IsIn}
use Rattle.sparse_poly.specs.Ideal.{Problem, IsInIdeal}
use Rattle.sparse_poly.proofs.Closure.{IsInIdeal-scale}
use Rattle.sparse_poly.proofs.Coef.{total-append}
use Rattle.sparse_poly.proofs.Member.{Agree, in-append, IsInIdeal-add}
use Rattle.sparse_poly.proofs.Scaling.{in-scale}
use Rattle.sparse_poly.proofs.Span.{scale, total-scale}

-- f less g
abbrev pub difference : ℕ → Poly → Poly → Poly
difference p f g = f ++ scale (p - 1) g

-- it is in the same variables
pub in-difference : (p n : ℕ) (f g : Poly) → IsIn n f → IsIn n g → IsIn n (difference p f g)
in-difference p n f g i j = in-append n f (scale (p - 1) g) i (in-scale n (p - 1) g j)

-- what its terms add up to
total-difference : (p : ℕ) (f g : Poly) (m : List ℕ) → total (difference p f g) m ≡ total f m + (p - 1) * total g m
total-difference p f g m = total-append f (scale (p - 1) g) m ∙ ap (λ x. total f m + x) (total-scale (p - 1) g m)

-- a number less itself is 0
whole : (p x : ℕ) → 0 < p → (x + (p - 1) * x) % p ≡ 0
whole p x pos =
    ap (λ y. y % p) ((let q : x + (p - 1) * x ≡ (1 + (p - 1)) * x = omega arith in q) ∙ ap (λ k. k * x) (let q : 1 + (p - 1) ≡ p = omega arith in q))
    ∙ mul-mod_right p x

-- where the coefficients are the same, the difference is 0
pub coef-difference : (p : ℕ) (f g : Poly) (m : List ℕ) → 0 < p → coef p f m ≡ coef p g m → coef p (difference p f g) m ≡ 0
coef-difference p f g m pos e =
    ap (λ x. x % p) (total-difference p f g m)
    ∙ add_same p (total f m) (total g m) ((p - 1) * total g m) ((p - 1) * total g m) e refl
    ∙ whole p (total g m) pos

-- and where it is 0, they are the same
pub same_from_difference : (p : ℕ) (f g : Poly) (m : List ℕ) → 0 < p → coef p (difference p f g) m ≡ 0 → coef p f m ≡ coef p g m
same_from_difference p f g m pos z =
    cancel p (total f m) (total g m) ((p - 1) * total g m) pos (sym (ap (λ x. x % p) (total-difference p f g m)) ∙ z ∙ sym (whole p (total g m) pos))

-- the difference of members is a member
pub IsInIdeal-difference : (P : Problem) (f g : Poly) → IsInIdeal P f → IsInIdeal P g → IsInIdeal P (difference P.p f g)
IsInIdeal-difference P f g h k = IsInIdeal-add P f (scale (P.p - 1) g) h (IsInIdeal-scale P (P.p - 1) g k)

-- ---- back
-- the difference and what was taken away are what it was taken from
pub coef-difference_back : (p : ℕ) (f g : Poly) (m : List ℕ) → 0 < p → coef p (difference p f g ++ g) m ≡ coef p f m
coef-difference_back p f g m pos =
    let a : ℕ = total f m in
    let b : ℕ = total g m in
    ap (λ x. x % p)
    (total-append (difference p f g) g m ∙ ap (λ x. x + b) (total-difference p f g m)
    ∙ (let q : a + (p - 1) * b + b ≡ a + (b + (p - 1) * b) = omega arith in q))
    ∙ add_same p a a (b + (p - 1) * b) 0 refl (whole p b pos ∙ sym (zero-mod p))
    ∙ ap (λ x. x % p) (let q : a + 0 ≡ a = omega arith in q)

-- what is taken from a sum leaves the other part
pub difference-sum : (P : Problem) (f g h : Poly) → 0 < P.p → Agree P f (g ++ h) → Agree P (difference P.p f g) h
difference-sum P f g h pos e m l low =
    let a : ℕ = total g m in
    let b : ℕ = total h m in
    let c : ℕ = (P.p - 1) * total g m in
    ap (λ x. x % P.p) (total-difference P.p f g m)
    ∙ add_same P.p (total f m) (total (g ++ h) m) c c (e m l low) refl
    ∙ ap (λ x. x % P.p) (ap (λ x. x + c) (total-append g h m) ∙ (let q : (a + b) + c ≡ (a + c) + b = omega arith in q))
    ∙ add_same P.p (a + c) 0 b b (whole P.p a pos ∙ sym (zero-mod P.p)) refl
    ∙ ap (λ x. x % P.p) (let q : 0 + b ≡ b = omega arith in q)
