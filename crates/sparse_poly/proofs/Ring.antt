-- Polynomials are a commutative ring: the laws of products and powers.
-- What the factors are is seen only up to equal coefficients, and up to a degree where the product is cut there.
use Rattle.std.proofs.Common.{◌≡◌, ℕ, zero, suc, ◌+◌, ◌-◌, ◌*◌, ◌%◌, ◌<◌, List, [], ◌∷◌, ◌++◌, take, drop, cond, refl, ap, sym, ◌∙◌, arith}
use Rattle.std.proofs.lemmas.List.{take-append-drop, append-nil, length-replicate}
use Rattle.std.proofs.Math.Nat.{zero-mod, mul-mod_right}
use Rattle.local_order.specs.Mono.{degree, mono_one, mono_times, same}
use Rattle.local_order.proofs.Order.{mono_times_comm}
use Rattle.local_order.proofs.Division.{one_times}
use Rattle.sparse_poly.specs.Poly.{Term, Poly, total, cut, term_times, times, one, power, IsIn, IsSame, IsCanonical}
use Rattle.sparse_poly.specs.Canonical.{canonical}
use Rattle.sparse_poly.specs.Ideal.{Problem, ring}
use Rattle.sparse_poly.proofs.Coef.{total-append, times-append, times-term_times, total-cut_in, term_cons}
use Rattle.sparse_poly.proofs.Member.{Agree, agree, agree-append, agree-term_times, in-times, in-take, in-drop, cut_same}
use Rattle.sparse_poly.proofs.Span.{total-scale}
use Rattle.sparse_poly.proofs.Canonical.{canonical-append, canonical_same, coef-canonical, IsCanonical-canonical}
use Rattle.sparse_poly.proofs.Unique.{in_of_canonical}
use Rattle.sparse_poly.proofs.Cuts.{cut-append, in-cut}

-- ---- products
-- a product with 0 is 0
pub times-nil : (q : Poly) → times q [] ≡ []
times-nil [] = refl
times-nil (t ∷ q) = times-nil q

-- the second factor may be taken apart too
total-times_cons : (q f : Poly) (t : Term) (m : List ℕ) → total (times q (t ∷ f)) m ≡ total (term_times t.coef t.mono q) m + total (times q f) m
total-times_cons [] f t m = omega arith
total-times_cons (s ∷ q) f t m =
    omega (
      arith,
      total-append (term_times s.coef s.mono f) (times q (t ∷ f)) m,
      total-append (term_times s.coef s.mono f) (times q f) m,
      total-times_cons q f t m,
      swapped,
    )
  where
    swapped : cond (same (mono_times s.mono t.mono) m) (s.coef * t.coef) 0 ≡ cond (same (mono_times t.mono s.mono) m) (t.coef * s.coef) 0
    swapped = ap (λ k. cond (same k m) (s.coef * t.coef) 0) (mono_times_comm s.mono t.mono) ∙ ap (λ c. cond (same (mono_times t.mono s.mono) m) c 0) (omega arith)

-- products commute
pub total-times_comm : (q f : Poly) (m : List ℕ) → total (times q f) m ≡ total (times f q) m
total-times_comm q [] m = ap (λ x. total x m) (times-nil q)
total-times_comm q (t ∷ f) m =
    omega (arith, total-times_cons q f t m, total-times_comm q f m, total-append (term_times t.coef t.mono q) (times f q) m)

-- products are associative
pub times-assoc : (q r f : Poly) → times (times q r) f ≡ times q (times r f)
times-assoc [] r f = refl
times-assoc (t ∷ q) r f =
    times-append (term_times t.coef t.mono r) (times q r) f
    ∙ ap (λ x. x ++ times (times q r) f) (times-term_times t.coef t.mono r f)
    ∙ ap (λ x. term_times t.coef t.mono (times r f) ++ x) (times-assoc q r f)

-- 1 is in n variables
pub in-one : (n : ℕ) → IsIn n (one n)
in-one n = (let z : ℕ = 0 in length-replicate n z, tt)

-- the multiple by the term 1 is the polynomial
pub term_times-one : (n : ℕ) (f : Poly) → IsIn n f → term_times 1 (mono_one n) f ≡ f
term_times-one n [] i = refl
term_times-one n (t ∷ f) i =
    term_cons (mono_times (mono_one n) t.mono) t.mono (1 * t.coef) t.coef _ f
    (one_times n t.mono i.0)
    (omega arith) (term_times-one n f i.1)

-- 1 is neutral
pub times-one : (n : ℕ) (f : Poly) → IsIn n f → times (one n) f ≡ f
times-one n f i = append-nil (term_times 1 (mono_one n) f) ∙ term_times-one n f i

-- ---- powers
-- a power is in the same variables
pub in-power : (n : ℕ) (f : Poly) (k : ℕ) → IsIn n f → IsIn n (power n f k)
in-power n f zero i = in-one n
in-power n f (suc k) i = in-times n f (power n f k) i (in-power n f k i)

-- an even power is one of the square
pub power-double : (n : ℕ) (f : Poly) (k : ℕ) → power n f (k + k) ≡ power n (times f f) k
power-double n f zero = refl
power-double n f (suc k) =
    ap (power n f) (let e : suc k + suc k ≡ suc (suc (k + k)) = omega arith in e)
    ∙ sym (times-assoc f f (power n f (k + k)))
    ∙ ap (times (times f f)) (power-double n f k)

-- a power of a sum of exponents is a product of powers
pub power-add : (n : ℕ) (f : Poly) (j k : ℕ) → IsIn n f → power n f (j + k) ≡ times (power n f j) (power n f k)
power-add n f zero k i = ap (power n f) (let e : 0 + k ≡ k = omega arith in e) ∙ sym (times-one n (power n f k) (in-power n f k i))
power-add n f (suc j) k i =
    ap (power n f) (let e : suc j + k ≡ suc (j + k) = omega arith in e)
    ∙ ap (times f) (power-add n f j k i)
    ∙ sym (times-assoc f (power n f j) (power n f k))

-- ---- up to a degree
-- products with what agrees agree
pub agree-times_right : (P : Problem) (q f g : Poly) → IsIn P.n q → IsIn P.n f → IsIn P.n g → Agree P f g → Agree P (times q f) (times q g)
agree-times_right P [] f g h i j s m l low = refl
agree-times_right P (t ∷ q) f g h i j s m l low =
    agree-append P (term_times t.coef t.mono f) (term_times t.coef t.mono g) (times q f) (times q g)
    (agree-term_times P t.coef t.mono f g h.0 i j s) (agree-times_right P q f g h.1 i j s) m l low

-- products of what agrees agree
pub agree-times : (P : Problem) (q r f g : Poly) → IsIn P.n q → IsIn P.n r → IsIn P.n f → IsIn P.n g → Agree P q r → Agree P f g → Agree P (times q f) (times r g)
agree-times P q r f g h k i j s t m l low =
    agree-times_right P q f g h i j t m l low
    ∙ ap (λ x. x % P.p) (total-times_comm q g m)
    ∙ agree-times_right P g q r j h k s m l low
    ∙ ap (λ x. x % P.p) (total-times_comm g r m)

-- powers of what agrees agree
pub agree-power : (P : Problem) (f g : Poly) (k : ℕ) → IsIn P.n f → IsIn P.n g → Agree P f g → Agree P (power P.n f k) (power P.n g k)
agree-power P f g zero i j s = λ m l low. refl
agree-power P f g (suc k) i j s =
    agree-times P f g (power P.n f k) (power P.n g k) i j (in-power P.n f k i) (in-power P.n g k j) s (agree-power P f g k i j s)

-- a polynomial is what is written of it up to the degree
pub agree-written : (P : Problem) (f : Poly) → Agree P f (canonical P.p (cut P.d f))
agree-written P f m l low = sym (coef-canonical P.p (cut P.d f) m ∙ ap (λ x. x % P.p) (total-cut_in P.d f m low))

-- what agrees is written alike
pub written-agree : (P : Problem) (f g : Poly) → 0 < P.p → IsIn P.n f → IsIn P.n g → Agree P f g → canonical P.p (cut P.d f) ≡ canonical P.p (cut P.d g)
written-agree P f g pos i j s = canonical_same P.p P.n (cut P.d f) (cut P.d g) pos (in-cut P.n P.d f i) (in-cut P.n P.d g j) (cut_same P f g s)

-- ---- by halves of the first factor
-- a product is the sum of the products of the first factor's halves
pub product-halves : (p n d k : ℕ) (f g u v : Poly) → 0 < p → IsIn n f → IsIn n g → u ≡ canonical p (cut d (times (take k f) g)) → v ≡ canonical p (cut d (times (drop k f) g)) →
    canonical p (u ++ v) ≡ canonical p (cut d (times f g))
product-halves p n d k f g u v pos i j a b =
    ap (λ x. canonical p (x ++ v)) a
    ∙ ap (λ x. canonical p (canonical p (cut d front) ++ x)) b
    ∙ canonical-append p n (cut d front) (cut d back) pos
    (in-cut n d front (in-times n (take k f) g (in-take n k f i) j)) (in-cut n d back (in-times n (drop k f) g (in-drop n k f i) j))
    ∙ ap (canonical p) (sym (cut-append d front back))
    ∙ ap (λ x. canonical p (cut d x)) (sym (times-append (take k f) (drop k f) g) ∙ ap (λ x. times x g) (take-append-drop k f))
  where
    front : Poly
    front = times (take k f) g

    back : Poly
    back = times (drop k f) g

-- a product of canonical polynomials, cut and written
pub IsCanonical-product : (p n d : ℕ) (f g : Poly) → IsCanonical p n f → IsCanonical p n g → IsCanonical p n (canonical p (cut d (times f g)))
IsCanonical-product p n d [] g v w = tt
IsCanonical-product p n d (t ∷ f) g v w =
    IsCanonical-canonical p n (cut d (times (t ∷ f) g)) (omega (arith, v.2))
    (in-cut n d (times (t ∷ f) g) (in-times n (t ∷ f) g (in_of_canonical p n (t ∷ f) v) (in_of_canonical p n g w)))

-- ---- with no degree
-- products see only the coefficients
pub same-times : (p n : ℕ) (f g h k : Poly) → IsIn n f → IsIn n g → IsIn n h → IsIn n k → IsSame p n f g → IsSame p n h k → IsSame p n (times f h) (times g k)
same-times p n f g h k a b c d s t m l =
    agree-times (ring p n (degree m)) f g h k a b c d (λ x e low. s x e) (λ x e low. t x e) m l (omega arith)

-- and where they are cut, only those up to the degree
pub cut-times : (p n d : ℕ) (f g h k : Poly) → IsIn n f → IsIn n g → IsIn n h → IsIn n k → IsSame p n (cut d f) (cut d g) → IsSame p n (cut d h) (cut d k) →
    IsSame p n (cut d (times f h)) (cut d (times g k))
cut-times p n d f g h k a b c e s t =
    cut_same (ring p n d) (times f h) (times g k) (agree-times (ring p n d) f g h k a b c e (agree (ring p n d) f g s) (agree (ring p n d) h k t))

-- the sum with the multiple by p - 1 is 0
pub opposite : (p n : ℕ) (f : Poly) → 0 < p → IsSame p n (f ++ term_times (p - 1) [] f) []
opposite p n f pos m l =
    ap (λ x. x % p) (total-append f (term_times (p - 1) [] f) m ∙ ap (λ x. total f m + x) (total-scale (p - 1) f m) ∙ whole (total f m))
    ∙ mul-mod_right p (total f m)
    ∙ sym (zero-mod p)
  where
    whole : (x : ℕ) → x + (p - 1) * x ≡ p * x
    whole x = (let q : x + (p - 1) * x ≡ (1 + (p - 1)) * x = omega arith in q) ∙ ap (λ k. k * x) (let q : 1 + (p - 1) ≡ p = omega arith in q)
