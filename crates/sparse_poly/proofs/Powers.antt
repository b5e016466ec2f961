-- A power by squares: what is left of the exponent goes to the base, bit by bit.
-- The power so far times what is left of the base's power agrees with the whole power up to the degree.
use Rattle.std.proofs.Common.{◌≡◌, ◌≢◌, ℕ, suc, ◌+◌, ◌/◌, ◌%◌, ◌<◌, ◌≤◌, [], refl, ap, sym, ◌∙◌, subst, arith}
use Rattle.local_order.proofs.Division.{degree-one}
use Rattle.sparse_poly.specs.Poly.{Poly, Polynomial, in_variables, coef, cut, times, one, power, IsIn, IsCanonical}
use Rattle.sparse_poly.specs.Canonical.{canonical}
use Rattle.sparse_poly.proofs.Canonical.{canonical_self}
use Rattle.sparse_poly.proofs.Coef.{total-cut_in}
use Rattle.sparse_poly.proofs.Cuts.{cut-low, cut-written, in-cut, IsCanonical-cut}
use Rattle.sparse_poly.proofs.Member.{Agree, in-times}
use Rattle.sparse_poly.specs.Ideal.{ring}
use Rattle.sparse_poly.proofs.Ring.{total-times_comm, agree-times, agree-power, agree-written, written-agree, times-assoc, times-one, power-double, in-power, IsCanonical-product}
use Rattle.sparse_poly.proofs.Unique.{in_of_canonical}

-- x times the power of b by what is left is the power of a by e
pub record Powering (p n d : ℕ) (a : Poly) (e : ℕ) (x b : Polynomial) (left : ℕ) : Type 0 where
  pub positive : 0 < p
  pub own : IsCanonical p n a
  pub x_n : x.n ≡ n
  pub b_n : b.n ≡ n
  pub x_canonical : IsCanonical p n x.terms
  pub b_canonical : IsCanonical p n b.terms
  pub low : cut d x.terms ≡ x.terms
  pub equation : Agree (ring p n d) (power n a e) (times x.terms (power n b.terms left))

-- 1, and the base up to the degree
pub power_start : (p n d : ℕ) (a : Poly) (e : ℕ) (x b : Polynomial) → IsCanonical p n a → IsCanonical p n (one n) → x ≡ in_variables n (one n) → b ≡ in_variables n (cut d a) →
    Powering p n d a e x b e
power_start p n d a e x b w one_ok x_is b_is =
    subst (λ y. Powering p n d a e y b e) (sym x_is)
    (subst (λ y. Powering p n d a e (in_variables n (one n)) y e) (sym b_is) (record {
      positive = omega (arith, one_ok.2);
      own = w;
      x_n = refl;
      b_n = refl;
      x_canonical = one_ok;
      b_canonical = IsCanonical-cut p n d a w;
      low = cut-low d _ [] (omega (arith, degree-one n));
      equation = λ m l low.
          agree-power (ring p n d) a (cut d a) e i (in-cut n d a i) (λ k h up. ap (λ y. y % p) (sym (total-cut_in d a k up))) m l low
          ∙ ap (λ f. coef p f m) (sym (times-one n (power n (cut d a) e) (in-power n (cut d a) e (in-cut n d a i))));
    }))
  where
    i : IsIn n a
    i = in_of_canonical p n a w

-- where what is left is odd, the base is multiplied to the power
pub power_odd : (p n d : ℕ) (a : Poly) (e : ℕ) (x y b : Polynomial) (left : ℕ) → Powering p n d a e x b left → left % 2 ≡ 1 →
    y ≡ in_variables x.n (canonical p (cut d (times x.terms b.terms))) → Powering p n d a e y b (left / 2 + left / 2)
power_odd p n d a e x y b left h odd made =
    subst (λ z. Powering p n d a e z b k2) (sym made) (record {
      positive = h.positive;
      own = h.own;
      x_n = h.x_n;
      b_n = h.b_n;
      x_canonical = IsCanonical-product p n d x.terms b.terms h.x_canonical h.b_canonical;
      b_canonical = h.b_canonical;
      low = cut-written p n d (times x.terms b.terms) h.positive (in-times n x.terms b.terms ix ib);
      equation = λ m l low.
          h.equation m l low
          ∙ ap (λ f. coef p f m) (ap (λ j. times x.terms (power n b.terms j)) (let q : left ≡ suc k2 = omega arith in q) ∙ sym (times-assoc x.terms b.terms (power n b.terms k2)))
          ∙ agree-times (ring p n d) (times x.terms b.terms) new (power n b.terms k2) (power n b.terms k2) (in-times n x.terms b.terms ix ib)
          (in_of_canonical p n new (IsCanonical-product p n d x.terms b.terms h.x_canonical h.b_canonical)) ip ip
          (agree-written (ring p n d) (times x.terms b.terms)) (λ m l low. refl) m l low;
    })
  where
    k2 : ℕ
    k2 = left / 2 + left / 2

    ix : IsIn n x.terms
    ix = in_of_canonical p n x.terms h.x_canonical

    ib : IsIn n b.terms
    ib = in_of_canonical p n b.terms h.b_canonical

    ip : IsIn n (power n b.terms k2)
    ip = in-power n b.terms k2 ib

    new : Poly
    new = canonical p (cut d (times x.terms b.terms))

-- where it is even, the power stays
pub power_even : (p n d : ℕ) (a : Poly) (e : ℕ) (x y b : Polynomial) (left : ℕ) → Powering p n d a e x b left → left % 2 ≢ 1 → y ≡ x → Powering p n d a e y b (left / 2 + left / 2)
power_even p n d a e x y b left h even same =
    subst (λ z. Powering p n d a e z b (left / 2 + left / 2)) (sym same)
    (subst (Powering p n d a e x b) (let q : left ≡ left / 2 + left / 2 = omega arith in q) h)

-- the base is squared
pub power_square : (p n d : ℕ) (a : Poly) (e : ℕ) (x b s : Polynomial) (k : ℕ) → Powering p n d a e x b (k + k) →
    s ≡ in_variables b.n (canonical p (cut d (times b.terms b.terms))) → Powering p n d a e x s k
power_square p n d a e x b s k h made =
    subst (λ z. Powering p n d a e x z k) (sym made) (record {
      positive = h.positive;
      own = h.own;
      x_n = h.x_n;
      b_n = h.b_n;
      x_canonical = h.x_canonical;
      b_canonical = squared;
      low = h.low;
      equation = λ m l low.
          h.equation m l low
          ∙ ap (λ f. coef p (times x.terms f) m) (power-double n b.terms k)
          ∙ agree-times (ring p n d) x.terms x.terms (power n square k) (power n new k) ix ix (in-power n square k is) (in-power n new k (in_of_canonical p n new squared))
          (λ m l low. refl) (agree-power (ring p n d) square new k is (in_of_canonical p n new squared) (agree-written (ring p n d) square)) m l low;
    })
  where
    square : Poly
    square = times b.terms b.terms

    new : Poly
    new = canonical p (cut d square)

    squared : IsCanonical p n new
    squared = IsCanonical-product p n d b.terms b.terms h.b_canonical h.b_canonical

    ix : IsIn n x.terms
    ix = in_of_canonical p n x.terms h.x_canonical

    is : IsIn n square
    is = in-times n b.terms b.terms (in_of_canonical p n b.terms h.b_canonical) (in_of_canonical p n b.terms h.b_canonical)

-- where nothing is left, the base doesn't matter
pub power_last : (p n d : ℕ) (a : Poly) (e : ℕ) (x b : Polynomial) (k : ℕ) → Powering p n d a e x b (k + k) → k ≤ 0 → Powering p n d a e x b k
power_last p n d a e x b k h none = subst (Powering p n d a e x b) (let q : k + k ≡ k = omega arith in q) h

-- at the end
pub power_end : (p n d : ℕ) (a : Poly) (e : ℕ) (x b : Polynomial) (left : ℕ) → Powering p n d a e x b left → left ≤ 0 → x ≡ in_variables n (canonical p (cut d (power n a e)))
power_end p n d a e x b left h none = λ i. record { n = h.x_n i; terms = value i }
  where
    ix : IsIn n x.terms
    ix = in_of_canonical p n x.terms h.x_canonical

    ends : times x.terms (power n b.terms left) ≡ times x.terms (one n)
    ends = ap (λ j. times x.terms (power n b.terms j)) (let q : left ≡ 0 = omega arith in q)

    agrees : Agree (ring p n d) (power n a e) x.terms
    agrees m l low = h.equation m l low ∙ ap (λ f. coef p f m) ends ∙ ap (λ y. y % p) (total-times_comm x.terms (one n) m) ∙ ap (λ f. coef p f m) (times-one n x.terms ix)

    value : x.terms ≡ canonical p (cut d (power n a e))
    value =
        sym (canonical_self p n x.terms h.positive h.x_canonical)
        ∙ ap (canonical p) (sym h.low)
        ∙ sym (written-agree (ring p n d) (power n a e) x.terms h.positive (in-power n a e (in_of_canonical p n a h.own)) ix agrees)
