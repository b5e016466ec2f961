-- What holds of the members of the ideal, and stays true under sums, holds of a polynomial where it does of each monomial up to the degree.
-- In canonical form it is the sum of its terms, each with its coefficient, which isn't 0.
use Rattle.std.proofs.Common.{◌≡◌, ◌≢◌, ℕ, ◌+◌, ◌%◌, ◌<◌, ◌≤◌, List, [], ◌∷◌, ◌++◌, length, Bool, true, false, cond, refl, ap, sym, ◌∙◌, ⊎_elim, subst, arith}
use Rattle.std.proofs.Math.Nat.{zero-mod, mod-eq_of_lt, mul-one}
use Rattle.std.proofs.lemmas.Bool.{cases_lt}
use Rattle.local_order.specs.Mono.{degree, same}
use Rattle.local_order.specs.Order.{IsAbove}
use Rattle.local_order.proofs.Order.{above_irrefl, same-true, same-false, same_self}
use Rattle.sparse_poly.specs.Poly.{Term, Poly, total, coef, cut, IsIn, IsCanonical}
use Rattle.sparse_poly.specs.Canonical.{canonical}
use Rattle.sparse_poly.specs.Ideal.{Problem, IsLead, IsInIdeal}
use Rattle.sparse_poly.proofs.Canonical.{coef-canonical, IsCanonical-canonical}
use Rattle.sparse_poly.proofs.Closure.{IsInIdeal-scale}
use Rattle.sparse_poly.proofs.Coef.{total-cut_in, total-cut_out}
use Rattle.sparse_poly.proofs.Cuts.{in-cut}
use Rattle.sparse_poly.proofs.Member.{Agree, IsInIdeal-zero, IsInIdeal-add, IsInIdeal-agree}
use Rattle.sparse_poly.proofs.Span.{scale}
use Rattle.sparse_poly.proofs.Unique.{total-above, IsLead-canonical}
use Rattle.sparse_poly.specs.Poly.{monomial}

-- ---- one monomial
-- its coefficient is 1
pub coef-monomial : (p : ℕ) (m : List ℕ) → 2 ≤ p → coef p (monomial m) m ≡ 1
coef-monomial p m two = ap (λ b. (cond b 1 0 + 0) % p) (same_self m) ∙ mod-eq_of_lt two

-- above it there is nothing
pub coef-monomial_above : (p : ℕ) (m k : List ℕ) → IsAbove k m → coef p (monomial m) k ≡ 0
coef-monomial_above p m k a =
    ap (λ b. (cond b 1 0 + 0) % p) (same-false m k (λ s. above_irrefl k (subst (λ x. IsAbove k x) s a))) ∙ zero-mod p

-- it is its own lead
pub IsLead-monomial : (P : Problem) (m : List ℕ) → 2 ≤ P.p → length m ≡ P.n → IsLead P (monomial m) m
IsLead-monomial P m two l = record {
  in_ring = l;
  there = λ z. omega (arith, coef-monomial P.p m two, z);
  greatest = λ k kl a. coef-monomial_above P.p m k a;
}

-- ---- all terms
-- a monomial of the rest is one of the whole
rest_there : (p n : ℕ) (t : Term) (f : Poly) (k : List ℕ) → IsCanonical p n (t ∷ f) → coef p f k ≢ 0 → coef p (t ∷ f) k ≢ 0
rest_there p n t f k w n_zero z = n_zero (go (same t.mono k) refl)
  where
    go : (b : Bool) → same t.mono k ≡ b → coef p f k ≡ 0
    go true e = ap (λ x. x % p) (ap (total f) (sym (same-true t.mono k e)) ∙ total-above p n f t.mono w.4 w.3) ∙ zero-mod p
    go false e =
        ap (λ x. x % p) (let q : total f k ≡ 0 + total f k = omega arith in q) ∙ ap (λ b. (cond b t.coef 0 + total f k) % p) (sym e) ∙ z

-- what holds of the members of the ideal, of sums, of multiples by constants and of what agrees
pub record IsClosed (P : Problem) (Q : Poly → Type 0) : Type 0 where
  pub members : (f : Poly) → IsInIdeal P f → Q f
  pub sum : (f g : Poly) → Q f → Q g → Q (f ++ g)
  pub scaled : (c : ℕ) (f : Poly) → Q f → Q (scale c f)
  pub alike : (f g : Poly) → Agree P g f → Q f → Q g

-- so does lying in the ideal
pub IsClosed-ideal : (P : Problem) → IsClosed P (IsInIdeal P)
IsClosed-ideal P = record { members = λ f h. h; sum = IsInIdeal-add P; scaled = IsInIdeal-scale P; alike = λ f g s h. IsInIdeal-agree P f g s h }

module _ (P : Problem) (Q : Poly → Type 0) (closed : IsClosed P Q) where
  -- a canonical polynomial of whose monomials it holds
  canonical-monomials : (f : Poly) → IsCanonical P.p P.n f → ((k : List ℕ) → length k ≡ P.n → coef P.p f k ≢ 0 → Q (monomial k)) → Q f
  canonical-monomials [] w h = closed.members [] (IsInIdeal-zero P)
  canonical-monomials (t ∷ f) w h =
      let first = IsLead-canonical P t f w in
      closed.sum (t ∷ []) f
      (subst Q (λ i. record { mono = t.mono; coef = mul-one t.coef i } ∷ []) (closed.scaled t.coef (monomial t.mono) (h t.mono w.0 first.there)))
      (canonical-monomials f w.4 (λ k l n. h k l (rest_there P.p P.n t f k w n)))

  -- any polynomial of whose monomials up to the degree it holds
  pub by_monomials : (f : Poly) → 0 < P.p → IsIn P.n f → ((k : List ℕ) → length k ≡ P.n → degree k ≤ P.d → coef P.p f k ≢ 0 → Q (monomial k)) → Q f
  by_monomials f pos i h =
      closed.alike g f (λ m l low. ap (λ x. x % P.p) (sym (total-cut_in P.d f m low)) ∙ sym (coef-canonical P.p (cut P.d f) m))
      (canonical-monomials g (IsCanonical-canonical P.p P.n (cut P.d f) pos (in-cut P.n P.d f i)) known)
    where
      g : Poly
      g = canonical P.p (cut P.d f)

      known : (k : List ℕ) → length k ≡ P.n → coef P.p (canonical P.p (cut P.d f)) k ≢ 0 → Q (monomial k)
      known k l n =
          ⊎_elim
          (λ (high : P.d < degree k). absurd (n (coef-canonical P.p (cut P.d f) k ∙ ap (λ x. x % P.p) (total-cut_out P.d f k high) ∙ zero-mod P.p)))
          (λ (low : degree k ≤ P.d). h k l low (λ e. n (coef-canonical P.p (cut P.d f) k ∙ ap (λ x. x % P.p) (total-cut_in P.d f k low) ∙ e)))
          (cases_lt P.d (degree k))
