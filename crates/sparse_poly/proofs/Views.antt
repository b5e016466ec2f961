-- What a call knows of the terms of its polynomials, once it has opened them.
-- An opened polynomial f equals the value g that the contract speaks of.
use Rattle.std.proofs.Common.{◌≡◌, ℕ, ◌<◌, Result, IfOk, Vec, sym, ◌∙◌, ap, subst, arith}
use Rattle.std.specs.declared.alloc.AllocError.{AllocError}
use Rattle.std.specs.declared.alloc.Global.{Global}
use Rattle.std.proofs.lemmas.Result.{IfOk-weaker}
use Rattle.prime_field.specs.Prime.{InTable}
use Rattle.prime_field.proofs.Primality.{IsPrime-table}
use Rattle.sparse_poly.specs.Poly.{Term, Poly, Polynomial, in_variables, IsIn, IsCanonical}
use Rattle.sparse_poly.specs.Canonical.{canonical}
use Rattle.sparse_poly.proofs.Canonical.{IsCanonical-canonical}

-- the terms that a polynomial lends are canonical
pub own_terms : (p : ℕ) (f g : Polynomial) (terms : Poly) → f ≡ g → terms ≡ f.terms → IsCanonical p g.n g.terms → IsCanonical p f.n terms
own_terms p f g terms v t w = subst (IsCanonical p f.n) (sym t) (subst (λ h. IsCanonical p h.n h.terms) (sym v) w)

-- and those of another in the same variables
pub other_terms : (p : ℕ) (f g h k : Polynomial) (terms : Poly) → f ≡ g → h ≡ k → k.n ≡ g.n → terms ≡ h.terms → IsCanonical p k.n k.terms → IsCanonical p f.n terms
other_terms p f g h k terms v u n t w =
    subst (λ m. IsCanonical p m terms) (ap (λ x. x.n) u ∙ n ∙ sym (ap (λ x. x.n) v)) (own_terms p h k terms u t w)

-- the polynomial that a call gives
pub given : (f g : Polynomial) (terms h : Poly) → f ≡ g → terms ≡ h → in_variables f.n terms ≡ in_variables g.n h
given f g terms h v t = λ i. record { n = (v i).n; terms = t i }

-- and that its terms are canonical, where they are written
pub given_canonical : (p : ℕ) (f g : Polynomial) (terms h : Poly) → 0 < p → f ≡ g → in_variables f.n terms ≡ in_variables g.n (canonical p h) → IsIn g.n h → IsCanonical p f.n terms
given_canonical p f g terms h pos v e i =
    subst (λ k. IsCanonical p k.n k.terms) (sym e) (IsCanonical-canonical p g.n h pos i)

-- what is written is canonical
pub made_canonical : (p : ℕ) (f : Poly) (r : Result (Vec Term Global) AllocError) → 0 < p → IfOk r (λ v. v.items ≡ canonical p f) →
    IfOk r (λ v. (n : ℕ) → IsIn n f → IsCanonical p n v.items)
made_canonical p f r pos h =
    IfOk-weaker r (λ v. v.items ≡ canonical p f) (λ v. (n : ℕ) → IsIn n f → IsCanonical p n v.items)
    (λ v e n i. rw e (IsCanonical-canonical p n f pos i)) h

-- a prime of the table is positive
pub positive : (p : ℕ) → InTable p → 0 < p
positive p h = omega (arith, (IsPrime-table p h).two_up)
