-- What a run does, up to a unit.
use Rattle.std.specs.Prelude.{◌≡◌, ℕ, zero, suc, ◌+◌, ◌<◌, ◌≤◌, List, [], ◌∷◌, ◌++◌, length, get_or, Some, ◌==◌, if◌then◌else◌}
use Rattle.local_order.specs.Mono.{degree, mono_one}
use Rattle.rank_algebra.specs.Ranks.{Ranks}
use Rattle.sparse_poly.specs.Poly.{Poly, coef, IsIn, cut, times, combination}
use Rattle.sparse_poly.specs.Ideal.{Problem, IsGreater, IsLead}
use Rattle.entry_code.specs.declared.term.Term.{Term}
use Rattle.rank_algebra.specs.Vector.{Same, Vector, nothing, add, scale, shift, Agree}
use Rattle.mora_law.specs.Ring.{numbering_of}
use Rattle.mora_law.specs.Lead.{lead}

-- the constant term of the polynomial with these terms
abbrev pub constant_term : List Term → ℕ
constant_term [] = 0
constant_term (t ∷ u) = (if t.rank == 0 then t.coef else 0) + constant_term u

-- the product of v with the polynomial that has these terms
abbrev pub times_terms : Ranks → List Term → Vector → Vector
times_terms R [] v = nothing
times_terms R (t ∷ u) v = add (scale t.coef (shift R t.rank v)) (times_terms R u v)

-- the sum of the products of a k and vector k, over `left` numbers k from `first` on
abbrev pub sum_of : Ranks → (ℕ → Vector) → (ℕ → List Term) → ℕ → ℕ → Vector
sum_of R vectors a zero first = nothing
sum_of R vectors a (suc left) first = add (times_terms R (a first) (vectors first)) (sum_of R vectors a left (suc first))

-- u * f agrees at every rank below w with h and the sum of the a e * entry e over the entries e below `known`, where u is a unit,
-- with constant term 1. No a e * entry e has a term greater than the lead of f. Where f is 0, all a e are 0.
pub record UnitLaw (R : Ranks) (entries : ℕ → Vector) (known : ℕ) (f : Vector) (w : ℕ) (h : Vector) : Type 0 where
  pub u : List Term
  pub one : Same R.p (constant_term u) 1
  pub a : ℕ → List Term
  pub agrees : Agree R w (times_terms R u f) (add h (sum_of R entries a known 0))
  pub low : (e l : ℕ) → e < known → lead R f ≡ Some l → Agree R l (times_terms R (a e) (entries e)) nothing
  pub none : (e : ℕ) → e < known → Agree R R.n f nothing → a e ≡ []

-- the same of polynomials f and h, where `known` are entries: u * f agrees at each monomial of a rank below w with h and the sum of
-- the a e * entry e, where u is a unit, with constant term 1. No a e * entry e has a term greater than the lead of f. Where f is 0
-- modulo degree d + 1, all a e are 0.
pub record UnitLawOfPolynomials (P : Problem) (known : List Poly) (f : Poly) (w : ℕ) (h : Poly) : Type 0 where
  pub u : Poly
  pub u_in_ring : IsIn P.n u
  pub one : coef P.p u (mono_one P.n) ≡ 1
  pub a : ℕ → Poly
  pub a_in_ring : (e : ℕ) → IsIn P.n (a e)
  pub agrees : (m : List ℕ) → length m ≡ P.n → degree m ≤ P.d → (numbering_of P).rank m < w → coef P.p (times u f) m ≡ coef P.p (h ++ combination a known) m
  pub low : (e : ℕ) (l m : List ℕ) → e < length known → IsLead P (cut P.d f) l → length m ≡ P.n → IsGreater P m l → coef P.p (times (a e) (get_or known e [])) m ≡ 0
  pub none : (e : ℕ) → e < length known → ((m : List ℕ) → length m ≡ P.n → degree m ≤ P.d → coef P.p f m ≡ 0) → a e ≡ []
