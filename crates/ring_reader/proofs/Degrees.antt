-- Expressions are cut: their values have degree at most one more than the noether degree, where those of declared polynomials have.
-- By induction on the tree: what is worked out in the ring is cut, and sums and opposites have no further monomials.
use Rattle.std.proofs.Common.{◌≡◌, ℕ, ◌+◌, ◌-◌, ◌*◌, ◌%◌, ◌≤◌, ◌++◌, Bool, true, false, cond, List, [], ◌∷◌, map, Result, Ok, subst, sym}
use Rattle.std.specs.Prelude.{All}
use Rattle.std.proofs.lemmas.List.Elements.{All-nil, All-cons, All-head, All-tail, All-append, All-map}
use Rattle.prime_field.specs.Decimal.{value_of}
use Rattle.prime_field.specs.Inverse.{inverse}
use Rattle.local_order.specs.Mono.{degree}
use Rattle.sparse_poly.specs.Poly.{Poly, cut, times as poly_times, power, HasDegreeAtMost}
use Rattle.sparse_poly.proofs.Cuts.{HasDegreeAtMost-cut, HasDegreeAtMost-canonical}
use Rattle.script_grammar.specs.declared.refusal.Refusal.{Refusal}
use Rattle.script_grammar.specs.Tokens.{Place}
use Rattle.script_grammar.specs.Words.{is_same}
use Rattle.script_grammar.specs.Trees.{Operand, number, fraction, named, inside, Power, plain, raised, Term, single, times, Sum, bare, positive, negative, plus, minus}
use Rattle.script_grammar.specs.Meaning.{Named, Values, value_in, variable_count, constant, short_poly, in_ring, opposite, operand_value, power_value, term_value, sum_value}
use Rattle.expression_reader.specs.declared.names.NamedPoly.{NamedPoly}
use Rattle.expression_reader.specs.NamesView.{declared_poly}
use Rattle.expression_reader.specs.Gives.{meant}
use Rattle.expression_reader.proofs.Loops.{meant_ok}

-- What lies in the ring has degree at most D + 1.
in_ring_low : (v : Values) (f : Poly) → HasDegreeAtMost (v.d + 1) (in_ring v f)
in_ring_low v f = HasDegreeAtMost-canonical v.p (v.d + 1) (cut (v.d + 1) f) (HasDegreeAtMost-cut (v.d + 1) f)

-- The opposite has no greater degree.
opposite_low : (p d : ℕ) (f : Poly) → HasDegreeAtMost d f → HasDegreeAtMost d (opposite p f)
opposite_low p d [] h = All-nil (λ s. degree s.mono ≤ d)
opposite_low p d (t ∷ f) h =
    All-cons (λ s. degree s.mono ≤ d) (record { mono = t.mono; coef = (p - 1) * t.coef }) (opposite p f) (All-head (λ s. degree s.mono ≤ d) t f h) (opposite_low p d f (All-tail (λ s. degree s.mono ≤ d) t f h))

-- what a name stands for, where all that is declared is low
value_low : (d : ℕ) (names : List (Named Poly)) (other : Poly) (w : List ℕ) → All (λ (n : Named Poly). HasDegreeAtMost d n.value) names → HasDegreeAtMost d other → HasDegreeAtMost d (value_in names other w)
value_low d [] other w all low = low
value_low d (n ∷ names) other w all low = go (is_same n.name w) (value_low d names other w (All-tail (λ (n : Named Poly). HasDegreeAtMost d n.value) n names all) low)
  where
    go : (b : Bool) → HasDegreeAtMost d (value_in names other w) → HasDegreeAtMost d (cond b n.value (value_in names other w))
    go true rest = All-head (λ (n : Named Poly). HasDegreeAtMost d n.value) n names all
    go false rest = rest

abbrev pub AreLow : Values → Type 0
AreLow v = All (λ (n : Named Poly). HasDegreeAtMost (v.d + 1) n.value) v.polys

mutual
  unfolding operand_value power_value term_value sum_value

  operand_low : (v : Values) → AreLow v → (o : Operand) → HasDegreeAtMost (v.d + 1) (operand_value v o)
  operand_low v all (number digits) = in_ring_low v (constant (variable_count v) (value_of digits))
  operand_low v all (fraction digits below) = in_ring_low v (constant (variable_count v) (value_of digits * inverse v.p (value_of below % v.p)))
  operand_low v all (named w) = value_low (v.d + 1) v.polys (in_ring v (short_poly v.letters w)) w all (in_ring_low v (short_poly v.letters w))
  operand_low v all (inside s) = sum_low v all s

  power_low : (v : Values) → AreLow v → (x : Power) → HasDegreeAtMost (v.d + 1) (power_value v x)
  power_low v all (plain o) = operand_low v all o
  power_low v all (raised o digits) = in_ring_low v (power (variable_count v) (operand_value v o) (value_of digits))

  term_low : (v : Values) → AreLow v → (x : Term) → HasDegreeAtMost (v.d + 1) (term_value v x)
  term_low v all (single x) = power_low v all x
  term_low v all (times x y) = in_ring_low v (poly_times (term_value v x) (power_value v y))

  pub sum_low : (v : Values) → AreLow v → (x : Sum) → HasDegreeAtMost (v.d + 1) (sum_value v x)
  sum_low v all (bare x) = term_low v all x
  sum_low v all (positive x) = term_low v all x
  sum_low v all (negative x) = HasDegreeAtMost-canonical v.p (v.d + 1) (opposite v.p (term_value v x)) (opposite_low v.p (v.d + 1) (term_value v x) (term_low v all x))
  sum_low v all (plus x y) =
      HasDegreeAtMost-canonical v.p (v.d + 1) (sum_value v x ++ term_value v y)
      (All-append (λ s. degree s.mono ≤ v.d + 1) (sum_value v x) (term_value v y) (sum_low v all x) (term_low v all y))
  sum_low v all (minus x y) =
      HasDegreeAtMost-canonical v.p (v.d + 1) (sum_value v x ++ opposite v.p (term_value v y))
      (All-append (λ s. degree s.mono ≤ v.d + 1) (sum_value v x) (opposite v.p (term_value v y)) (sum_low v all x) (opposite_low v.p (v.d + 1) (term_value v y) (term_low v all y)))

-- ---- the same of the code's polynomials
pub declared_low : (d : ℕ) (polys : List NamedPoly) → All (λ (f : NamedPoly). HasDegreeAtMost d f.value.terms) polys → All (λ (n : Named Poly). HasDegreeAtMost d n.value) (map declared_poly polys)
declared_low d polys all = All-map (λ (n : Named Poly). HasDegreeAtMost d n.value) declared_poly polys all

-- the value of an expression that was read
pub read_low : (v : Values) → AreLow v → (read : Result (Sum × Place) Refusal) (f : Poly) (u : Place) → meant (sum_value v) read ≡ Ok (f, u) → HasDegreeAtMost (v.d + 1) f
read_low v all read f u e =
    let m = meant_ok (sum_value v) read f u e in
    subst (HasDegreeAtMost (v.d + 1)) (sym m.2) (sum_low v all m.0)
