-- What a script asks for. Expressions are worked out in the ring of polynomials cut beyond degree D + 1, D being the noether
-- degree, so that derivatives are right up to degree D; generators of ideals are cut beyond D.
use Rattle.std.specs.Prelude.{ℕ, ◌+◌, ◌-◌, ◌*◌, ◌%◌, List, [], ◌∷◌, ◌++◌, length, map, ◌==◌, if◌then◌else◌}
use Rattle.prime_field.specs.Decimal.{value_of}
use Rattle.prime_field.specs.Inverse.{inverse}
use Rattle.local_order.specs.Mono.{mono_one}
use Rattle.sparse_poly.specs.Poly.{Poly, in_variables, cut, term_times, times as poly_times, power}
use Rattle.sparse_poly.specs.Canonical.{canonical}
use Rattle.sparse_poly.specs.Jacobian.{jacobian_ideal}
use Rattle.script_grammar.specs.declared.script.Subject.{Subject}
use Rattle.script_grammar.specs.declared.script.Subject.TheVariants.{Ideal, Function}
use Rattle.script_grammar.specs.declared.script.Command.{Command}
use Rattle.script_grammar.specs.declared.script.Script.{Script}
use Rattle.script_grammar.specs.Words.{is_same, digits_front, exponents}
use Rattle.script_grammar.specs.Trees.{Operand, number, fraction, named, inside, Power, plain, raised, Term, single, times, Sum, bare, positive, negative, plus, minus, Member, generator, jacobian, Members, only, more, Statement, remark, poly, again, ideal, command, command_std, Tree}
use Rattle.script_grammar.specs.Statements.{letters_of, degree_of, is_on_poly}

-- what a name stands for
pub record Named (A : Type 0) : Type 0 where
  pub name : List ℕ
  pub value : A

-- the characteristic, the letters, the noether degree, and what has been declared so far
pub record Values : Type 0 where
  pub p : ℕ
  pub letters : List ℕ
  pub d : ℕ
  pub polys : List (Named Poly)
  pub ideals : List (Named (List Poly))

-- what w stands for, or other where it isn't declared
abbrev pub value_in : {A : Type 0} → List (Named A) → A → List ℕ → A
value_in [] other w = other
value_in (n ∷ names) other w = if is_same n.name w then n.value else value_in names other w

-- ---- expressions
-- f in the ring of polynomials cut beyond degree e
abbrev pub truncated : ℕ → ℕ → Poly → Poly
truncated p e f = canonical p (cut e f)

abbrev pub in_ring : Values → Poly → Poly
in_ring v f = truncated v.p (v.d + 1) f

abbrev pub variable_count : Values → ℕ
variable_count v = length v.letters

abbrev pub constant : ℕ → ℕ → Poly
constant n c = record { mono = mono_one n; coef = c } ∷ []

-- the exponent of a letter, whose exponents add up
abbrev pub letter_exponent : List (ℕ × ℕ) → ℕ → ℕ
letter_exponent [] l = 0
letter_exponent (e ∷ es) l = (if e.0 == l then e.1 else 0) + letter_exponent es l

-- the coefficient that the digits in front of a short monomial are, or 1
abbrev pub coefficient_of : List ℕ → ℕ
coefficient_of [] = 1
coefficient_of (b ∷ digits) = value_of (b ∷ digits)

-- a short monomial
abbrev pub short_poly : List ℕ → List ℕ → Poly
short_poly letters w = record { mono = map (letter_exponent (exponents w)) letters; coef = coefficient_of (digits_front w) } ∷ []

-- - f
abbrev pub opposite : ℕ → Poly → Poly
opposite p f = term_times (p - 1) [] f

unfoldable mutual
  pub operand_value : Values → Operand → Poly
  operand_value v (number digits) = in_ring v (constant (variable_count v) (value_of digits))
  operand_value v (fraction digits below) = in_ring v (constant (variable_count v) (value_of digits * inverse v.p (value_of below % v.p)))
  operand_value v (named w) = value_in v.polys (in_ring v (short_poly v.letters w)) w
  operand_value v (inside s) = sum_value v s

  pub power_value : Values → Power → Poly
  power_value v (plain o) = operand_value v o
  power_value v (raised o digits) = in_ring v (power (variable_count v) (operand_value v o) (value_of digits))

  pub term_value : Values → Term → Poly
  term_value v (single x) = power_value v x
  term_value v (times x y) = in_ring v (poly_times (term_value v x) (power_value v y))

  pub sum_value : Values → Sum → Poly
  sum_value v (bare x) = term_value v x
  sum_value v (positive x) = term_value v x
  sum_value v (negative x) = canonical v.p (opposite v.p (term_value v x))
  sum_value v (plus x y) = canonical v.p (sum_value v x ++ term_value v y)
  sum_value v (minus x y) = canonical v.p (sum_value v x ++ opposite v.p (term_value v y))

-- ---- ideals
-- the derivatives of f in the order of the variables: the generators of its jacobian ideal
abbrev pub derivatives : Values → Poly → List Poly
derivatives v f = jacobian_ideal v.p (variable_count v) v.d f

-- the generators that a member stands for: an expression, or the derivatives of a polynomial
abbrev pub member_value : Values → Member → List Poly
member_value v (generator s) = cut v.d (sum_value v s) ∷ []
member_value v (jacobian f) = derivatives v (value_in v.polys [] f)

abbrev pub members_value : Values → Members → List Poly
members_value v (only m) = member_value v m
members_value v (more ms m) = members_value v ms ++ member_value v m

-- ---- statements
abbrev pub declare_poly : Values → List ℕ → Poly → Values
declare_poly v name f = record v { polys = v.polys ++ record { name = name; value = f } ∷ [] }

abbrev pub declare_ideal : Values → List ℕ → List Poly → Values
declare_ideal v name gens = record v { ideals = v.ideals ++ record { name = name; value = gens } ∷ [] }

-- what has been declared after a statement
unfoldable pub values_after : Values → Statement → Values
values_after v (poly name s) = declare_poly v name (sum_value v s)
values_after v (again name other) = declare_ideal v name (value_in v.ideals [] other)
values_after v (ideal name ms) = declare_ideal v name (members_value v ms)
values_after v (remark r) = v
values_after v (command w name) = v
values_after v (command_std w name) = v

abbrev pub ideal_subject : Values → List ℕ → Subject
ideal_subject v name = Ideal (record { p = v.p; n = variable_count v; d = v.d; gens = value_in v.ideals [] name })

abbrev pub function_subject : Values → List ℕ → Subject
function_subject v name = Function (in_variables (variable_count v) (value_in v.polys [] name))

-- A command on an ideal speaks of the ideal that its generators generate, whether std stands in its argument or not.
unfoldable pub commands_of : Values → Statement → List Command
commands_of v (command w name) = record { word = w; name = name; subject = if is_on_poly w then function_subject v name else ideal_subject v name } ∷ []
commands_of v (command_std w name) = record { word = w; name = name; subject = ideal_subject v name } ∷ []
commands_of v (remark r) = []
commands_of v (poly name s) = []
commands_of v (again name other) = []
commands_of v (ideal name ms) = []

abbrev pub statements_meaning : Values → List Statement → List Command
statements_meaning v [] = []
statements_meaning v (s ∷ statements) = commands_of v s ++ statements_meaning (values_after v s) statements

-- ---- the whole script
abbrev pub first_values : Tree → Values
first_values t = record { p = value_of t.ring.prime; letters = letters_of t.ring.variables; d = degree_of t.noether; polys = []; ideals = [] }

abbrev pub meaning : Tree → Script
meaning t = record {
  names = letters_of t.ring.variables;
  field = value_of t.ring.prime;
  d = degree_of t.noether;
  commands = statements_meaning (first_values t) t.statements;
}
