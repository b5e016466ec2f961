-- Expressions, read from left to right.
use Rattle.std.specs.Prelude.{ℕ, zero, suc, ◌%◌, Bool, true, false, not, ◌&&◌, ◌||◌, List, length, Result, Ok, ◌==◌, if◌then◌else◌}
use Rattle.script_grammar.specs.Limits.{max_depth}
use Rattle.prime_field.specs.Decimal.{value_of}
use Rattle.script_grammar.specs.declared.refusal.What.TheVariants as whats
use Rattle.script_grammar.specs.declared.refusal.ReadKind.TheVariants.{UnknownName, ExponentTooLarge, ZeroDivisor, TooDeep}
use Rattle.script_grammar.specs.declared.refusal.Refusal.{Refusal}
use Rattle.script_grammar.specs.Tokens.{Place, next}
use Rattle.script_grammar.specs.Words.{is_numeral, is_one_of, keywords, is_short, has_large, is_the_mark, is_word, word_of}
use Rattle.script_grammar.specs.Trees.{Operand, number, fraction, named, inside, Power, plain, raised, Term, single, times, Sum, bare, positive, negative, plus, minus}
use Rattle.script_grammar.specs.Steps.{◌>>=◌, refused, wanted, mark_at, numeral_at, exponent_at}

-- what has been declared so far: the ring's name, its characteristic, the letters of its variables, and the names of polynomials and ideals
pub record Declarations : Type 0 where
  pub ring : List ℕ
  pub prime : ℕ
  pub letters : List ℕ
  pub polys : List (List ℕ)
  pub ideals : List (List ℕ)

-- what stands below a numeral, behind the /
unfoldable pub below_at : Declarations → List ℕ → Place → Result (Operand × Place) Refusal
below_at known digits t = do
  n ← numeral_at t
  if value_of n.0 % known.prime == 0 then refused t ZeroDivisor else Ok (fraction digits n.0, n.1)

unfoldable pub fraction_at : Declarations → List ℕ → Place → Result (Operand × Place) Refusal
fraction_at known digits t = if is_the_mark 47 t.token then below_at known digits (next t.rest) else Ok (number digits, t)

-- a word: a keyword, a numeral, a poly's name, a short monomial, in this order
unfoldable pub word_operand_at : Declarations → List ℕ → Place → Result (Operand × Place) Refusal
word_operand_at known w t =
    if is_one_of keywords w then refused t UnknownName
    else (if is_numeral w then fraction_at known w (next t.rest)
    else (if is_one_of known.polys w then Ok (named w, next t.rest)
    else (if not (is_short known.letters w) then refused t UnknownName
    else (if has_large w then refused t ExponentTooLarge
    else Ok (named w, next t.rest)))))

-- a word, or a sum in parentheses, read by inner
unfoldable pub operand_at : (Place → Result (Sum × Place) Refusal) → Declarations → Place → Result (Operand × Place) Refusal
operand_at inner known t =
    if is_word t.token then word_operand_at known (word_of t.token) t
    else (if is_the_mark 40 t.token then (inner t >>= λ s. Ok (inside s.0, s.1))
    else wanted t whats.Operand)

-- ^ may stand behind a numeral, one letter, a poly's name and a )
unfoldable pub takes_exponent : Declarations → Operand → Bool
takes_exponent known (number digits) = true
takes_exponent known (fraction digits below) = false
takes_exponent known (named w) = length w == 1 || is_one_of known.polys w
takes_exponent known (inside s) = true

unfoldable pub power_at : (Place → Result (Sum × Place) Refusal) → Declarations → Place → Result (Power × Place) Refusal
power_at inner known t = do
  o ← operand_at inner known t
  if takes_exponent known o.0 && is_the_mark 94 o.1.token then (exponent_at (next o.1.rest) >>= λ n. Ok (raised o.0 n.0, n.1)) else Ok (plain o.0, o.1)

-- More powers, each behind a *. There are at most as many as bytes are left.
unfoldable pub times_at : (Place → Result (Sum × Place) Refusal) → Declarations → ℕ → Term → Place → Result (Term × Place) Refusal
times_at inner known zero x t = Ok (x, t)
times_at inner known (suc n) x t =
    if is_the_mark 42 t.token then (power_at inner known (next t.rest) >>= λ y. times_at inner known n (times x y.0) y.1)
    else Ok (x, t)

unfoldable pub term_at : (Place → Result (Sum × Place) Refusal) → Declarations → Place → Result (Term × Place) Refusal
term_at inner known t = do
  x ← power_at inner known t
  times_at inner known x.1.left (single x.0) x.1

-- more terms, each behind a + or a -
unfoldable pub more_at : (Place → Result (Sum × Place) Refusal) → Declarations → ℕ → Sum → Place → Result (Sum × Place) Refusal
more_at inner known zero x t = Ok (x, t)
more_at inner known (suc n) x t =
    if is_the_mark 43 t.token then (term_at inner known (next t.rest) >>= λ y. more_at inner known n (plus x y.0) y.1)
    else (if is_the_mark 45 t.token then (term_at inner known (next t.rest) >>= λ y. more_at inner known n (minus x y.0) y.1)
    else Ok (x, t))

-- the first term, with its sign
unfoldable pub first_at : (Place → Result (Sum × Place) Refusal) → Declarations → Place → Result (Sum × Place) Refusal
first_at inner known t =
    if is_the_mark 43 t.token then (term_at inner known (next t.rest) >>= λ y. Ok (positive y.0, y.1))
    else (if is_the_mark 45 t.token then (term_at inner known (next t.rest) >>= λ y. Ok (negative y.0, y.1))
    else (term_at inner known t >>= λ y. Ok (bare y.0, y.1)))

unfoldable pub sum_at : (Place → Result (Sum × Place) Refusal) → Declarations → Place → Result (Sum × Place) Refusal
sum_at inner known t = do
  x ← first_at inner known t
  more_at inner known x.1.left x.0 x.1

-- a sum in parentheses, of which so many more may be open
unfoldable pub inner_at : ℕ → Declarations → Place → Result (Sum × Place) Refusal
inner_at zero known t = refused t TooDeep
inner_at (suc deep) known t = do
  s ← sum_at (inner_at deep known) known (next t.rest)
  after ← mark_at 41 whats.Operator s.1
  Ok (s.0, after)

-- A whole expression. The token behind it is left to the statement.
unfoldable pub expression_at : Declarations → Place → Result (Sum × Place) Refusal
expression_at known t = sum_at (inner_at max_depth known) known t
