-- The tokens of expressions: each ends as a power does, and opens as many parentheses as it closes.
-- By induction on the tree; what ends tokens that are put together is what ends the last of them.
use Rattle.std.proofs.Common.{◌≡◌, ℕ, ◌+◌, List, [], ◌∷◌, ◌++◌, true, refl, ap, ◌∙◌, arith}
use Rattle.script_grammar.specs.Tokens.{Token, word, mark}
use Rattle.script_grammar.specs.Trees.{Operand, number, fraction, named, inside, operand_tokens, Power, plain, raised, power_tokens, Term, single, times, term_tokens, Sum, bare, positive, negative, plus, minus, sum_tokens, one}
use Rattle.script_grammar.specs.Spots.{last_of, marks, ends_power}

-- The last of tokens put together is the last of those behind.
pub last-append : (i : Token) (a b : List Token) → last_of i (a ++ b) ≡ last_of (last_of i a) b
last-append i [] b = refl
last-append i (j ∷ a) b = last-append j a b

-- The last of tokens with one behind them is that one.
pub last-one : (i : Token) (a : List Token) (j : Token) → last_of i (a ++ one j) ≡ j
last-one i a j = last-append i a (one j)

-- A mark stands among tokens put together as often as among both.
pub marks-append : (m : ℕ) (a b : List Token) → marks m (a ++ b) ≡ marks m a + marks m b
marks-append m [] b = omega arith
marks-append m (i ∷ a) b = omega (arith, marks-append m a b)

-- they end as a power does, whatever is before, and close the parentheses that they open
pub record EndsPower (tokens : List Token) : Type 0 where
  pub last : (i : Token) → ends_power (last_of i tokens) ≡ true
  pub closed : marks 40 tokens ≡ marks 41 tokens

-- What ends as a power does still does so with other tokens in front that close theirs.
behind_others : (a b : List Token) → marks 40 a ≡ marks 41 a → EndsPower b → EndsPower (a ++ b)
behind_others a b same h = record {
  last = λ i. ap ends_power (last-append i a b) ∙ h.last (last_of i a);
  closed = omega (arith, same, h.closed, marks-append 40 a b, marks-append 41 a b);
}

-- So it does with a mark in front that is no parenthesis.
behind_mark : (m : ℕ) (tokens : List Token) → (marks 40 (one (mark m)) ≡ 0) × (marks 41 (one (mark m)) ≡ 0) → EndsPower tokens → EndsPower (mark m ∷ tokens)
behind_mark m tokens none h = record { last = λ i. h.last (mark m); closed = omega (arith, none.0, none.1, h.closed) }

mutual
  unfolding operand_tokens power_tokens term_tokens sum_tokens

  -- An operand ends so,
  pub operand_ends : (o : Operand) → EndsPower (operand_tokens o)
  operand_ends (number digits) = record { last = λ i. refl; closed = refl }
  operand_ends (fraction digits below) = record { last = λ i. refl; closed = refl }
  operand_ends (named w) = record { last = λ i. refl; closed = refl }
  operand_ends (inside s) =
      let h = sum_ends s in
      record {
        last = λ i. ap ends_power (last-one (mark 40) (sum_tokens s) (mark 41));
        closed = omega (arith, h.closed, marks-append 40 (sum_tokens s) (one (mark 41)), marks-append 41 (sum_tokens s) (one (mark 41)));
      }

  -- and so does a power,
  pub power_ends : (p : Power) → EndsPower (power_tokens p)
  power_ends (plain o) = operand_ends o
  power_ends (raised o digits) =
      let h = operand_ends o in
      behind_others (operand_tokens o) (mark 94 ∷ one (word digits)) h.closed (record { last = λ i. refl; closed = refl })

  -- a term,
  pub term_ends : (x : Term) → EndsPower (term_tokens x)
  term_ends (single p) = power_ends p
  term_ends (times y p) = let h = term_ends y in behind_others (term_tokens y) (mark 42 ∷ power_tokens p) h.closed (behind_mark 42 (power_tokens p) (refl, refl) (power_ends p))

  -- and an expression.
  pub sum_ends : (x : Sum) → EndsPower (sum_tokens x)
  sum_ends (bare y) = term_ends y
  sum_ends (positive y) = behind_mark 43 (term_tokens y) (refl, refl) (term_ends y)
  sum_ends (negative y) = behind_mark 45 (term_tokens y) (refl, refl) (term_ends y)
  sum_ends (plus x y) = let h = sum_ends x in behind_others (sum_tokens x) (mark 43 ∷ term_tokens y) h.closed (behind_mark 43 (term_tokens y) (refl, refl) (term_ends y))
  sum_ends (minus x y) = let h = sum_ends x in behind_others (sum_tokens x) (mark 45 ∷ term_tokens y) h.closed (behind_mark 45 (term_tokens y) (refl, refl) (term_ends y))
