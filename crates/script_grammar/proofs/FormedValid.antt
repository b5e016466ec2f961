-- A valid expression is formed.
-- By induction on the tree; only the test of a named operand has something to prove.
use Rattle.std.proofs.Common.{ℕ, not, ◌&&◌, ◌||◌}
use Rattle.std.proofs.lemmas.Bool.{and_parts, not-true}
use Rattle.script_grammar.specs.Words.{is_numeral, is_one_of, keywords, is_short, has_large}
use Rattle.script_grammar.specs.Trees.{Operand, number, fraction, named, inside, Power, plain, raised, Term, single, times, Sum, bare, positive, negative, plus, minus}
use Rattle.script_grammar.specs.Expressions.{Declarations}
use Rattle.script_grammar.specs.Valid.{ValidOperand, ValidPower, ValidTerm, ValidSum}
use Rattle.script_grammar.specs.Formed.{FormedOperand, FormedPower, FormedTerm, FormedSum}

mutual
  operand_formed : (known : Declarations) (deep : ℕ) (o : Operand) → ValidOperand known deep o → FormedOperand o
  operand_formed known deep (number w) v = v
  operand_formed known deep (fraction w b) v = (v.0, v.1)
  operand_formed known deep (named w) v =
      let p = and_parts (not (is_numeral w)) (not (is_one_of keywords w) && (is_one_of known.polys w || (is_short known.letters w && not (has_large w)))) v in
      let q = and_parts (not (is_one_of keywords w)) (is_one_of known.polys w || (is_short known.letters w && not (has_large w))) p.1 in
      (not-true (is_numeral w) p.0, not-true (is_one_of keywords w) q.0)
  operand_formed known deep (inside s) v = sum_formed known v.0 s v.2

  power_formed : (known : Declarations) (deep : ℕ) (p : Power) → ValidPower known deep p → FormedPower p
  power_formed known deep (plain o) v = operand_formed known deep o v
  power_formed known deep (raised o w) v = (operand_formed known deep o v.0, v.2)

  term_formed : (known : Declarations) (deep : ℕ) (x : Term) → ValidTerm known deep x → FormedTerm x
  term_formed known deep (single p) v = power_formed known deep p v
  term_formed known deep (times x p) v = (term_formed known deep x v.0, power_formed known deep p v.1)

  pub sum_formed : (known : Declarations) (deep : ℕ) (x : Sum) → ValidSum known deep x → FormedSum x
  sum_formed known deep (bare y) v = term_formed known deep y v
  sum_formed known deep (positive y) v = term_formed known deep y v
  sum_formed known deep (negative y) v = term_formed known deep y v
  sum_formed known deep (plus x y) v = (sum_formed known deep x v.0, term_formed known deep y v.1)
  sum_formed known deep (minus x y) v = (sum_formed known deep x v.0, term_formed known deep y v.1)
