-- The tokens of a tree are words, strings and marks.
-- By cases on each part of the tree, and by induction where a part has parts of its own kind.
use Rattle.std.proofs.Common.{◌≡◌, false, List, [], ◌∷◌, ◌++◌, ap}
use Rattle.std.specs.List.{flat_map}
use Rattle.script_grammar.specs.Tokens.{Token, word, text, mark, bad, end, cut}
use Rattle.script_grammar.specs.Trees.{Operand, number, fraction, named, inside, operand_tokens, Power, plain, raised, power_tokens, Term, single, times, term_tokens, Sum, bare, positive, negative, plus, minus, sum_tokens, Remark, option, library, remark_tokens, Variables, alone, listed, variables_tokens, Ring, ring_tokens, Factor, short_word, raised_letter, factor_tokens, Monomial, factor, product, monomial_tokens, noether_tokens, Member, generator, jacobian, member_tokens, Members, only, more, members_tokens, Statement, remark, poly, again, ideal, command, command_std, statement_tokens, Tree, tree_tokens, one}
use Rattle.script_grammar.specs.Places.{is_last, IsToken}
use Rattle.script_grammar.proofs.ReadRingIsValid.{more_letter}

abbrev pub AreTokens : List Token → Type 0
AreTokens [] = Unit {0}
AreTokens (i ∷ tokens) = IsToken i × AreTokens tokens

pub AreTokens-append : (a b : List Token) → AreTokens a → AreTokens b → AreTokens (a ++ b)
AreTokens-append [] b h k = k
AreTokens-append (i ∷ a) b h k = (h.0, AreTokens-append a b h.1 k)

-- The first of some tokens are tokens.
pub AreTokens-front : (a b : List Token) → AreTokens (a ++ b) → AreTokens a
AreTokens-front [] b h = tt
AreTokens-front (i ∷ a) b h = (h.0, AreTokens-front a b h.1)

-- A token is none of the ends.
pub token_no_last : (i j : Token) → i ≡ j → IsToken j → is_last i ≡ false
token_no_last i (word w) e h = ap is_last e
token_no_last i (text w) e h = ap is_last e
token_no_last i (mark m) e h = ap is_last e
token_no_last i bad e h = absurd h
token_no_last i end e h = absurd h
token_no_last i cut e h = absurd h

pub AreTokens-flat_map : {A : Type 0} (f : A → List Token) → ((x : A) → AreTokens (f x)) → (xs : List A) → AreTokens (flat_map f xs)
AreTokens-flat_map f each [] = tt
AreTokens-flat_map f each (x ∷ xs) = AreTokens-append (f x) (flat_map f xs) (each x) (AreTokens-flat_map f each xs)

mutual
  unfolding operand_tokens power_tokens term_tokens sum_tokens

  pub AreTokens-operand : (o : Operand) → AreTokens (operand_tokens o)
  AreTokens-operand (number digits) = (tt, tt)
  AreTokens-operand (fraction digits below) = (tt, (tt, (tt, tt)))
  AreTokens-operand (named w) = (tt, tt)
  AreTokens-operand (inside s) = (tt, AreTokens-append (sum_tokens s) (one (mark 41)) (AreTokens-sum s) (tt, tt))

  pub AreTokens-power : (x : Power) → AreTokens (power_tokens x)
  AreTokens-power (plain o) = AreTokens-operand o
  AreTokens-power (raised o digits) = AreTokens-append (operand_tokens o) (mark 94 ∷ one (word digits)) (AreTokens-operand o) (tt, (tt, tt))

  pub AreTokens-term : (x : Term) → AreTokens (term_tokens x)
  AreTokens-term (single z) = AreTokens-power z
  AreTokens-term (times y z) = AreTokens-append (term_tokens y) (mark 42 ∷ power_tokens z) (AreTokens-term y) (tt, AreTokens-power z)

  pub AreTokens-sum : (x : Sum) → AreTokens (sum_tokens x)
  AreTokens-sum (bare y) = AreTokens-term y
  AreTokens-sum (positive y) = (tt, AreTokens-term y)
  AreTokens-sum (negative y) = (tt, AreTokens-term y)
  AreTokens-sum (plus y z) = AreTokens-append (sum_tokens y) (mark 43 ∷ term_tokens z) (AreTokens-sum y) (tt, AreTokens-term z)
  AreTokens-sum (minus y z) = AreTokens-append (sum_tokens y) (mark 45 ∷ term_tokens z) (AreTokens-sum y) (tt, AreTokens-term z)

pub AreTokens-remark : (r : Remark) → AreTokens (remark_tokens r)
AreTokens-remark option = (tt, (tt, (tt, (tt, (tt, tt)))))
AreTokens-remark library = (tt, (tt, (tt, tt)))

pub AreTokens-variables : (v : Variables) → AreTokens (variables_tokens v)
AreTokens-variables (alone l) = (tt, tt)
AreTokens-variables (listed l letters) = (tt, (tt, AreTokens-append (flat_map more_letter letters) (one (mark 41)) (AreTokens-flat_map more_letter (λ k. (tt, (tt, tt))) letters) (tt, tt)))

pub AreTokens-ring : (r : Ring) → AreTokens (ring_tokens r)
AreTokens-ring r = (tt, (tt, (tt, (tt, (tt, AreTokens-append (variables_tokens r.variables) _ (AreTokens-variables r.variables) (tt, (tt, (tt, tt))))))))

pub AreTokens-factor : (f : Factor) → AreTokens (factor_tokens f)
AreTokens-factor (short_word w) = (tt, tt)
AreTokens-factor (raised_letter w digits) = (tt, (tt, (tt, tt)))

pub AreTokens-monomial : (m : Monomial) → AreTokens (monomial_tokens m)
AreTokens-monomial (factor f) = AreTokens-factor f
AreTokens-monomial (product m f) = AreTokens-append (monomial_tokens m) (mark 42 ∷ factor_tokens f) (AreTokens-monomial m) (tt, AreTokens-factor f)

pub AreTokens-noether : (m : Monomial) → AreTokens (noether_tokens m)
AreTokens-noether m = (tt, (tt, AreTokens-append (monomial_tokens m) (one (mark 59)) (AreTokens-monomial m) (tt, tt)))

pub AreTokens-member : (m : Member) → AreTokens (member_tokens m)
AreTokens-member (generator s) = AreTokens-sum s
AreTokens-member (jacobian name) = (tt, (tt, (tt, (tt, tt))))

pub AreTokens-members : (ms : Members) → AreTokens (members_tokens ms)
AreTokens-members (only m) = AreTokens-member m
AreTokens-members (more ms m) = AreTokens-append (members_tokens ms) (mark 44 ∷ member_tokens m) (AreTokens-members ms) (tt, AreTokens-member m)

pub AreTokens-statement : (s : Statement) → AreTokens (statement_tokens s)
AreTokens-statement (remark r) = AreTokens-remark r
AreTokens-statement (poly name s) = (tt, (tt, (tt, AreTokens-append (sum_tokens s) (one (mark 59)) (AreTokens-sum s) (tt, tt))))
AreTokens-statement (again name other) = (tt, (tt, (tt, (tt, (tt, (tt, (tt, (tt, tt))))))))
AreTokens-statement (ideal name ms) = (tt, (tt, (tt, AreTokens-append (members_tokens ms) (one (mark 59)) (AreTokens-members ms) (tt, tt))))
AreTokens-statement (command w name) = (tt, (tt, (tt, (tt, (tt, tt)))))
AreTokens-statement (command_std w name) = (tt, (tt, (tt, (tt, (tt, (tt, (tt, (tt, tt))))))))

pub AreTokens-tree : (t : Tree) → AreTokens (tree_tokens t)
AreTokens-tree t =
    AreTokens-append (flat_map remark_tokens t.before) _ (AreTokens-flat_map remark_tokens AreTokens-remark t.before)
    (AreTokens-append (ring_tokens t.ring) _ (AreTokens-ring t.ring)
    (AreTokens-append (flat_map remark_tokens t.between) _ (AreTokens-flat_map remark_tokens AreTokens-remark t.between)
    (AreTokens-append (noether_tokens t.noether) _ (AreTokens-noether t.noether) (AreTokens-flat_map statement_tokens AreTokens-statement t.statements))))
