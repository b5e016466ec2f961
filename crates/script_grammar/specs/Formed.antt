-- Which trees have the shape of a script: each word is of its kind, and a command is among the statements. Names need not be
-- declared, and no limit need hold.
use Rattle.std.specs.Prelude.{◌≡◌, ℕ, ◌+◌, ◌≤◌, true, false, List, [], ◌∷◌, length}
use Rattle.std.specs.List.{list_all}
use Rattle.script_grammar.specs.Tokens.{is_letter}
use Rattle.script_grammar.specs.Words.{is_numeral, is_one_of, keywords, is_named}
use Rattle.script_grammar.specs.Trees.{Operand, number, fraction, named, inside, Power, plain, raised, Term, single, times, Sum, bare, positive, negative, plus, minus, Ring, Factor, short_word, raised_letter, Monomial, factor, product, Member, generator, jacobian, Members, only, more, Statement, remark, poly, again, ideal, command, command_std, Tree}
use Rattle.script_grammar.specs.Statements.{letters_of, is_on_poly}
use Rattle.script_grammar.specs.Script.{commands_in}

-- ---- expressions
abbrev mutual
  pub FormedOperand : Operand → Type 0
  FormedOperand (number digits) = is_numeral digits ≡ true
  FormedOperand (fraction digits below) = (is_numeral digits ≡ true) × (is_numeral below ≡ true)
  FormedOperand (named w) = (is_numeral w ≡ false) × (is_one_of keywords w ≡ false)
  FormedOperand (inside sum) = FormedSum sum

  pub FormedPower : Power → Type 0
  FormedPower (plain operand) = FormedOperand operand
  FormedPower (raised operand digits) = FormedOperand operand × (is_numeral digits ≡ true)

  pub FormedTerm : Term → Type 0
  FormedTerm (single power) = FormedPower power
  FormedTerm (times term power) = FormedTerm term × FormedPower power

  pub FormedSum : Sum → Type 0
  FormedSum (bare term) = FormedTerm term
  FormedSum (positive term) = FormedTerm term
  FormedSum (negative term) = FormedTerm term
  FormedSum (plus sum term) = FormedSum sum × FormedTerm term
  FormedSum (minus sum term) = FormedSum sum × FormedTerm term

-- ---- the ring and the noether monomial
pub record FormedRing (r : Ring) : Type 0 where
  pub name : is_named r.name ≡ true
  pub prime : is_numeral r.prime ≡ true
  pub letters : list_all is_letter (letters_of r.variables) ≡ true

abbrev pub FormedFactor : Factor → Type 0
FormedFactor (short_word w) = is_named w ≡ true
FormedFactor (raised_letter w digits) = (is_named w ≡ true) × (length w ≡ 1) × (is_numeral digits ≡ true)

abbrev pub FormedMonomial : Monomial → Type 0
FormedMonomial (factor f) = FormedFactor f
FormedMonomial (product m f) = FormedMonomial m × FormedFactor f

-- ---- statements
abbrev pub FormedMember : Member → Type 0
FormedMember (generator sum) = FormedSum sum
FormedMember (jacobian name) = is_named name ≡ true

abbrev pub FormedMembers : Members → Type 0
FormedMembers (only m) = FormedMember m
FormedMembers (more ms m) = FormedMembers ms × FormedMember m

abbrev pub FormedStatement : Statement → Type 0
FormedStatement (remark r) = Unit {0}
FormedStatement (poly name sum) = (is_named name ≡ true) × FormedSum sum
FormedStatement (again name other) = (is_named name ≡ true) × (is_named other ≡ true)
FormedStatement (ideal name members) = (is_named name ≡ true) × FormedMembers members
FormedStatement (command w name) = is_named name ≡ true
FormedStatement (command_std w name) = (is_on_poly w ≡ false) × (is_named name ≡ true)

-- statements behind so many commands
abbrev pub FormedStatements : ℕ → List Statement → Type 0
FormedStatements count [] = 1 ≤ count
FormedStatements count (s ∷ statements) = FormedStatement s × FormedStatements (count + commands_in s) statements

-- the shape of a script
pub record IsFormed (t : Tree) : Type 0 where
  pub ring : FormedRing t.ring
  pub noether : FormedMonomial t.noether
  pub statements : FormedStatements 0 t.statements
