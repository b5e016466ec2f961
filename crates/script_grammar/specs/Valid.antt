-- Which bytes are a script of which tree: its tokens are spelled, each word is of its kind, each name is declared before it is
-- used, and the limits hold.
use Rattle.std.specs.Prelude.{◌≡◌, ◌≢◌, ℕ, suc, ◌+◌, ◌≤◌, ◌<◌, ◌%◌, Bool, true, false, not, ◌&&◌, ◌||◌, List, [], ◌∷◌, length, if◌then◌else◌}
use Rattle.local_order.specs.Limits.{max_degree, max_exponent, max_generators, max_monomials}
use Rattle.script_grammar.specs.Limits.{max_commands, max_depth, max_names}
use Rattle.prime_field.specs.Decimal.{value_of}
use Rattle.prime_field.specs.Prime.{InTable}
use Rattle.local_order.specs.Count.{monomial_count}
use Rattle.script_grammar.specs.Tokens.{is_letter, Token, Place, next, end}
use Rattle.script_grammar.specs.Words.{is_numeral, is_same, is_one_of, keywords, is_named, is_short, has_large, has_letter}
use Rattle.script_grammar.specs.Trees.{Operand, number, fraction, named, inside, Power, plain, raised, Term, single, times, Sum, bare, positive, negative, plus, minus, Ring, Factor, short_word, raised_letter, Monomial, factor, product, Member, generator, jacobian, Members, only, more, Statement, remark, poly, again, ideal, command, command_std, Tree, tree_tokens}
use Rattle.script_grammar.specs.Expressions.{Declarations, takes_exponent}
use Rattle.script_grammar.specs.Statements.{letters_of, degree_of, clashes, count_of, is_on_poly}
use Rattle.script_grammar.specs.Script.{after, commands_in}

-- these tokens stand one after the other from the place t on, and u is the place behind them
abbrev pub Stand : Place → List Token → Place → Type 0
Stand t [] u = t ≡ u
Stand t (token ∷ tokens) u = (t.token ≡ token) × Stand (next t.rest) tokens u

-- no numeral and no keyword, but a poly's name, or a short monomial without an exponent above 1,000
abbrev pub is_operand_word : Declarations → List ℕ → Bool
is_operand_word known w = not (is_numeral w) && (not (is_one_of keywords w) && (is_one_of known.polys w || (is_short known.letters w && not (has_large w))))

-- a valid expression, where so many more parentheses may be open at once
abbrev mutual
  pub ValidOperand : Declarations → ℕ → Operand → Type 0
  ValidOperand known deep (number digits) = is_numeral digits ≡ true
  ValidOperand known deep (fraction digits below) = (is_numeral digits ≡ true) × (is_numeral below ≡ true) × (value_of below % known.prime ≢ 0)
  ValidOperand known deep (named w) = is_operand_word known w ≡ true
  ValidOperand known deep (inside sum) = (fewer : ℕ) × (deep ≡ suc fewer) × ValidSum known fewer sum

  pub ValidPower : Declarations → ℕ → Power → Type 0
  ValidPower known deep (plain operand) = ValidOperand known deep operand
  ValidPower known deep (raised operand digits) = ValidOperand known deep operand × (takes_exponent known operand ≡ true) × (is_numeral digits ≡ true) × (value_of digits ≤ max_exponent)

  pub ValidTerm : Declarations → ℕ → Term → Type 0
  ValidTerm known deep (single power) = ValidPower known deep power
  ValidTerm known deep (times term power) = ValidTerm known deep term × ValidPower known deep power

  pub ValidSum : Declarations → ℕ → Sum → Type 0
  ValidSum known deep (bare term) = ValidTerm known deep term
  ValidSum known deep (positive term) = ValidTerm known deep term
  ValidSum known deep (negative term) = ValidTerm known deep term
  ValidSum known deep (plus sum term) = ValidSum known deep sum × ValidTerm known deep term
  ValidSum known deep (minus sum term) = ValidSum known deep sum × ValidTerm known deep term

-- letters that differ from each other and from the ring's name
abbrev pub AreVariables : List ℕ → List ℕ → Type 0
AreVariables ring [] = Unit {0}
AreVariables ring (l ∷ letters) = (is_letter l ≡ true) × (has_letter letters l ≡ false) × (is_same ring (l ∷ []) ≡ false) × AreVariables ring letters

-- a ring over a field of the table, in at most 8 variables
pub record ValidRing (r : Ring) : Type 0 where
  pub name : (is_named r.name ≡ true) × (is_one_of keywords r.name ≡ false)
  pub prime : (is_numeral r.prime ≡ true) × InTable (value_of r.prime)
  pub count : length (letters_of r.variables) ≤ 8
  pub letters : AreVariables r.name (letters_of r.variables)

-- a word or a letter with an exponent, in the ring's variables and without an exponent above 1,000
abbrev pub ValidFactor : List ℕ → Factor → Type 0
ValidFactor letters (short_word w) = (is_named w ≡ true) × (is_short letters w ≡ true) × (has_large w ≡ false)
ValidFactor letters (raised_letter w digits) = (is_named w ≡ true) × (length w ≡ 1) × (is_short letters w ≡ true) × (is_numeral digits ≡ true) × (value_of digits ≤ max_exponent)

abbrev pub ValidFactors : List ℕ → Monomial → Type 0
ValidFactors letters (factor f) = ValidFactor letters f
ValidFactors letters (product m f) = ValidFactors letters m × ValidFactor letters f

-- a monomial of a degree from 1 to 255, which at most 4,096 monomials do not exceed
pub record ValidNoether (letters : List ℕ) (m : Monomial) : Type 0 where
  pub factors : ValidFactors letters m
  pub degree : (1 ≤ degree_of m) × (degree_of m ≤ max_degree)
  pub count : monomial_count (length letters) (degree_of m) ≤ max_monomials

-- a name that may be declared: it is not taken, and there are fewer than 64
pub record IsNew (known : Declarations) (w : List ℕ) : Type 0 where
  pub named : is_named w ≡ true
  pub free : clashes known w ≡ false
  pub room : length known.polys + length known.ideals < max_names

-- a word that is one of these names
abbrev pub IsOneOf : List (List ℕ) → List ℕ → Type 0
IsOneOf names w = (is_named w ≡ true) × (is_one_of names w ≡ true)

-- ---- statements, behind what is known and so many commands
abbrev pub ValidMember : Declarations → Member → Type 0
ValidMember known (generator sum) = ValidSum known max_depth sum
ValidMember known (jacobian name) = IsOneOf known.polys name

abbrev pub ValidMembers : Declarations → Members → Type 0
ValidMembers known (only m) = ValidMember known m
ValidMembers known (more ms m) = ValidMembers known ms × ValidMember known m

abbrev pub ValidStatement : Declarations → ℕ → Statement → Type 0
ValidStatement known count (remark r) = Unit {0}
ValidStatement known count (poly name sum) = IsNew known name × ValidSum known max_depth sum
ValidStatement known count (again name other) = IsNew known name × IsOneOf known.ideals other
ValidStatement known count (ideal name members) = IsNew known name × ValidMembers known members × (count_of known members ≤ max_generators)
ValidStatement known count (command w name) = (count < max_commands) × IsOneOf (if is_on_poly w then known.polys else known.ideals) name
ValidStatement known count (command_std w name) = (count < max_commands) × (is_on_poly w ≡ false) × IsOneOf known.ideals name

-- each statement is valid behind those before it, and one of them or more is a command
abbrev pub ValidStatements : Declarations → ℕ → List Statement → Type 0
ValidStatements known count [] = 1 ≤ count
ValidStatements known count (s ∷ statements) = ValidStatement known count s × ValidStatements (after known s) (count + commands_in s) statements

-- what the ring declares
abbrev pub first_known : Ring → Declarations
first_known r = record { ring = r.name; prime = value_of r.prime; letters = letters_of r.variables; polys = []; ideals = [] }

-- the rules on a whole tree
pub record IsValid (t : Tree) : Type 0 where
  pub ring : ValidRing t.ring
  pub noether : ValidNoether (letters_of t.ring.variables) t.noether
  pub statements : ValidStatements (first_known t.ring) 0 t.statements

-- the bytes spell the tree, with any blanks and comments between its tokens, and nothing else
abbrev pub SpellsTree : List ℕ → Tree → Type 0
SpellsTree bytes t = (u : Place) × Stand (next bytes) (tree_tokens t) u × (u.token ≡ end)

-- the bytes are a script of the grammar, with this tree
abbrev pub IsScript : List ℕ → Tree → Type 0
IsScript bytes t = SpellsTree bytes t × IsValid t
