-- The causes of refusals: which tokens are refused where one is in a script, and why. Where a token has several, the row that
-- stands higher is the cause.
use Rattle.std.specs.Prelude.{◌≡◌, ◌⊎◌, ℕ, ◌+◌, ◌≤◌, ◌<◌, ◌%◌, Bool, true, false, ◌&&◌, List, [], ◌∷◌, length, codes}
use Rattle.local_order.specs.Limits.{max_degree, max_exponent, max_generators, max_monomials}
use Rattle.script_grammar.specs.Limits.{max_commands, max_depth, max_names}
use Rattle.std.specs.List.{list_any}
use Rattle.prime_field.specs.Decimal.{value_of}
use Rattle.prime_field.specs.Prime.{InTable}
use Rattle.local_order.specs.Count.{monomial_count}
use Rattle.script_grammar.specs.declared.refusal.ReadKind.{ReadKind}
use Rattle.script_grammar.specs.declared.refusal.ReadKind.TheVariants.{BadByte, EndOfInput, MissingNoether, TooManyCommands, Expected, NotAPrime, TooManyVariables, NameClash, TooManyNames, UnknownName, ExponentTooLarge, ZeroDivisor, TooDeep, NoetherDegree, TooManyMonomials, TooManyGenerators}
use Rattle.script_grammar.specs.declared.refusal.What.{What}
use Rattle.script_grammar.specs.declared.refusal.What.TheVariants as whats
use Rattle.script_grammar.specs.Tokens.{Token, Place, word, text, mark, bad, end, cut}
use Rattle.script_grammar.specs.Words.{is_numeral, is_same, is_one_of, keywords, is_named, is_short, has_letter, has_large, is_the_mark, is_the_word, is_word, word_of}
use Rattle.script_grammar.specs.Trees.{short_word, raised_letter, Monomial, factor, product, monomial_tokens, one}
use Rattle.script_grammar.specs.Expressions.{Declarations}
use Rattle.script_grammar.specs.Statements.{begins_remark, is_letter_word, letter_of, degree_of, clashes}
use Rattle.script_grammar.specs.Script.{begins_later, command_of, is_some_command}
use Rattle.script_grammar.specs.Valid.{Stand, ValidFactors, IsOneOf}
use Rattle.script_grammar.specs.Places.{IsToken}
use Rattle.script_grammar.specs.Spots.{Spot, the_ring, the_noether, a_statement, just, the_ring_name, the_characteristic, a_variable, behind_variable, a_factor, behind_monomial, a_new_name, a_name_of, an_operand, the_divisor, an_exponent, behind_power, behind_jacobian, no_room, SpotInSum, BeforeMember, InNoether, Here}

-- ---- tests of a token
-- a word that begins with a letter; a numeral; one letter; the word of a command
abbrev pub is_name : Token → Bool
is_name i = is_word i && is_named (word_of i)

abbrev pub is_number : Token → Bool
is_number i = is_word i && is_numeral (word_of i)

abbrev pub is_letter_token : Token → Bool
is_letter_token i = is_word i && is_letter_word (word_of i)

abbrev pub is_command : Token → Bool
is_command i = is_some_command (command_of i)

-- a word that names nothing which may stand in an expression: a keyword, or no numeral, no poly's name and no short monomial
abbrev pub IsUnknown : Declarations → List ℕ → Type 0
IsUnknown known w = (is_one_of keywords w ≡ true) ⊎ ((is_numeral w ≡ false) × (is_one_of known.polys w ≡ false) × (is_short known.letters w ≡ false))

-- a short monomial, where its word is nothing else, with an exponent above 1,000
abbrev pub IsLarge : Declarations → List ℕ → Type 0
IsLarge known w = (is_one_of keywords w ≡ false) × (is_numeral w ≡ false) × (is_one_of known.polys w ≡ false) × (is_short known.letters w ≡ true) × (has_large w ≡ true)

-- a word that an operand may begin with: a numeral, a poly's name, a short monomial with small exponents
abbrev pub IsOperand : Declarations → List ℕ → Type 0
IsOperand known w = (is_numeral w ≡ true) ⊎ (is_one_of keywords w ≡ false) × ((is_one_of known.polys w ≡ true) ⊎ (is_short known.letters w ≡ true) × (has_large w ≡ false))

-- ---- another token than those that may stand there, by what must stand
abbrev pub Lacks : Token → Token → Token → Type 0
Lacks i j token = (i ≡ j) × (token ≡ j → ⊥)

abbrev pub NoNumeral : Spot → Token → Type 0
NoNumeral the_characteristic token = is_number token ≡ false
NoNumeral the_divisor token = is_number token ≡ false
NoNumeral an_exponent token = is_number token ≡ false
NoNumeral spot token = ⊥

abbrev pub NoOperator : Spot → Token → Type 0
NoOperator behind_monomial token = (is_the_mark 42 token ≡ false) × (is_the_mark 59 token ≡ false)
NoOperator (behind_power ends) token = (is_the_mark 43 token ≡ false) × (is_the_mark 45 token ≡ false) × (is_the_mark 42 token ≡ false) × (list_any (λ m. is_the_mark m token) ends ≡ false)
NoOperator behind_jacobian token = (is_the_mark 44 token ≡ false) × (is_the_mark 59 token ≡ false)
NoOperator spot token = ⊥

abbrev pub NoOperand : Spot → Token → Type 0
NoOperand (an_operand sign deep) token = (is_word token ≡ false) × (is_the_mark 40 token ≡ false) × (sign ≡ true → (is_the_mark 43 token ≡ false) × (is_the_mark 45 token ≡ false))
NoOperand no_room token = (is_word token ≡ false) × (is_the_mark 40 token ≡ false) × (is_the_mark 43 token ≡ false) × (is_the_mark 45 token ≡ false)
NoOperand spot token = ⊥

-- the mark, word or string that alone may stand at a spot, where it is this one
abbrev pub LacksJust : Token → Spot → Token → Type 0
LacksJust i (just j) token = Lacks i j token
LacksJust i spot token = ⊥

abbrev pub NoName : Spot → Token → Type 0
NoName the_ring_name token = is_name token ≡ false
NoName a_new_name token = is_name token ≡ false
NoName spot token = ⊥

abbrev pub NoComma : Spot → Token → Type 0
NoComma (just j) token = Lacks (mark 44) j token
NoComma behind_variable token = (is_the_mark 44 token ≡ false) × (is_the_mark 41 token ≡ false)
NoComma spot token = ⊥

abbrev pub NoVariable : Spot → Token → Type 0
NoVariable a_variable token = is_letter_token token ≡ false
NoVariable spot token = ⊥

abbrev pub NoFactor : Spot → Token → Type 0
NoFactor a_factor token = is_name token ≡ false
NoFactor spot token = ⊥

abbrev pub NoArgument : Spot → Token → Type 0
NoArgument (a_name_of names) token = is_name token ≡ false
NoArgument spot token = ⊥

abbrev pub NoRing : Spot → Token → Type 0
NoRing the_ring token = (begins_remark token ≡ false) × (is_the_word (codes "ring") token ≡ false)
NoRing spot token = ⊥

abbrev pub NoNoether : Spot → Token → Type 0
NoNoether the_noether token = (begins_remark token ≡ false) × (is_the_word (codes "noether") token ≡ false) × (begins_later token ≡ false)
NoNoether spot token = ⊥

abbrev pub NoStatement : Spot → Token → Type 0
NoStatement (a_statement count) token = (begins_remark token ≡ false) × (begins_later token ≡ false)
NoStatement spot token = ⊥

abbrev pub Wanted : What → Spot → Token → Type 0
Wanted whats.Ring = NoRing
Wanted whats.Noether = NoNoether
Wanted whats.Statement = NoStatement
Wanted whats.Name = NoName
Wanted whats.Equals = LacksJust (mark 61)
Wanted whats.Open = LacksJust (mark 40)
Wanted whats.Close = LacksJust (mark 41)
Wanted whats.Semicolon = LacksJust (mark 59)
Wanted whats.Comma = NoComma
Wanted whats.Numeral = NoNumeral
Wanted whats.Variable = NoVariable
Wanted whats.Order = LacksJust (word (codes "ds"))
Wanted whats.RedSb = LacksJust (word (codes "redSB"))
Wanted whats.Library = LacksJust (text (codes "sing.lib"))
Wanted whats.Monomial = NoFactor
Wanted whats.Operand = NoOperand
Wanted whats.Operator = NoOperator
Wanted whats.Argument = NoArgument

-- ---- the other kinds
-- the input may end at a statement, behind a command
abbrev pub MayNotEnd : Spot → Token → Type 0
MayNotEnd (a_statement count) token = (token ≡ cut) ⊎ ((token ≡ end) × (count ≡ 0))
MayNotEnd spot token = (token ≡ cut) ⊎ (token ≡ end)

abbrev pub IsEarly : Spot → Token → Type 0
IsEarly the_noether token = begins_later token ≡ true
IsEarly spot token = ⊥

abbrev pub IsCommand65 : Spot → Token → Type 0
IsCommand65 (a_statement count) token = (is_command token ≡ true) × (count ≡ max_commands)
IsCommand65 spot token = ⊥

abbrev pub IsNoPrime : Spot → Token → Type 0
IsNoPrime the_characteristic token = (is_number token ≡ true) × (InTable (value_of (word_of token)) → ⊥)
IsNoPrime spot token = ⊥

abbrev pub IsVariable9 : Declarations → Spot → Token → Type 0
IsVariable9 known a_variable token = (is_letter_token token ≡ true) × (length known.letters ≡ 8)
IsVariable9 known spot token = ⊥

-- a declared word that is taken
abbrev pub IsTaken : Declarations → Spot → Token → Type 0
IsTaken known the_ring_name token = (is_name token ≡ true) × (is_one_of keywords (word_of token) ≡ true)
IsTaken known a_variable token = (is_letter_token token ≡ true) × (length known.letters < 8) × ((has_letter known.letters (letter_of (word_of token)) ≡ true) ⊎ (is_same known.ring (word_of token) ≡ true))
IsTaken known a_new_name token = (is_name token ≡ true) × (clashes known (word_of token) ≡ true)
IsTaken known spot token = ⊥

abbrev pub IsName65 : Declarations → Spot → Token → Type 0
IsName65 known a_new_name token = (is_name token ≡ true) × (clashes known (word_of token) ≡ false) × (max_names ≤ length known.polys + length known.ideals)
IsName65 known spot token = ⊥

abbrev pub IsUnknownThere : Declarations → Spot → Token → Type 0
IsUnknownThere known (a_name_of names) token = (is_name token ≡ true) × (is_one_of names (word_of token) ≡ false)
IsUnknownThere known (an_operand sign deep) token = (is_word token ≡ true) × IsUnknown known (word_of token)
IsUnknownThere known no_room token = (is_word token ≡ true) × IsUnknown known (word_of token)
IsUnknownThere known a_factor token = (is_name token ≡ true) × (is_short known.letters (word_of token) ≡ false)
IsUnknownThere known spot token = ⊥

abbrev pub IsLargeThere : Declarations → Spot → Token → Type 0
IsLargeThere known an_exponent token = (is_number token ≡ true) × (max_exponent < value_of (word_of token))
IsLargeThere known (an_operand sign deep) token = (is_word token ≡ true) × IsLarge known (word_of token)
IsLargeThere known no_room token = (is_word token ≡ true) × IsLarge known (word_of token)
IsLargeThere known a_factor token = (is_name token ≡ true) × (is_short known.letters (word_of token) ≡ true) × (has_large (word_of token) ≡ true)
IsLargeThere known spot token = ⊥

abbrev pub IsZero : Declarations → Spot → Token → Type 0
IsZero known the_divisor token = (is_number token ≡ true) × (value_of (word_of token) % known.prime ≡ 0)
IsZero known spot token = ⊥

abbrev pub IsParenthesis33 : Spot → Token → Type 0
IsParenthesis33 (an_operand sign deep) token = (token ≡ mark 40) × (deep ≡ max_depth)
IsParenthesis33 spot token = ⊥

abbrev pub HasNoRoom : Declarations → Spot → Token → Type 0
HasNoRoom known no_room token = ((is_word token ≡ true) × IsOperand known (word_of token)) ⊎ (token ≡ mark 40) ⊎ (token ≡ mark 43) ⊎ (token ≡ mark 45)
HasNoRoom known spot token = ⊥

-- the token that stands at a spot is refused, and this is why
abbrev pub IsCause : ReadKind → Declarations → Spot → Token → Type 0
IsCause BadByte known spot token = token ≡ bad
IsCause EndOfInput known spot token = MayNotEnd spot token
IsCause MissingNoether known spot token = IsEarly spot token
IsCause TooManyCommands known spot token = IsCommand65 spot token
IsCause (Expected what) known spot token = IsToken token × Wanted what spot token
IsCause NotAPrime known spot token = IsNoPrime spot token
IsCause TooManyVariables known spot token = IsVariable9 known spot token
IsCause NameClash known spot token = IsTaken known spot token
IsCause TooManyNames known spot token = IsName65 known spot token
IsCause UnknownName known spot token = IsUnknownThere known spot token
IsCause ExponentTooLarge known spot token = IsLargeThere known spot token
IsCause ZeroDivisor known spot token = IsZero known spot token
IsCause TooDeep known spot token = IsParenthesis33 spot token
IsCause NoetherDegree known spot token = ⊥
IsCause (TooManyMonomials n) known spot token = ⊥
IsCause TooManyGenerators known spot token = HasNoRoom known spot token

-- ---- what is known only behind the place that is named
-- no factor and no exponent goes on with the monomial
abbrev pub ends_in_letter : Monomial → Bool
ends_in_letter (factor (short_word w)) = is_letter_word w
ends_in_letter (factor (raised_letter w digits)) = false
ends_in_letter (product m (short_word w)) = is_letter_word w
ends_in_letter (product m (raised_letter w digits)) = false

-- the noether monomial stands at a place behind these tokens, whole
pub record IsWholeMonomial (known : Declarations) (before : List Token) (place : Place) (m : Monomial) : Type 0 where
  pub here : InNoether known [] before
  pub behind : Place
  pub stand : Stand place (monomial_tokens m) behind
  pub valid : ValidFactors known.letters m
  pub no_factor : is_the_mark 42 behind.token ≡ false
  pub no_exponent : (ends_in_letter m && is_the_mark 94 behind.token) ≡ false

abbrev pub IsLateCause : ReadKind → Declarations → List Token → Place → Type 0
IsLateCause NoetherDegree known before place = (m : Monomial) × IsWholeMonomial known before place m × ((degree_of m ≡ 0) ⊎ (max_degree < degree_of m))
IsLateCause (TooManyMonomials n) known before place =
    (m : Monomial) × IsWholeMonomial known before place m × (1 ≤ degree_of m) × (degree_of m ≤ max_degree) × (n ≡ monomial_count (length known.letters) (degree_of m)) × (max_monomials < n)
IsLateCause TooManyGenerators known before place =
    (gens : ℕ) × (name : List ℕ) × (behind : Place) × BeforeMember known gens before × Stand place (word (codes "jacob") ∷ mark 40 ∷ one (word name)) behind × IsOneOf known.polys name × (max_generators < gens + length known.letters)
IsLateCause kind known before place = ⊥

-- The cause of a refusal of this kind at a place, behind these tokens: the token that stands there, or what stands from there on.
abbrev pub HasCause : ReadKind → List Token → Place → Type 0
HasCause kind before place = (known : Declarations) × (((spot : Spot) × Here known spot before × IsCause kind known spot place.token) ⊎ IsLateCause kind known before place)

-- the same in an expression
abbrev pub HasCauseInSum : ReadKind → Declarations → List Token → Place → Type 0
HasCauseInSum kind known before place = (spot : Spot) × SpotInSum spot before × IsCause kind known spot place.token
