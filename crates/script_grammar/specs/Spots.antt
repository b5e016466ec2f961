-- Where one is in a script, behind some tokens: which part must come next. All that stands before keeps the rules.
use Rattle.std.specs.Prelude.{◌≡◌, ◌⊎◌, ℕ, ◌+◌, ◌≤◌, ◌<◌, Bool, true, false, ◌||◌, List, [], ◌∷◌, ◌++◌, length, codes, if◌then◌else◌}
use Rattle.local_order.specs.Limits.{max_generators, max_variables}
use Rattle.script_grammar.specs.Limits.{max_commands, max_depth}
use Rattle.std.specs.List.{flat_map}
use Rattle.prime_field.specs.Decimal.{value_of}
use Rattle.prime_field.specs.Prime.{InTable}
use Rattle.script_grammar.specs.declared.script.Word.{Word}
use Rattle.script_grammar.specs.Tokens.{Token, word, text, mark, bad, end, cut}
use Rattle.script_grammar.specs.Words.{is_numeral, is_one_of, keywords, is_named, is_short, is_the_mark}
use Rattle.script_grammar.specs.Trees.{Remark, remark_tokens, Variables, Ring, ring_tokens, variables_tokens, Monomial, monomial_tokens, Sum, sum_tokens, Members, members_tokens, Statement, command_word, Tree, tree_tokens, one}
use Rattle.script_grammar.specs.Expressions.{Declarations}
use Rattle.script_grammar.specs.Statements.{letters_of, count_of, is_on_poly}
use Rattle.script_grammar.specs.Script.{after, commands_in}
use Rattle.script_grammar.specs.Valid.{AreVariables, ValidRing, ValidFactors, ValidNoether, IsNew, IsOneOf, ValidMembers, ValidSum, ValidStatement, first_known}

-- What must come next.
pub data Spot : Type 0 where
  -- the ring statement; the noether statement; a later statement, behind so many commands; or a remark before each
  the_ring : Spot
  the_noether : Spot
  a_statement : ℕ → Spot
  -- just this token
  just : Token → Spot
  the_ring_name : Spot
  the_characteristic : Spot
  -- a variable letter; the comma or the ) behind one in parentheses
  a_variable : Spot
  behind_variable : Spot
  -- a factor of the noether monomial; what is behind the monomial
  a_factor : Spot
  behind_monomial : Spot
  -- a name that is declared; the name of something declared, one of these
  a_new_name : Spot
  a_name_of : List (List ℕ) → Spot
  -- an operand of an expression, before which a sign may stand or not, with so many parentheses open
  an_operand : Bool → ℕ → Spot
  -- the numeral behind / and behind ^
  the_divisor : Spot
  an_exponent : Spot
  -- what is behind a power, where these marks end the part
  behind_power : List ℕ → Spot
  -- what is behind jacob( )
  behind_jacobian : Spot
  -- one more member of an ideal that has 64 generators
  no_room : Spot

-- the tokens are those, and then these
abbrev pub Behind : (List Token → Type 0) → List Token → List Token → Type 0
Behind Before done tokens = (front : List Token) × Before front × (front ++ done ≡ tokens)

-- ---- in an expression
-- the last of these tokens, or ( where there are none: an expression begins as it does in parentheses
abbrev pub last_of : Token → List Token → Token
last_of i [] = i
last_of i (j ∷ tokens) = last_of j tokens

abbrev pub last_in_sum : List Token → Token
last_in_sum tokens = last_of (mark 40) tokens

-- how often this mark stands among them
abbrev pub marks : ℕ → List Token → ℕ
marks m [] = 0
marks m (i ∷ tokens) = (if is_the_mark m i then 1 else 0) + marks m tokens

-- ( + - *
abbrev pub needs_operand : Token → Bool
needs_operand i = is_the_mark 40 i || (is_the_mark 43 i || (is_the_mark 45 i || is_the_mark 42 i))

-- a word or )
abbrev pub ends_power : Token → Bool
ends_power (word w) = true
ends_power (mark m) = is_the_mark 41 (mark m)
ends_power (text w) = false
ends_power bad = false
ends_power end = false
ends_power cut = false

-- these tokens begin a valid expression
abbrev pub BeginsSum : Declarations → List Token → Type 0
BeginsSum known tokens = (x : Sum) × (behind : List Token) × (sum_tokens x ≡ tokens ++ behind) × ValidSum known max_depth x

-- where one is behind tokens that begin an expression
abbrev pub SpotInSum : Spot → List Token → Type 0
SpotInSum (an_operand sign deep) tokens = (needs_operand (last_in_sum tokens) ≡ true) × (is_the_mark 40 (last_in_sum tokens) ≡ sign) × (marks 40 tokens ≡ deep + marks 41 tokens)
SpotInSum the_divisor tokens = last_in_sum tokens ≡ mark 47
SpotInSum an_exponent tokens = last_in_sum tokens ≡ mark 94
SpotInSum (behind_power ends) tokens = (ends ≡ 41 ∷ []) × (ends_power (last_in_sum tokens) ≡ true) × (marks 41 tokens < marks 40 tokens)
SpotInSum spot tokens = ⊥

-- ---- the parts of a script
-- remarks; these, the ring statement that declares what is known, and remarks
abbrev pub BeforeRing : List Token → Type 0
BeforeRing tokens = (remarks : List Remark) × (flat_map remark_tokens remarks ≡ tokens)

abbrev pub BeforeNoether : Declarations → List Token → Type 0
BeforeNoether known tokens = (before between : List Remark) × (r : Ring) × ValidRing r × (first_known r ≡ known) × (flat_map remark_tokens before ++ (ring_tokens r ++ flat_map remark_tokens between) ≡ tokens)

-- each statement is valid behind those before it; with them so much is known, and there are so many commands
abbrev pub AreValid : Declarations → ℕ → List Statement → Declarations → ℕ → Type 0
AreValid first none [] known count = (first ≡ known) × (none ≡ count)
AreValid first none (s ∷ statements) known count = ValidStatement first none s × AreValid (after first s) (none + commands_in s) statements known count

-- a whole beginning of a script, up to a statement that begins
abbrev pub BeforeStatement : Declarations → ℕ → List Token → Type 0
BeforeStatement known count tokens = (t : Tree) × ValidRing t.ring × ValidNoether (letters_of t.ring.variables) t.noether × AreValid (first_known t.ring) 0 t.statements known count × (tree_tokens t ≡ tokens)

-- a remark may stand here
abbrev pub BeforeRemark : List Token → Type 0
BeforeRemark tokens = BeforeRing tokens ⊎ ((known : Declarations) × BeforeNoether known tokens) ⊎ ((known : Declarations) × (count : ℕ) × BeforeStatement known count tokens)

-- The ring statement up to its variables, of which some are declared already: its name, its characteristic, these letters.
pub record RingBegins (known : Declarations) (p : List ℕ) : Type 0 where
  pub name : (is_named known.ring ≡ true) × (is_one_of keywords known.ring ≡ false)
  pub prime : (is_numeral p ≡ true) × InTable (value_of p)
  pub count : length known.letters ≤ max_variables
  pub letters : AreVariables known.ring known.letters

abbrev pub InRing : Declarations → List Token → List Token → Type 0
InRing known done tokens = (p : List ℕ) × RingBegins known p × Behind BeforeRing (word (codes "ring") ∷ word known.ring ∷ mark 61 ∷ word p ∷ mark 44 ∷ done) tokens

-- letters, each with a comma behind it, or before it
abbrev pub letters_then : List ℕ → List Token
letters_then letters = flat_map (λ l. word (l ∷ []) ∷ one (mark 44)) letters

abbrev pub then_letters : List ℕ → List Token
then_letters letters = flat_map (λ l. mark 44 ∷ one (word (l ∷ []))) letters

abbrev pub InNoether : Declarations → List Token → List Token → Type 0
InNoether known done tokens = Behind (BeforeNoether known) (word (codes "noether") ∷ mark 61 ∷ done) tokens

-- one more factor comes, behind these tokens
abbrev pub BeforeFactor : Declarations → List Token → Type 0
BeforeFactor known tokens = InNoether known [] tokens ⊎ ((m : Monomial) × ValidFactors known.letters m × InNoether known (monomial_tokens m ++ one (mark 42)) tokens)

-- ---- later statements
-- a member comes, behind others with so many generators
abbrev pub BeforeMember : Declarations → ℕ → List Token → Type 0
BeforeMember known gens tokens =
    (count : ℕ) × (name : List ℕ) × IsNew known name × ((Behind (BeforeStatement known count) (word (codes "ideal") ∷ word name ∷ one (mark 61)) tokens × (gens ≡ 0))
    ⊎ ((ms : Members) × ValidMembers known ms × (count_of known ms ≤ max_generators) × (gens ≡ count_of known ms) × Behind (BeforeStatement known count) (word (codes "ideal") ∷ word name ∷ mark 61 ∷ (members_tokens ms ++ one (mark 44))) tokens))

-- an expression comes
abbrev pub BeforeSum : Declarations → List Token → Type 0
BeforeSum known tokens =
    ((count : ℕ) × (name : List ℕ) × IsNew known name × Behind (BeforeStatement known count) (word (codes "poly") ∷ word name ∷ one (mark 61)) tokens)
    ⊎ ((gens : ℕ) × (gens < max_generators) × BeforeMember known gens tokens)

-- A name in parentheses comes, one of these names, and then these tokens: in std( ) or jacob( ), or in a command.
pub data BeforeArgument (known : Declarations) : List (List ℕ) → List Token → List Token → Type 0 where
  of_again : (count : ℕ) (name : List ℕ) (tokens : List Token) → IsNew known name → Behind (BeforeStatement known count) (word (codes "ideal") ∷ word name ∷ mark 61 ∷ one (word (codes "std"))) tokens
      → BeforeArgument known known.ideals (one (mark 59)) tokens
  of_command : (count : ℕ) (w : Word) (tokens : List Token) → count < max_commands → Behind (BeforeStatement known count) (one (word (command_word w))) tokens
      → BeforeArgument known (if is_on_poly w then known.polys else known.ideals) (one (mark 59)) tokens
  of_std : (count : ℕ) (w : Word) (tokens : List Token) → count < max_commands → is_on_poly w ≡ false → Behind (BeforeStatement known count) (word (command_word w) ∷ mark 40 ∷ one (word (codes "std"))) tokens
      → BeforeArgument known known.ideals (mark 41 ∷ one (mark 59)) tokens
  of_jacob : (gens : ℕ) (tokens : List Token) → Behind (BeforeMember known gens) (one (word (codes "jacob"))) tokens
      → BeforeArgument known known.polys [] tokens

-- ---- all together
-- just this token must stand behind these
pub data MustStand (known : Declarations) : Token → List Token → Type 0 where
  -- each token of a remark but its first
  of_remark : (r : Remark) (i j : Token) (done behind tokens : List Token) → (i ∷ done) ++ (j ∷ behind) ≡ remark_tokens r → Behind BeforeRemark (i ∷ done) tokens → MustStand known j tokens
  of_ring_name : (tokens : List Token) → (is_named known.ring ≡ true) × (is_one_of keywords known.ring ≡ false) → Behind BeforeRing (word (codes "ring") ∷ one (word known.ring)) tokens → MustStand known (mark 61) tokens
  of_characteristic : (p : List ℕ) (tokens : List Token) → (is_named known.ring ≡ true) × (is_one_of keywords known.ring ≡ false) → (is_numeral p ≡ true) × InTable (value_of p)
      → Behind BeforeRing (word (codes "ring") ∷ word known.ring ∷ mark 61 ∷ one (word p)) tokens → MustStand known (mark 44) tokens
  -- , ds ; behind the variables
  of_variables : (v : Variables) (i : Token) (done behind tokens : List Token) → known.letters ≡ letters_of v → done ++ (i ∷ behind) ≡ mark 44 ∷ word (codes "ds") ∷ one (mark 59)
      → InRing known (variables_tokens v ++ done) tokens → MustStand known i tokens
  of_noether : (tokens : List Token) → Behind (BeforeNoether known) (one (word (codes "noether"))) tokens → MustStand known (mark 61) tokens
  of_new_name : (count : ℕ) (w name : List ℕ) (tokens : List Token) → (w ≡ codes "poly") ⊎ (w ≡ codes "ideal") → IsNew known name → Behind (BeforeStatement known count) (word w ∷ one (word name)) tokens
      → MustStand known (mark 61) tokens
  of_argument : (names : List (List ℕ)) (rest tokens : List Token) → BeforeArgument known names rest tokens → MustStand known (mark 40) tokens
  -- the ) behind the name in parentheses, and each token that comes behind it
  of_end : (names : List (List ℕ)) (name : List ℕ) (i j : Token) (rest done behind tokens : List Token) → IsOneOf names name → done ++ (i ∷ behind) ≡ mark 41 ∷ j ∷ rest
      → Behind (BeforeArgument known names (j ∷ rest)) (mark 40 ∷ word name ∷ done) tokens → MustStand known i tokens
  -- the ) of jacob( ), where there is room for its generators
  of_jacobian : (gens : ℕ) (name : List ℕ) (tokens : List Token) → gens + length known.letters ≤ max_generators → IsOneOf known.polys name
      → Behind (BeforeMember known gens) (word (codes "jacob") ∷ mark 40 ∷ one (word name)) tokens → MustStand known (mark 41) tokens

-- behind these tokens one is at this spot, where so much is declared
abbrev pub Here : Declarations → Spot → List Token → Type 0
Here known the_ring tokens = BeforeRing tokens
Here known the_noether tokens = BeforeNoether known tokens
Here known (a_statement count) tokens = BeforeStatement known count tokens
Here known (just i) tokens = MustStand known i tokens
Here known the_ring_name tokens = Behind BeforeRing (one (word (codes "ring"))) tokens
Here known the_characteristic tokens = (is_named known.ring ≡ true) × (is_one_of keywords known.ring ≡ false) × Behind BeforeRing (word (codes "ring") ∷ word known.ring ∷ one (mark 61)) tokens
Here known a_variable tokens = ((known.letters ≡ []) × InRing known [] tokens) ⊎ InRing known (mark 40 ∷ letters_then known.letters) tokens
Here known behind_variable tokens = (first : ℕ) × (letters : List ℕ) × (known.letters ≡ first ∷ letters) × InRing known (mark 40 ∷ word (first ∷ []) ∷ then_letters letters) tokens
Here known a_factor tokens = BeforeFactor known tokens
Here known behind_monomial tokens = (m : Monomial) × ValidNoether known.letters m × InNoether known (monomial_tokens m) tokens
Here known a_new_name tokens = (count : ℕ) × (w : List ℕ) × ((w ≡ codes "poly") ⊎ (w ≡ codes "ideal")) × Behind (BeforeStatement known count) (one (word w)) tokens
Here known (a_name_of names) tokens = (rest : List Token) × Behind (BeforeArgument known names rest) (one (mark 40)) tokens
Here known an_exponent tokens =
    ((inner : List Token) × SpotInSum an_exponent inner × BeginsSum known inner × Behind (BeforeSum known) inner tokens)
    ⊎ ((letter : List ℕ) × (is_named letter ≡ true) × (length letter ≡ 1) × (is_short known.letters letter ≡ true) × Behind (BeforeFactor known) (word letter ∷ one (mark 94)) tokens)
Here known (behind_power ends) tokens =
    ((inner : List Token) × SpotInSum (behind_power ends) inner × BeginsSum known inner × Behind (BeforeSum known) inner tokens)
    ⊎ ((count : ℕ) × (name : List ℕ) × (x : Sum) × (ends ≡ 59 ∷ []) × IsNew known name × ValidSum known max_depth x × Behind (BeforeStatement known count) (word (codes "poly") ∷ word name ∷ mark 61 ∷ sum_tokens x) tokens)
    ⊎ ((gens : ℕ) × (x : Sum) × (ends ≡ 44 ∷ 59 ∷ []) × (gens < max_generators) × ValidSum known max_depth x × Behind (BeforeMember known gens) (sum_tokens x) tokens)
Here known behind_jacobian tokens =
    (gens : ℕ) × (name : List ℕ) × (gens + length known.letters ≤ max_generators) × IsOneOf known.polys name × Behind (BeforeMember known gens) (word (codes "jacob") ∷ mark 40 ∷ word name ∷ one (mark 41)) tokens
Here known no_room tokens = BeforeMember known max_generators tokens
Here known (an_operand sign deep) tokens = (inner : List Token) × SpotInSum (an_operand sign deep) inner × BeginsSum known inner × Behind (BeforeSum known) inner tokens
Here known the_divisor tokens = (inner : List Token) × SpotInSum the_divisor inner × BeginsSum known inner × Behind (BeforeSum known) inner tokens
