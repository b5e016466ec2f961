-- Scripts as they are spelled, without blanks and comments.
use Rattle.std.specs.Prelude.{ℕ, List, [], ◌∷◌, ◌++◌, codes}
use Rattle.std.specs.List.{flat_map}
use Rattle.script_grammar.specs.declared.script.Word.{Word}
use Rattle.script_grammar.specs.declared.script.Word.TheVariants.{Std, Vdim, Kbase, HighCorner, Milnor, Tjurina}
use Rattle.script_grammar.specs.Tokens.{Token, word, text, mark}

mutual
  -- a numeral; a numeral over a numeral; a poly's name or a short monomial; a sum in parentheses
  pub data Operand : Type 0 where
    number : List ℕ → Operand
    fraction : List ℕ → List ℕ → Operand
    named : List ℕ → Operand
    inside : Sum → Operand

  -- an operand, or one with an exponent
  pub data Power : Type 0 where
    plain : Operand → Power
    raised : Operand → List ℕ → Power

  -- powers joined by *
  pub data Term : Type 0 where
    single : Power → Term
    times : Term → Power → Term

  -- terms joined by + or -, with a sign before the first or none
  pub data Sum : Type 0 where
    bare : Term → Sum
    positive : Term → Sum
    negative : Term → Sum
    plus : Sum → Term → Sum
    minus : Sum → Term → Sum

-- option(redSB); or LIB "sing.lib";
pub data Remark : Type 0 where
  option : Remark
  library : Remark

-- one letter without parentheses, or letters in parentheses
pub data Variables : Type 0 where
  alone : ℕ → Variables
  listed : ℕ → List ℕ → Variables

pub record Ring : Type 0 where
  pub name : List ℕ
  pub prime : List ℕ
  pub variables : Variables

-- a short monomial, or a letter with an exponent; factors joined by *
pub data Factor : Type 0 where
  short_word : List ℕ → Factor
  raised_letter : List ℕ → List ℕ → Factor

pub data Monomial : Type 0 where
  factor : Factor → Monomial
  product : Monomial → Factor → Monomial

pub data Member : Type 0 where
  generator : Sum → Member
  jacobian : List ℕ → Member

pub data Members : Type 0 where
  only : Member → Members
  more : Members → Member → Members

pub data Statement : Type 0 where
  remark : Remark → Statement
  poly : List ℕ → Sum → Statement
  -- a name for an ideal that has one
  again : List ℕ → List ℕ → Statement
  ideal : List ℕ → Members → Statement
  -- a word and a name, plain or in std( )
  command : Word → List ℕ → Statement
  command_std : Word → List ℕ → Statement

pub record Tree : Type 0 where
  pub before : List Remark
  pub ring : Ring
  pub between : List Remark
  pub noether : Monomial
  pub statements : List Statement

abbrev pub one : Token → List Token
one token = token ∷ []

-- tokens in parentheses
abbrev pub enclosed : List Token → List Token
enclosed tokens = mark 40 ∷ (tokens ++ one (mark 41))

unfoldable mutual
  pub operand_tokens : Operand → List Token
  operand_tokens (number digits) = one (word digits)
  operand_tokens (fraction digits below) = word digits ∷ mark 47 ∷ one (word below)
  operand_tokens (named letters) = one (word letters)
  operand_tokens (inside sum) = enclosed (sum_tokens sum)

  pub power_tokens : Power → List Token
  power_tokens (plain operand) = operand_tokens operand
  power_tokens (raised operand digits) = operand_tokens operand ++ (mark 94 ∷ one (word digits))

  pub term_tokens : Term → List Token
  term_tokens (single power) = power_tokens power
  term_tokens (times term power) = term_tokens term ++ (mark 42 ∷ power_tokens power)

  pub sum_tokens : Sum → List Token
  sum_tokens (bare term) = term_tokens term
  sum_tokens (positive term) = mark 43 ∷ term_tokens term
  sum_tokens (negative term) = mark 45 ∷ term_tokens term
  sum_tokens (plus sum term) = sum_tokens sum ++ (mark 43 ∷ term_tokens term)
  sum_tokens (minus sum term) = sum_tokens sum ++ (mark 45 ∷ term_tokens term)

abbrev pub remark_tokens : Remark → List Token
remark_tokens option = word (codes "option") ∷ (enclosed (one (word (codes "redSB"))) ++ one (mark 59))
remark_tokens library = word (codes "LIB") ∷ text (codes "sing.lib") ∷ one (mark 59)

abbrev pub variables_tokens : Variables → List Token
variables_tokens (alone l) = one (word (l ∷ []))
variables_tokens (listed l letters) = enclosed (word (l ∷ []) ∷ flat_map (λ k. mark 44 ∷ one (word (k ∷ []))) letters)

abbrev pub ring_tokens : Ring → List Token
ring_tokens r = word (codes "ring") ∷ word r.name ∷ mark 61 ∷ word r.prime ∷ mark 44 ∷ (variables_tokens r.variables ++ (mark 44 ∷ word (codes "ds") ∷ one (mark 59)))

abbrev pub factor_tokens : Factor → List Token
factor_tokens (short_word w) = one (word w)
factor_tokens (raised_letter letter digits) = word letter ∷ mark 94 ∷ one (word digits)

abbrev pub monomial_tokens : Monomial → List Token
monomial_tokens (factor f) = factor_tokens f
monomial_tokens (product m f) = monomial_tokens m ++ (mark 42 ∷ factor_tokens f)

abbrev pub noether_tokens : Monomial → List Token
noether_tokens m = word (codes "noether") ∷ mark 61 ∷ (monomial_tokens m ++ one (mark 59))

abbrev pub member_tokens : Member → List Token
member_tokens (generator sum) = sum_tokens sum
member_tokens (jacobian name) = word (codes "jacob") ∷ enclosed (one (word name))

abbrev pub members_tokens : Members → List Token
members_tokens (only m) = member_tokens m
members_tokens (more members m) = members_tokens members ++ (mark 44 ∷ member_tokens m)

abbrev pub command_word : Word → List ℕ
command_word Std = codes "std"
command_word Vdim = codes "vdim"
command_word Kbase = codes "kbase"
command_word HighCorner = codes "highcorner"
command_word Milnor = codes "milnor"
command_word Tjurina = codes "tjurina"

abbrev pub statement_tokens : Statement → List Token
statement_tokens (remark r) = remark_tokens r
statement_tokens (poly name sum) = word (codes "poly") ∷ word name ∷ mark 61 ∷ (sum_tokens sum ++ one (mark 59))
statement_tokens (again name other) = word (codes "ideal") ∷ word name ∷ mark 61 ∷ word (codes "std") ∷ (enclosed (one (word other)) ++ one (mark 59))
statement_tokens (ideal name members) = word (codes "ideal") ∷ word name ∷ mark 61 ∷ (members_tokens members ++ one (mark 59))
statement_tokens (command w name) = word (command_word w) ∷ (enclosed (one (word name)) ++ one (mark 59))
statement_tokens (command_std w name) = word (command_word w) ∷ (enclosed (word (codes "std") ∷ enclosed (one (word name))) ++ one (mark 59))

abbrev pub tree_tokens : Tree → List Token
tree_tokens t = flat_map remark_tokens t.before ++ (ring_tokens t.ring ++ (flat_map remark_tokens t.between ++ (noether_tokens t.noether ++ flat_map statement_tokens t.statements)))
