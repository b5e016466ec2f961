-- The first refusal: the tokens before it begin a script, and with the refused one none begins.
use Rattle.std.specs.Prelude.{◌≡◌, ◌⊎◌, ℕ, List, [], ◌∷◌, ◌++◌, Err, codes}
use Rattle.script_grammar.specs.declared.refusal.ReadKind.{ReadKind}
use Rattle.script_grammar.specs.declared.refusal.ReadKind.TheVariants.{NoetherDegree, TooManyMonomials, TooManyGenerators}
use Rattle.script_grammar.specs.declared.refusal.Refusal.{Refusal}
use Rattle.script_grammar.specs.Tokens.{Token, word, mark, Place, next}
use Rattle.script_grammar.specs.Trees.{Monomial, monomial_tokens, Tree, tree_tokens, one}
use Rattle.script_grammar.specs.Expressions.{Declarations, expression_at}
use Rattle.script_grammar.specs.Script.{script_of}
use Rattle.script_grammar.specs.Valid.{Stand, IsScript}
use Rattle.script_grammar.specs.Formed.{IsFormed}
use Rattle.script_grammar.specs.Spots.{BeginsSum}
use Rattle.script_grammar.specs.Causes.{HasCause, HasCauseInSum}

-- What stands from the place that a refusal names up to where it is known, if that is later: the noether monomial, whose
-- degree is tested, and jacob with its name, where there is no room for its generators.
abbrev pub IsLate : ReadKind → List Token → Type 0
IsLate NoetherDegree between = (m : Monomial) × (monomial_tokens m ≡ between)
IsLate (TooManyMonomials n) between = (m : Monomial) × (monomial_tokens m ≡ between)
IsLate TooManyGenerators between = (name : List ℕ) × (word (codes "jacob") ∷ mark 40 ∷ one (word name) ≡ between)
IsLate kind between = ⊥

-- the refusal of this kind at a place
abbrev pub refusal_at : Place → ReadKind → Refusal
refusal_at place kind = record { left = place.left; kind = kind }

-- these tokens begin a tree with the shape of a script
abbrev pub BeginsScript : List Token → Type 0
BeginsScript tokens = (t : Tree) × (more : List Token) × (tree_tokens t ≡ tokens ++ more) × IsFormed t

-- the first refusal of a script
pub record IsFirst (bytes : List ℕ) (f : Refusal) : Type 0 where
  -- the tokens before the place that it names; those from there to the one where it is known, which are none for most kinds
  pub before : List Token
  pub place : Place
  pub between : List Token
  pub at : Place
  pub kind : ReadKind
  pub to_place : Stand (next bytes) before place
  pub to_at : Stand place between at
  pub near : (between ≡ []) ⊎ IsLate kind between
  pub is : f ≡ refusal_at place kind
  -- the tokens before it begin a script's shape
  pub begun : BeginsScript before
  -- and this is why it is refused
  pub cause : HasCause kind before place
  -- other bytes that begin with all these tokens, whatever is behind, are refused at the same one in the same way,
  pub dead : (others : List ℕ) (p v : Place) → Stand (next others) before p → Stand p between v → v.token ≡ at.token → script_of others ≡ Err (refusal_at p kind)
  -- and are no script
  pub none : (others : List ℕ) (p v : Place) (t : Tree) → Stand (next others) before p → Stand p between v → v.token ≡ at.token → IsScript others t → ⊥

-- The same of an expression. Each kind is known at the place that it names, and the tokens before begin a valid expression.
pub record IsFirstOfSum (known : Declarations) (bytes : List ℕ) (f : Refusal) : Type 0 where
  pub before : List Token
  pub place : Place
  pub kind : ReadKind
  pub stand : Stand (next bytes) before place
  pub is : f ≡ refusal_at place kind
  pub begun : BeginsSum known before
  -- why it is refused
  pub cause : HasCauseInSum kind known before place
  pub dead : (others : List ℕ) (p : Place) → Stand (next others) before p → p.token ≡ place.token → expression_at known (next others) ≡ Err (refusal_at p kind)
