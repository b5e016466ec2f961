-- What is due for the bytes of a script, whatever a request answers to a script that is read.
use Rattle.std.specs.Prelude.{◌≡◌, ℕ, ◌<◌, ◌≤◌, ◌⊎◌, List, [], length, Err}
use Rattle.script_grammar.specs.declared.refusal.Refusal.{Refusal}
use Rattle.script_grammar.specs.declared.script.Script.{Script}
use Rattle.script_grammar.specs.Trees.{Tree}
use Rattle.script_grammar.specs.Script.{script_of, position_of}
use Rattle.script_grammar.specs.Valid.{IsScript}
use Rattle.script_grammar.specs.Meaning.{meaning}
use Rattle.script_grammar.specs.First.{IsFirst}
use Rattle.local_std.specs.declared.outcome.Status.{Status}
use Rattle.local_std.specs.declared.outcome.Status.TheVariants.{Input}
use Rattle.local_std.specs.Texts.{too_long_line, refusal_line}

-- the bytes are a script of the grammar, and of one tree alone
pub record IsScriptOf (limit : ℕ) (input : List ℕ) (tree : Tree) : Type 0 where
  pub few : length input ≤ limit
  pub is_script : IsScript input tree
  pub only : (other : Tree) → IsScript input other → other ≡ tree

-- ---- the lines that say why there is nothing to answer
pub record IsTooLong (limit : ℕ) (input text : List ℕ) : Type 0 where
  pub many : limit < length input
  pub spelled : text ≡ too_long_line

-- the bytes are no script, and the text is the first refusal, with its line and column
pub record IsRefused (limit : ℕ) (input text : List ℕ) : Type 0 where
  pub few : length input ≤ limit
  pub none : (tree : Tree) → IsScript input tree → ⊥
  pub refusal : Refusal
  pub refuses : script_of input ≡ Err refusal
  pub first : IsFirst input refusal
  pub spelled : text ≡ refusal_line (position_of input refusal).0 (position_of input refusal).1 refusal.kind

pub record IsNotRead (limit : ℕ) (input : List ℕ) (status : Status) (text proof : List ℕ) : Type 0 where
  pub refused : status ≡ Input
  pub why : IsTooLong limit input text ⊎ IsRefused limit input text
  pub uncertified : proof ≡ []

-- ---- what answers it
-- the bytes are a script, and A holds of the script, the status and the texts
pub record IsRead (A : Script → Status → List ℕ → List ℕ → Type 0) (limit : ℕ) (input : List ℕ) (status : Status) (text proof : List ℕ) : Type 0 where
  pub tree : Tree
  pub script : IsScriptOf limit input tree
  pub answer : A (meaning tree) status text proof

-- what is due where A is the request's own answer to a script
abbrev pub ScriptDue : (Script → Status → List ℕ → List ℕ → Type 0) → ℕ → List ℕ → Status → List ℕ → List ℕ → Type 0
ScriptDue A limit input status text proof = IsNotRead limit input status text proof ⊎ IsRead A limit input status text proof
