-- The whole script, read from left to right, and the place of its first refusal.
use Rattle.std.specs.Prelude.{ℕ, zero, suc, ◌+◌, ◌-◌, Bool, true, false, ◌&&◌, ◌||◌, List, [], ◌∷◌, ◌++◌, length, take, Result, Ok, nat_le, Option, Some, None, ◌==◌, if◌then◌else◌, codes}
use Rattle.script_grammar.specs.Limits.{max_commands}
use Rattle.prime_field.specs.Decimal.{value_of}
use Rattle.script_grammar.specs.declared.refusal.What.TheVariants as whats
use Rattle.script_grammar.specs.declared.refusal.ReadKind.TheVariants.{MissingNoether, TooManyCommands}
use Rattle.script_grammar.specs.declared.refusal.Refusal.{Refusal}
use Rattle.script_grammar.specs.declared.script.Word.{Word}
use Rattle.script_grammar.specs.declared.script.Word.TheVariants.{Std, Vdim, Kbase, HighCorner, Milnor, Tjurina}
use Rattle.script_grammar.specs.Tokens.{Token, Place, next}
use Rattle.script_grammar.specs.Words.{is_same, is_word, word_of, is_the_word, is_the_end}
use Rattle.script_grammar.specs.Trees.{Ring, Monomial, Statement, remark, poly, again, ideal, command, command_std, Tree, command_word}
use Rattle.script_grammar.specs.Steps.{◌>>=◌, refused, wanted}
use Rattle.script_grammar.specs.Expressions.{Declarations}
use Rattle.script_grammar.specs.Statements.{begins_remark, remark_at, remarks_at, ring_at, letters_of, noether_at, poly_at, ideal_at, command_at}

-- the command that a word begins
abbrev pub command_among : List Word → List ℕ → Option Word
command_among [] w = None
command_among (c ∷ words) w = if is_same (command_word c) w then Some c else command_among words w

abbrev pub command_of : Token → Option Word
command_of token = if is_word token then command_among (Std ∷ Vdim ∷ Kbase ∷ HighCorner ∷ Milnor ∷ Tjurina ∷ []) (word_of token) else None

abbrev pub is_some_command : Option Word → Bool
is_some_command None = false
is_some_command (Some c) = true

-- poly, ideal and the words of commands
abbrev pub begins_later : Token → Bool
begins_later token = is_the_word (codes "poly") token || (is_the_word (codes "ideal") token || is_some_command (command_of token))

-- what is declared after a statement
abbrev pub after : Declarations → Statement → Declarations
after known (poly name sum) = record known { polys = known.polys ++ name ∷ [] }
after known (again name other) = record known { ideals = known.ideals ++ name ∷ [] }
after known (ideal name members) = record known { ideals = known.ideals ++ name ∷ [] }
after known (remark r) = known
after known (command w name) = known
after known (command_std w name) = known

abbrev pub commands_in : Statement → ℕ
commands_in (command w name) = 1
commands_in (command_std w name) = 1
commands_in (remark r) = 0
commands_in (poly name sum) = 0
commands_in (again name other) = 0
commands_in (ideal name members) = 0

-- a command, behind count others
abbrev pub command_from : Declarations → ℕ → Place → Option Word → Result (Statement × Place) Refusal
command_from known count t None = wanted t whats.Statement
command_from known count t (Some c) = if count == max_commands then refused t TooManyCommands else command_at known c (next t.rest)

unfoldable pub statement_at : Declarations → ℕ → Place → Result (Statement × Place) Refusal
statement_at known count t =
    if begins_remark t.token then (remark_at t >>= λ r. Ok (remark r.0, r.1))
    else (if is_the_word (codes "poly") t.token then poly_at known (next t.rest)
    else (if is_the_word (codes "ideal") t.token then ideal_at known (next t.rest)
    else command_from known count t (command_of t.token)))

-- the statements up to the end, which may come behind a command
unfoldable pub statements_at : ℕ → Declarations → ℕ → List Statement → Place → Result (List Statement) Refusal
statements_at zero known count done t = wanted t whats.Statement
statements_at (suc n) known count done t =
    if nat_le 1 count && is_the_end t.token then Ok done
    else (statement_at known count t >>= λ s. statements_at n (after known s.0) (count + commands_in s.0) (done ++ s.0 ∷ []) s.1)

-- the ring statement with its word, and the noether statement with its own
abbrev pub ring_part : Place → Result (Ring × Place) Refusal
ring_part t = if is_the_word (codes "ring") t.token then ring_at (next t.rest) else wanted t whats.Ring

abbrev pub noether_part : List ℕ → Place → Result (Monomial × Place) Refusal
noether_part letters t =
    if is_the_word (codes "noether") t.token then noether_at letters (next t.rest)
    else (if begins_later t.token then refused t MissingNoether else wanted t whats.Noether)

unfoldable pub tree_at : Place → Result Tree Refusal
tree_at t = do
  before ← remarks_at t.left [] t
  ring ← ring_part before.1
  between ← remarks_at ring.1.left [] ring.1
  let letters = letters_of ring.0.variables
  noether ← noether_part letters between.1
  statements ← statements_at (suc noether.1.left) (record { ring = ring.0.name; prime = value_of ring.0.prime; letters = letters; polys = []; ideals = [] }) 0 [] noether.1
  Ok (record { before = before.0; ring = ring.0; between = between.0; noether = noether.0; statements = statements })

-- the script that the bytes spell, or the first refusal in them
unfoldable pub script_of : List ℕ → Result Tree Refusal
script_of bytes = tree_at (next bytes)

-- line and column behind these bytes
abbrev pub position_from : ℕ → ℕ → List ℕ → ℕ × ℕ
position_from line column [] = (line, column)
position_from line column (b ∷ bytes) = if b == 10 then position_from (line + 1) 1 bytes else position_from line (column + 1) bytes

abbrev pub position_of : List ℕ → Refusal → ℕ × ℕ
position_of bytes f = position_from 1 1 (take (length bytes - f.left) bytes)
