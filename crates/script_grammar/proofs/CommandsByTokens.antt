-- Commands, and one statement by its first word.
-- The word of a command is looked up among the six; what it is asked of decides its argument.
use Rattle.std.proofs.Common.{◌≡◌, ℕ, ◌<◌, Bool, true, false, cond, eqb, List, ◌∷◌, ◌++◌, Option, Some, None, Ok, refl, ap, ◌∙◌}
use Rattle.std.specs.Prelude.{codes}
use Rattle.script_grammar.specs.declared.refusal.What.TheVariants as whats
use Rattle.script_grammar.specs.declared.refusal.ReadKind.TheVariants.{Expected, TooManyCommands}
use Rattle.script_grammar.specs.declared.script.Word.{Word}
use Rattle.script_grammar.specs.declared.script.Word.TheVariants.{Std}
use Rattle.script_grammar.specs.Tokens.{Token, next, mark, word}
use Rattle.script_grammar.specs.Words.{is_the_word}
use Rattle.script_grammar.specs.Trees.{Statement, remark, command, command_std, command_word, statement_tokens, one}
use Rattle.script_grammar.specs.Steps.{◌>>=◌, mark_at}
use Rattle.script_grammar.specs.Expressions.{Declarations}
use Rattle.script_grammar.specs.Statements.{begins_remark, name_among, argument_at, is_on_poly, command_at}
use Rattle.script_grammar.specs.Script.{command_of, command_from, statement_at}
use Rattle.script_grammar.specs.Formed.{FormedStatement}
use Rattle.script_grammar.specs.First.{IsLate}
use Rattle.script_grammar.proofs.Steps.{word_is}
use Rattle.script_grammar.proofs.WordKinds.{command_of_is}
use Rattle.script_grammar.proofs.ByTokens.{Reader, Local, local_done, local_refuse, local_where, local_cases, local_if}
use Rattle.script_grammar.proofs.ByTokensInTurn.{local_then, local_mark, local_map, local_behind}
use Rattle.script_grammar.proofs.RingByTokens.{a_name, remark_local}
use Rattle.script_grammar.proofs.IdealsByTokens.{Follows, name_among_local, argument_local, poly_local, ideal_local}

-- A command on a polynomial is read, or refused, by its tokens.
on_poly_local : {n : ℕ} {W : Token → Type 0} (known : Declarations) (w : Word)
    → Local IsLate Statement n W (λ t. argument_at known.polys t >>= λ name. mark_at 59 whats.Semicolon name.1 >>= λ after. Ok (command w name.0, after)) (Follows (command_word w))
on_poly_local known w =
    local_then _ (argument_local known.polys) (λ name a l. local_mark 59 whats.Semicolon
    (local_done (command w name) (ap (λ (z : List Token). word (command_word w) ∷ (z ++ one (mark 59))) l.0, l.1)))

-- what is read behind std in a command
abbrev within_std : Declarations → Word → Reader Statement
within_std known w t = argument_at known.ideals t >>= λ name. mark_at 41 whats.Close name.1 >>= λ closed. mark_at 59 whats.Semicolon closed >>= λ after. Ok (command_std w name.0, after)

-- what is read in a command on a name alone
abbrev plainly : Declarations → Word → Reader Statement
plainly known w t = name_among known.ideals t >>= λ name. mark_at 41 whats.Close name.1 >>= λ closed. mark_at 59 whats.Semicolon closed >>= λ after. Ok (command w name.0, after)

-- A command on an ideal is read, or refused, by its tokens.
on_ideal_local : {n : ℕ} {W : Token → Type 0} (known : Declarations) (w : Word) → is_on_poly w ≡ false
    → Local IsLate Statement n W (λ t. mark_at 40 whats.Open t >>= λ opened. cond (is_the_word (codes "std") opened.token) (within_std known w (next opened.rest)) (plainly known w opened)) (Follows (command_word w))
on_ideal_local known w kind =
    local_mark 40 whats.Open (local_if (is_the_word (codes "std"))
    (local_behind (word (codes "std")) (λ i h. word_is (codes "std") i h.1)
    (local_then _ (argument_local known.ideals) (λ name a l. local_mark 41 whats.Close (local_mark 59 whats.Semicolon
    (local_done (command_std w name) (ap (λ (z : List Token). word (command_word w) ∷ mark 40 ∷ word (codes "std") ∷ (z ++ mark 41 ∷ one (mark 59))) l.0, (kind, l.1)))))))
    (local_then _ (name_among_local known.ideals) (λ name a l. local_mark 41 whats.Close (local_mark 59 whats.Semicolon
    (local_done (command w name) (ap (λ (z : List Token). word (command_word w) ∷ mark 40 ∷ (z ++ mark 41 ∷ one (mark 59))) l.0, l.1))))))

-- A command is read, or refused, by its tokens.
command_local : {n : ℕ} {W : Token → Type 0} (known : Declarations) (w : Word) → Local IsLate Statement n W (command_at known w) (Follows (command_word w))
unfolding command_at
command_local {n} {W} known w = by_word (is_on_poly w) refl
  where
    by_word : (b : Bool) → is_on_poly w ≡ b
        → Local IsLate Statement n W (λ t. cond b (argument_at known.polys t >>= λ name. mark_at 59 whats.Semicolon name.1 >>= λ after. Ok (command w name.0, after))
        (mark_at 40 whats.Open t >>= λ opened. cond (is_the_word (codes "std") opened.token) (within_std known w (next opened.rest)) (plainly known w opened))) (Follows (command_word w))
    by_word true e = on_poly_local known w
    by_word false e = on_ideal_local known w e

abbrev pub SpellsStatement : Statement → List Token → Type 0
SpellsStatement s tokens = (statement_tokens s ≡ tokens) × FormedStatement s

-- std(a);
pub some_statement : (s : Statement) × (tokens : List Token) × SpellsStatement s tokens
some_statement = (command Std a_name, statement_tokens (command Std a_name), (refl, refl))

-- What stands where a statement must begin is a command, or refused, by its tokens.
from_local : {n : ℕ} (known : Declarations) (count : ℕ) (i : Token) (o : Option Word) → command_of i ≡ o → Local IsLate Statement n (λ j. j ≡ i) (λ t. command_from known count t o) SpellsStatement
from_local known count i None e = local_refuse (Expected whats.Statement) some_statement
from_local known count i (Some c) e =
    local_if (λ j. eqb count 64) (local_refuse TooManyCommands some_statement)
    (local_behind (word (command_word c)) (λ j h. h.0 ∙ command_of_is i c e) (command_local known c))

-- A statement is read, or refused, by its tokens.
pub statement_local : {n : ℕ} {W : Token → Type 0} (known : Declarations) (count : ℕ) → 1 < known.prime → Local IsLate Statement n W (statement_at known count) SpellsStatement
unfolding statement_at
statement_local known count prime =
    local_if begins_remark (local_map remark (local_where (λ i w. w.1) remark_local) (λ r a l. (l, tt)))
    (local_if (is_the_word (codes "poly")) (local_behind (word (codes "poly")) (λ i w. word_is (codes "poly") i w.1) (poly_local known prime))
    (local_if (is_the_word (codes "ideal")) (local_behind (word (codes "ideal")) (λ i w. word_is (codes "ideal") i w.1) (ideal_local known prime))
    (local_cases (λ i t. command_from known count t (command_of i)) some_statement (λ i w. from_local known count i (command_of i) refl))))
