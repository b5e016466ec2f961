-- Valid statements that stand there are read.
-- A statement by its kind, and then all of them by induction on the list; each takes bytes, so the turns of the loop are enough.
use Rattle.std.proofs.Common.{◌≡◌, ℕ, zero, suc, ◌+◌, ◌<◌, Bool, true, false, cond, ◌&&◌, eqb, List, [], ◌∷◌, ◌++◌, Some, Ok, refl, sym, ap, subst, ◌∙◌, nat_le, append_assoc, arith}
use Rattle.std.proofs.lemmas.Bool.{ne_eqb, and_from, and_right, le-leb}
use Rattle.std.proofs.lemmas.List.{append-nil}
use Rattle.std.specs.Prelude.{codes}
use Rattle.std.specs.List.{flat_map}
use Rattle.script_grammar.specs.declared.script.Word.{Word}
use Rattle.script_grammar.specs.declared.script.Word.TheVariants.{Std, Vdim, Kbase, HighCorner, Milnor, Tjurina}
use Rattle.script_grammar.specs.Tokens.{Token, Place, next, word, mark, end}
use Rattle.script_grammar.specs.Words.{is_the_word, is_the_end}
use Rattle.script_grammar.specs.Trees.{option, library, Statement, remark, poly, again, ideal, command, command_std, command_word, statement_tokens, one}
use Rattle.script_grammar.specs.Expressions.{Declarations}
use Rattle.script_grammar.specs.Statements.{begins_remark, remark_at, is_on_poly, command_at}
use Rattle.script_grammar.specs.Script.{command_of, command_from, after, commands_in, statement_at, statements_at}
use Rattle.script_grammar.specs.Valid.{Stand, IsOneOf, ValidStatement, ValidStatements}
use Rattle.script_grammar.specs.Places.{Placed}
use Rattle.script_grammar.proofs.Steps.{Stand-split}
use Rattle.script_grammar.proofs.Places.{begins_with_word, behind_word, word_no_end}
use Rattle.script_grammar.proofs.WordKinds.{NoKeywords, among_no_keyword, no_keywords_after}
use Rattle.script_grammar.proofs.FirstTokens.{not_this, is_keyword}
use Rattle.script_grammar.proofs.StepsAreRead.{on_then, off_then, read_then, mark_then, name_among_then, argument_then}
use Rattle.script_grammar.proofs.RemarksAreRead.{remark_again, remark_begins}
use Rattle.script_grammar.proofs.ValidIdealsAreRead.{poly_again, ideal_named_again, ideal_again}

-- the tokens behind a command's word
abbrev name_tail : List ℕ → List Token
name_tail name = mark 40 ∷ word name ∷ mark 41 ∷ one (mark 59)

-- the tokens behind the word of a command on std( )
abbrev std_tail : List ℕ → List Token
std_tail name = mark 40 ∷ word (codes "std") ∷ mark 40 ∷ word name ∷ mark 41 ∷ mark 41 ∷ one (mark 59)

-- A command on a name is read, whether it is on a polynomial or an ideal.
command_again-at : (known : Declarations) (w : Word) (t : Place) (name : List ℕ) (u : Place) (b : Bool) → is_on_poly w ≡ b → NoKeywords known.ideals → Stand t (name_tail name) u → IsOneOf (cond b known.polys known.ideals) name → command_at known w t ≡ Ok (command w name, u)
unfolding command_at
command_again-at known w t name u true kind free p valid =
    on_then (is_on_poly w) _ _ _ kind
    (argument_then known.polys name t _ _ p.0 p.1.0 p.1.1.0 valid (mark_then _ _ _ _ _ p.1.1.1.0 (ap (λ (x : Place). Ok (command w name, x)) p.1.1.1.1)))
command_again-at known w t name u false kind free p valid =
    let inside = next t.rest in
    let plain : is_keyword inside.token ≡ false = ap is_keyword p.1.0 ∙ among_no_keyword known.ideals name free valid.1 in
    off_then (is_on_poly w) _ _ _ kind
    (mark_then _ _ _ _ _ p.0
    (off_then (is_the_word (codes "std") inside.token) _ _ _ (not_this (codes "std") inside.token refl plain)
    (name_among_then _ name _ _ _ p.1.0 valid (mark_then _ _ _ _ _ p.1.1.0 (mark_then _ _ _ _ _ p.1.1.1.0 (ap (λ (x : Place). Ok (command w name, x)) p.1.1.1.1))))))

-- A command on std( ) is read.
command_std_again : (known : Declarations) (w : Word) (t : Place) (name : List ℕ) (u : Place) → is_on_poly w ≡ false → Stand t (std_tail name) u → IsOneOf known.ideals name → command_at known w t ≡ Ok (command_std w name, u)
unfolding command_at
command_std_again known w t name u kind p valid =
    let inside = next t.rest in
    off_then (is_on_poly w) _ _ _ kind
    (mark_then _ _ _ _ _ p.0
    (on_then (is_the_word (codes "std") inside.token) _ _ _ (ap (is_the_word (codes "std")) p.1.0)
    (argument_then known.ideals name _ _ _ p.1.1.0 p.1.1.1.0 p.1.1.1.1.0 valid
    (mark_then _ _ _ _ _ p.1.1.1.1.1.0 (mark_then _ _ _ _ _ p.1.1.1.1.1.1.0 (ap (λ (x : Place). Ok (command_std w name, x)) p.1.1.1.1.1.1.1))))))

-- what the word of a command begins
record BeginsCommand (w : Word) (token : Token) : Type 0 where
  no_remark : begins_remark token ≡ false
  no_poly : is_the_word (codes "poly") token ≡ false
  no_ideal : is_the_word (codes "ideal") token ≡ false
  is : command_of token ≡ Some w

-- The word of a command begins that command, and no other statement.
begins_command : (w : Word) → BeginsCommand w (word (command_word w))
begins_command Std = record { no_remark = refl; no_poly = refl; no_ideal = refl; is = refl }
begins_command Vdim = record { no_remark = refl; no_poly = refl; no_ideal = refl; is = refl }
begins_command Kbase = record { no_remark = refl; no_poly = refl; no_ideal = refl; is = refl }
begins_command HighCorner = record { no_remark = refl; no_poly = refl; no_ideal = refl; is = refl }
begins_command Milnor = record { no_remark = refl; no_poly = refl; no_ideal = refl; is = refl }
begins_command Tjurina = record { no_remark = refl; no_poly = refl; no_ideal = refl; is = refl }

-- Where a command is read from behind its word on, the statement is read.
command_reads : (known : Declarations) (count : ℕ) (w : Word) (t : Place) (x : Statement × Place) → t.token ≡ word (command_word w) → count < 64 → command_at known w (next t.rest) ≡ Ok x → statement_at known count t ≡ Ok x
unfolding statement_at
command_reads known count w t x here room reads =
    let b = subst (λ (i : Token). BeginsCommand w i) (sym here) (begins_command w) in
    off_then (begins_remark t.token) _ _ _ b.no_remark
    (off_then (is_the_word (codes "poly") t.token) _ _ _ b.no_poly
    (off_then (is_the_word (codes "ideal") t.token) _ _ _ b.no_ideal
    (ap (command_from known count t) b.is ∙ off_then (eqb count 64) _ _ _ (ne_eqb count 64 (λ e. absurd (omega arith))) reads)))

-- A valid statement that stands there is read.
statement_again : (known : Declarations) (count : ℕ) (t : Place) (s : Statement) (u : Place) → NoKeywords known.ideals → Stand t (statement_tokens s) u → ValidStatement known count s → statement_at known count t ≡ Ok (s, u)
unfolding statement_at
statement_again known count t (remark r) u free p valid = on_then (begins_remark t.token) _ _ _ (remark_begins t r u p) (read_then (remark_at t) _ (r, u) _ (remark_again t r u p) refl)
statement_again known count t (poly name s) u free p valid =
    off_then (begins_remark t.token) _ _ _ (ap begins_remark p.0)
    (on_then (is_the_word (codes "poly") t.token) _ _ _ (ap (is_the_word (codes "poly")) p.0) (poly_again known (next t.rest) name s u p.1 valid.0 valid.1))
statement_again known count t (again name other) u free p valid =
    off_then (begins_remark t.token) _ _ _ (ap begins_remark p.0)
    (off_then (is_the_word (codes "poly") t.token) _ _ _ (ap (is_the_word (codes "poly")) p.0)
    (on_then (is_the_word (codes "ideal") t.token) _ _ _ (ap (is_the_word (codes "ideal")) p.0) (ideal_named_again known (next t.rest) name other u p.1 valid.0 valid.1)))
statement_again known count t (ideal name ms) u free p valid =
    off_then (begins_remark t.token) _ _ _ (ap begins_remark p.0)
    (off_then (is_the_word (codes "poly") t.token) _ _ _ (ap (is_the_word (codes "poly")) p.0)
    (on_then (is_the_word (codes "ideal") t.token) _ _ _ (ap (is_the_word (codes "ideal")) p.0) (ideal_again known (next t.rest) name ms u p.1 valid.0 valid.1 valid.2)))
statement_again known count t (command w name) u free p valid = command_reads known count w t (command w name, u) p.0 valid.0 (command_again-at known w (next t.rest) name u (is_on_poly w) refl free p.1 valid.1)
statement_again known count t (command_std w name) u free p valid = command_reads known count w t (command_std w name, u) p.0 valid.0 (command_std_again known w (next t.rest) name u valid.1 p.1 valid.2)

-- The first token of a statement is a word.
statement_word : (s : Statement) → begins_with_word (statement_tokens s) ≡ true
statement_word (remark option) = refl
statement_word (remark library) = refl
statement_word (poly name s) = refl
statement_word (again name other) = refl
statement_word (ideal name ms) = refl
statement_word (command w name) = refl
statement_word (command_std w name) = refl

-- Valid statements that stand up to the end are read.
pub statements_again : (n : ℕ) (known : Declarations) (count : ℕ) (done : List Statement) (t : Place) (statements : List Statement) (last : Place) → NoKeywords known.ideals → Placed t → t.left < n
    → Stand t (flat_map statement_tokens statements) last → last.token ≡ end → ValidStatements known count statements → statements_at n known count done t ≡ Ok (done ++ statements)
unfolding statements_at
statements_again zero known count done t statements last free placed room p whole valid = absurd (omega arith)
statements_again (suc n) known count done t [] last free placed room p whole valid =
    on_then (nat_le 1 count && is_the_end t.token) _ _ _ (and_from (nat_le 1 count) (is_the_end t.token) (le-leb 1 count valid) (ap is_the_end (ap (λ (x : Place). x.token) p ∙ whole)))
    (ap (λ (l : List Statement). Ok l) (sym (append-nil done)))
statements_again (suc n) known count done t (s ∷ statements) last free placed room p whole valid =
    let q = Stand-split t (statement_tokens s) (flat_map statement_tokens statements) last p in
    let u = q.0 in
    let less = behind_word t (statement_tokens s) u placed (statement_word s) q.1 in
    let on = statements_again n (after known s) (count + commands_in s) (done ++ s ∷ []) u statements last (no_keywords_after known count s free valid.0) less.1 (omega (arith, less.0)) q.2 whole valid.1 in
    off_then (nat_le 1 count && is_the_end t.token) _ _ _ (and_right (nat_le 1 count) (is_the_end t.token) (word_no_end t.token less.2))
    (read_then (statement_at known count t) _ (s, u) _ (statement_again known count t s u free q.1 valid.0) (on ∙ ap (λ (l : List Statement). Ok l) (append_assoc done (s ∷ []) statements)))
