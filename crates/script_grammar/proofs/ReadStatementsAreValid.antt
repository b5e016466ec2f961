-- The statements that are read stand there, and are valid.
-- A statement by the word that begins it, and then all of them by induction on the turns of their loop.
use Rattle.std.proofs.Common.{◌≡◌, ℕ, zero, suc, ◌+◌, ◌<◌, ◌≤◌, Bool, cond, ◌&&◌, eqb, List, [], ◌∷◌, ◌++◌, Option, Some, None, Ok, refl, sym, subst, ◌∙◌, inl, inr, nat_le, append_assoc, arith}
use Rattle.std.proofs.lemmas.Bool.{eqb-false, leb-true, and_parts}
use Rattle.std.proofs.lemmas.List.{append-nil}
use Rattle.std.specs.Prelude.{codes}
use Rattle.std.specs.List.{flat_map}
use Rattle.script_grammar.specs.declared.script.Word.{Word}
use Rattle.script_grammar.specs.Tokens.{Place, next, word, end}
use Rattle.script_grammar.specs.Words.{is_the_word, is_the_end}
use Rattle.script_grammar.specs.Trees.{Statement, remark, poly, again, ideal, command, command_std, command_word, statement_tokens}
use Rattle.script_grammar.specs.Expressions.{Declarations}
use Rattle.script_grammar.specs.Statements.{begins_remark, is_on_poly, command_at}
use Rattle.script_grammar.specs.Script.{command_of, command_from, after, commands_in, statement_at, statements_at}
use Rattle.script_grammar.specs.Valid.{Stand, IsOneOf, ValidStatement, ValidStatements}
use Rattle.script_grammar.proofs.Steps.{ok_is, bind_ok, chosen, went_on, word_is, end_is, Stand-then}
use Rattle.script_grammar.proofs.StepsBehindRead.{mark_step, name_among_step}
use Rattle.script_grammar.proofs.ReadRemarksStand.{remark_found}
use Rattle.script_grammar.proofs.WordKinds.{command_of_is}
use Rattle.script_grammar.proofs.ReadIdealsAreValid.{StatementIs, argument_step, poly_found, ideal_found}

-- A command that is read stands there and is valid.
command_found : (known : Declarations) (count : ℕ) (w : Word) (t : Place) (x : Statement × Place) → t.token ≡ word (command_word w) → count < 64 → command_at known w (next t.rest) ≡ Ok x → StatementIs known count t x
unfolding command_at
command_found known count w t x here room e =
    let start = next (next t.rest).rest in
    let branch = chosen (is_on_poly w) _ _ _ e in
    elim branch [
      | inl yea ↦
          let a = argument_step known.polys _ _ _ yea.1 in
          let last = mark_step _ _ _ _ _ a.5 in
          subst (λ (y : Statement × Place). StatementIs known count t y) (ok_is _ x last.1)
          ((here, (a.1, (a.2, (a.3, (last.0, refl))))), (room, subst (λ (b : Bool). IsOneOf (cond b known.polys known.ideals) a.0) (sym yea.0) a.4))
      | inr nay ↦
          let opened = mark_step _ _ _ _ _ nay.1 in
          let inside = chosen (is_the_word (codes "std") start.token) _ _ _ opened.1 in
          elim inside [
            | inl std ↦
                let a = argument_step known.ideals _ _ _ std.1 in
                let closed = mark_step _ _ _ _ _ a.5 in
                let last = mark_step _ _ _ _ _ closed.1 in
                subst (λ (y : Statement × Place). StatementIs known count t y) (ok_is _ x last.1)
                ((here, (opened.0, (word_is (codes "std") start.token std.0, (a.1, (a.2, (a.3, (closed.0, (last.0, refl)))))))), (room, nay.0, a.4))
            | inr plain ↦
                let a = name_among_step _ _ _ _ plain.1 in
                let closed = mark_step _ _ _ _ _ a.3 in
                let last = mark_step _ _ _ _ _ closed.1 in
                subst (λ (y : Statement × Place). StatementIs known count t y) (ok_is _ x last.1)
                ((here, (opened.0, (a.1, (closed.0, (last.0, refl))))), (room, subst (λ (b : Bool). IsOneOf (cond b known.polys known.ideals) a.0) (sym nay.0) a.2))
          ]
    ]

-- What is read from the word of a command on is a valid command with fewer than 64 before it.
command_from_found : (known : Declarations) (count : ℕ) (t : Place) (o : Option Word) (x : Statement × Place) → count ≤ 64 → command_of t.token ≡ o → command_from known count t o ≡ Ok x → StatementIs known count t x
command_from_found known count t None x room is e = absurd cc
command_from_found known count t (Some c) x room is e =
    let g = went_on (eqb count 64) _ _ x e in
    command_found known count c t x (command_of_is t.token c is) (omega (arith, eqb-false count 64 g.0)) g.1

-- A statement that is read stands there and is valid behind those before it.
pub statement_found : (known : Declarations) (count : ℕ) (t : Place) (x : Statement × Place) → count ≤ 64 → statement_at known count t ≡ Ok x → StatementIs known count t x
unfolding statement_at
statement_found known count t x room e =
    let branch = chosen (begins_remark t.token) _ _ _ e in
    elim branch [
      | inl yea ↦
          let a = bind_ok _ _ _ yea.1 in
          subst (λ (y : Statement × Place). StatementIs known count t y) (ok_is _ x a.2) (remark_found t a.0 yea.0 a.1, tt)
      | inr nay ↦
          let polys = chosen (is_the_word (codes "poly") t.token) _ _ _ nay.1 in
          elim polys [
            | inl yea ↦ poly_found known count t x (word_is (codes "poly") t.token yea.0) yea.1
            | inr neither ↦
                let ideals = chosen (is_the_word (codes "ideal") t.token) _ _ _ neither.1 in
                elim ideals [
                  | inl yea ↦ ideal_found known count t x (word_is (codes "ideal") t.token yea.0) yea.1
                  | inr none ↦ command_from_found known count t (command_of t.token) x room refl none.1
                ]
          ]
    ]

-- a valid command has room
pub commands_fit : (known : Declarations) (count : ℕ) (s : Statement) → count ≤ 64 → ValidStatement known count s → count + commands_in s ≤ 64
commands_fit known count (remark r) room valid = omega arith
commands_fit known count (poly name sum) room valid = omega arith
commands_fit known count (again name other) room valid = omega arith
commands_fit known count (ideal name ms) room valid = omega arith
commands_fit known count (command w name) room valid = omega (arith, valid.0)
commands_fit known count (command_std w name) room valid = omega (arith, valid.0)

pub record StatementsAre (known : Declarations) (count : ℕ) (done : List Statement) (t : Place) (x : List Statement) : Type 0 where
  pub statements : List Statement
  pub last : Place
  pub is : x ≡ done ++ statements
  pub stand : Stand t (flat_map statement_tokens statements) last
  pub whole : last.token ≡ end
  pub valid : ValidStatements known count statements

-- Statements that a loop reads stand there up to the end, each valid behind those before it.
pub statements_found : (n : ℕ) (known : Declarations) (count : ℕ) (done : List Statement) (t : Place) (x : List Statement) → count ≤ 64 → statements_at n known count done t ≡ Ok x → StatementsAre known count done t x
unfolding statements_at
statements_found zero known count done t x room e = absurd cc
statements_found (suc n) known count done t x room e =
    let branch = chosen (nat_le 1 count && is_the_end t.token) _ _ _ e in
    elim branch [
      | inl over ↦
          let p = and_parts (nat_le 1 count) (is_the_end t.token) over.0 in
          record { statements = []; last = t; is = sym (ok_is done x over.1) ∙ sym (append-nil done); stand = refl; whole = end_is t.token p.1; valid = leb-true 1 count p.0 }
      | inr on ↦
          let a = bind_ok _ _ _ on.1 in
          let s = statement_found known count t a.0 room a.1 in
          let h = statements_found n (after known a.0.0) (count + commands_in a.0.0) (done ++ a.0.0 ∷ []) a.0.1 x (commands_fit known count a.0.0 room s.1) a.2 in
          let regrouped : (done ++ a.0.0 ∷ []) ++ h.statements ≡ done ++ a.0.0 ∷ h.statements = append_assoc done (a.0.0 ∷ []) h.statements in
          record {
            statements = a.0.0 ∷ h.statements;
            last = h.last;
            is = subst (λ (l : List Statement). x ≡ l) regrouped h.is;
            stand = Stand-then t (statement_tokens a.0.0) a.0.1 (flat_map statement_tokens h.statements) h.last s.0 h.stand;
            whole = h.whole;
            valid = (s.1, h.valid);
          }
    ]
