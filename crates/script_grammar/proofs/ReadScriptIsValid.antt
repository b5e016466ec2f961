-- A script that is read is in the grammar.
-- Part by part along the reading function of the whole tree; the places where one part ends and the next begins are put together.
use Rattle.std.proofs.Common.{◌≡◌, ℕ, Bool, true, false, cond, List, [], ◌++◌, Result, Ok, Err, refl, sym, ap, subst, ◌∙◌, arith}
use Rattle.std.specs.Prelude.{codes}
use Rattle.std.specs.List.{flat_map}
use Rattle.script_grammar.specs.declared.refusal.Refusal.{Refusal}
use Rattle.script_grammar.specs.Tokens.{Place, next, end}
use Rattle.script_grammar.specs.Words.{is_the_word}
use Rattle.script_grammar.specs.Trees.{Statement, Tree, remark_tokens, ring_tokens, noether_tokens, statement_tokens, tree_tokens}
use Rattle.script_grammar.specs.Steps.{◌>>=◌}
use Rattle.script_grammar.specs.Statements.{letters_of, ring_at, noether_at}
use Rattle.script_grammar.specs.Script.{begins_later, tree_at, script_of}
use Rattle.script_grammar.specs.Valid.{Stand, IsValid, IsScript, first_known}
use Rattle.script_grammar.proofs.Steps.{ok_is, bind_ok, word_is, Stand-then}
use Rattle.script_grammar.proofs.StepsBehindRead.{taken}
use Rattle.script_grammar.proofs.ReadRemarksStand.{all_remarks_found}
use Rattle.script_grammar.proofs.ReadRingIsValid.{ring_found}
use Rattle.script_grammar.proofs.ReadNoetherIsValid.{noether_found}
use Rattle.script_grammar.proofs.ReadStatementsAreValid.{statements_found}

-- a test that must come out true, where two other refusals may be given
taken_of : {A B : Type 0} (b c : Bool) (d e : Refusal) (r : Result A Refusal) (f : A → Result B Refusal) (y : B) → (cond b r (cond c (Err d) (Err e)) >>= f) ≡ Ok y → (b ≡ true) × ((r >>= f) ≡ Ok y)
taken_of true c d e r f y h = (refl, h)
taken_of false true d e r f y h = absurd cc
taken_of false false d e r f y h = absurd cc

-- A tree that is read stands there up to the end and is valid.
pub tree_found : (t : Place) (x : Tree) → tree_at t ≡ Ok x → ((u : Place) × Stand t (tree_tokens x) u × (u.token ≡ end)) × IsValid x
unfolding tree_at
tree_found t x e =
    let before = bind_ok _ _ _ e in
    let b = all_remarks_found _ t before.0 before.1 in
    let at_ring = before.0.1 in
    let to_ring = taken (is_the_word (codes "ring") at_ring.token) _ (ring_at (next at_ring.rest)) _ x before.2 in
    let ring = bind_ok (ring_at (next at_ring.rest)) _ x to_ring.1 in
    let r = ring_found (next at_ring.rest) ring.0 ring.1 in
    let between = bind_ok _ _ _ ring.2 in
    let w = all_remarks_found _ ring.0.1 between.0 between.1 in
    let at_noether = between.0.1 in
    let letters = letters_of ring.0.0.variables in
    let to_noether = taken_of (is_the_word (codes "noether") at_noether.token) (begins_later at_noether.token) _ _ (noether_at letters (next at_noether.rest)) _ x between.2 in
    let noether = bind_ok (noether_at letters (next at_noether.rest)) _ x to_noether.1 in
    let m = noether_found letters (next at_noether.rest) noether.0 noether.1 in
    let statements = bind_ok _ _ _ noether.2 in
    let s = statements_found _ (first_known ring.0.0) 0 [] noether.0.1 statements.0 (omega arith) statements.1 in
    let made : Tree = record { before = before.0.0; ring = ring.0.0; between = between.0.0; noether = noether.0.0; statements = s.statements } in
    let whole : record { before = before.0.0; ring = ring.0.0; between = between.0.0; noether = noether.0.0; statements = statements.0 } ≡ x = ok_is _ x statements.2 in
    let same : made ≡ x = ap (λ (l : List Statement). record { before = before.0.0; ring = ring.0.0; between = between.0.0; noether = noether.0.0; statements = l }) (sym s.is) ∙ whole in
    let from_noether : Stand at_noether (noether_tokens noether.0.0 ++ flat_map statement_tokens s.statements) s.last =
    Stand-then at_noether (noether_tokens noether.0.0) noether.0.1 (flat_map statement_tokens s.statements) s.last (word_is (codes "noether") at_noether.token to_noether.0, m.0) s.stand in
    let from_between : Stand ring.0.1 (flat_map remark_tokens between.0.0 ++ (noether_tokens noether.0.0 ++ flat_map statement_tokens s.statements)) s.last =
    Stand-then ring.0.1 (flat_map remark_tokens between.0.0) at_noether (noether_tokens noether.0.0 ++ flat_map statement_tokens s.statements) s.last w from_noether in
    let from_ring : Stand at_ring (ring_tokens ring.0.0 ++ (flat_map remark_tokens between.0.0 ++ (noether_tokens noether.0.0 ++ flat_map statement_tokens s.statements))) s.last =
    Stand-then at_ring (ring_tokens ring.0.0) ring.0.1 (flat_map remark_tokens between.0.0 ++ (noether_tokens noether.0.0 ++ flat_map statement_tokens s.statements)) s.last (word_is (codes "ring") at_ring.token to_ring.0, r.0) from_between in
    subst (λ (y : Tree). ((u : Place) × Stand t (tree_tokens y) u × (u.token ≡ end)) × IsValid y) same (
      (s.last, Stand-then t (flat_map remark_tokens before.0.0) at_ring (ring_tokens ring.0.0 ++ (flat_map remark_tokens between.0.0 ++ (noether_tokens noether.0.0 ++ flat_map statement_tokens s.statements))) s.last b from_ring, s.whole),
      record { ring = r.1; noether = m.1; statements = s.valid },
    )

-- Bytes that are read are a script of the tree that was read.
pub script_found : (bytes : List ℕ) (t : Tree) → script_of bytes ≡ Ok t → IsScript bytes t
unfolding script_of
script_found bytes t e = tree_found (next bytes) t e
