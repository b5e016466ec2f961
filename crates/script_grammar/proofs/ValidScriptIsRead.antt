-- A script of the grammar is read, and so has one tree.
-- Part by part along the reading function of the whole tree: each part is read, and the next begins where it ends.
use Rattle.std.proofs.Common.{◌≡◌, ℕ, List, [], ◌++◌, Ok, refl, sym, ap, ◌∙◌, arith}
use Rattle.std.specs.Prelude.{codes}
use Rattle.std.specs.List.{flat_map}
use Rattle.script_grammar.specs.Tokens.{Place, next, end}
use Rattle.script_grammar.specs.Words.{is_the_word}
use Rattle.script_grammar.specs.Trees.{Tree, remark_tokens, ring_tokens, noether_tokens, statement_tokens, tree_tokens}
use Rattle.script_grammar.specs.Statements.{begins_remark, letters_of, ring_at, noether_at, remarks_at}
use Rattle.script_grammar.specs.Script.{tree_at, script_of}
use Rattle.script_grammar.specs.Valid.{Stand, IsValid, IsScript, first_known}
use Rattle.script_grammar.specs.Places.{Placed}
use Rattle.script_grammar.proofs.Steps.{ok_is, Stand-split}
use Rattle.script_grammar.proofs.Places.{next_placed, stand_placed}
use Rattle.script_grammar.proofs.StepsAreRead.{on_then, read_then}
use Rattle.script_grammar.proofs.RemarksAreRead.{remarks_again}
use Rattle.script_grammar.proofs.ValidRingIsRead.{ring_again}
use Rattle.script_grammar.proofs.ValidNoetherIsRead.{noether_again}
use Rattle.script_grammar.proofs.ValidStatementsAreRead.{statements_again}

-- A valid tree that stands up to the end is read.
tree_again : (t : Place) (x : Tree) (u : Place) → Placed t → Stand t (tree_tokens x) u → u.token ≡ end → IsValid x → tree_at t ≡ Ok x
unfolding tree_at
tree_again t x u placed p whole valid =
    let from_noether = noether_tokens x.noether ++ flat_map statement_tokens x.statements in
    let from_between = flat_map remark_tokens x.between ++ from_noether in
    let a = Stand-split t (flat_map remark_tokens x.before) (ring_tokens x.ring ++ from_between) u p in
    let at_ring = a.0 in
    let b = Stand-split at_ring (ring_tokens x.ring) from_between u a.2 in
    let c = Stand-split b.0 (flat_map remark_tokens x.between) from_noether u b.2 in
    let at_noether = c.0 in
    let d = Stand-split at_noether (noether_tokens x.noether) (flat_map statement_tokens x.statements) u c.2 in
    let ring_placed = stand_placed t (flat_map remark_tokens x.before) at_ring placed a.1 in
    let between_placed = stand_placed at_ring (ring_tokens x.ring) b.0 ring_placed.1 b.1 in
    let noether_placed = stand_placed b.0 (flat_map remark_tokens x.between) at_noether between_placed.1 c.1 in
    let statements_placed = stand_placed at_noether (noether_tokens x.noether) d.0 noether_placed.1 d.1 in
    let letters = letters_of x.ring.variables in
    read_then (remarks_at t.left [] t) _ (x.before, at_ring) _ (remarks_again t.left [] t x.before at_ring placed (omega arith) a.1 (ap begins_remark b.1.0))
    (read_then _ _ (x.ring, b.0) _ (on_then (is_the_word (codes "ring") at_ring.token) (ring_at (next at_ring.rest)) _ _ (ap (is_the_word (codes "ring")) b.1.0) (ring_again (next at_ring.rest) x.ring b.0 valid.ring b.1.1))
    (read_then (remarks_at b.0.left [] b.0) _ (x.between, at_noether) _ (remarks_again b.0.left [] b.0 x.between at_noether between_placed.1 (omega arith) c.1 (ap begins_remark d.1.0))
    (read_then _ _ (x.noether, d.0) _ (on_then (is_the_word (codes "noether") at_noether.token) (noether_at letters (next at_noether.rest)) _ _ (ap (is_the_word (codes "noether")) d.1.0) (noether_again letters (next at_noether.rest) x.noether d.0 valid.noether d.1.1))
    (read_then _ _ x.statements _ (statements_again _ (first_known x.ring) 0 [] d.0 x.statements u refl statements_placed.1 (omega arith) d.2 whole valid.statements) refl))))

-- Each script of the grammar is read as its tree.
pub script_again : (bytes : List ℕ) (t : Tree) → IsScript bytes t → script_of bytes ≡ Ok t
unfolding script_of
script_again bytes t s = tree_again (next bytes) t s.0.0 (next_placed bytes) s.0.1 s.0.2 s.1

-- No bytes are a script with two trees.
pub script_once : (bytes : List ℕ) (t u : Tree) → IsScript bytes t → IsScript bytes u → t ≡ u
script_once bytes t u s r = ok_is t u (sym (script_again bytes t s) ∙ script_again bytes u r)
