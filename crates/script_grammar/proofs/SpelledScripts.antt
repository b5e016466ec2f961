-- Tokens stand one after the other where the bytes spell them one after the other.
-- By induction on the tokens, by what is said of the next one.
use Rattle.std.proofs.Common.{◌≡◌, ℕ, List, [], ◌∷◌, refl, sym, ap, subst, ◌∙◌}
use Rattle.script_grammar.specs.Tokens.{Token, Place, next, end}
use Rattle.script_grammar.specs.Spelling.{Spells}
use Rattle.script_grammar.specs.Trees.{Tree, tree_tokens}
use Rattle.script_grammar.specs.Valid.{Stand, SpellsTree}
use Rattle.script_grammar.specs.Places.{IsToken}
use Rattle.script_grammar.specs.Ends.{SpellsAll}
use Rattle.script_grammar.proofs.Layouts.{spelled_next, end_next}
use Rattle.script_grammar.proofs.Spelled.{next_spelled, end_spelled}
use Rattle.script_grammar.proofs.TreeTokens.{AreTokens, AreTokens-tree}

-- Tokens that stand up to the end are spelled one after the other.
stand_spelled : (bytes : List ℕ) (tokens : List Token) (u : Place) → AreTokens tokens → Stand (next bytes) tokens u → u.token ≡ end → SpellsAll bytes tokens
stand_spelled bytes [] u h p whole = end_spelled bytes (ap (λ (x : Place). x.token) p ∙ whole)
stand_spelled bytes (i ∷ tokens) u h p whole =
    let s = next_spelled bytes (subst IsToken (sym p.0) h.0) in
    let rest = (next bytes).rest in
    (rest, subst (λ (k : Token). Spells bytes k rest) p.0 s, stand_spelled rest tokens u h.1 p.1 whole)

-- Tokens that are spelled one after the other stand up to the end.
spelled_stand : (bytes : List ℕ) (tokens : List Token) → SpellsAll bytes tokens → (u : Place) × Stand (next bytes) tokens u × (u.token ≡ end)
spelled_stand bytes [] s = (next bytes, refl, ap (λ (x : Place). x.token) (end_next bytes s))
spelled_stand bytes (i ∷ tokens) s =
    let n = spelled_next bytes i s.0 s.1 in
    let r = spelled_stand s.0 tokens s.2 in
    let on : Stand (next (next bytes).rest) tokens r.0 = subst (λ (rest : List ℕ). Stand (next rest) tokens r.0) (sym (ap (λ (x : Place). x.rest) n)) r.1 in
    (r.0, (ap (λ (x : Place). x.token) n, on), r.2)

-- The tokens of a tree that is spelled by its places are spelled one after the other.
pub tree_spelled : (bytes : List ℕ) (t : Tree) → SpellsTree bytes t → SpellsAll bytes (tree_tokens t)
tree_spelled bytes t s = stand_spelled bytes (tree_tokens t) s.0 (AreTokens-tree t) s.1 s.2

-- A tree whose tokens are spelled one after the other is spelled by its places.
pub spelled_tree : (bytes : List ℕ) (t : Tree) → SpellsAll bytes (tree_tokens t) → SpellsTree bytes t
spelled_tree bytes t s = spelled_stand bytes (tree_tokens t) s
