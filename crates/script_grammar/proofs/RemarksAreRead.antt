-- Remarks that stand there are read.
-- Step by step along the reading function of a remark, and by induction on the remarks, each of which takes bytes.
use Rattle.std.proofs.Common.{◌≡◌, ℕ, zero, suc, ◌≤◌, true, false, List, [], ◌∷◌, ◌++◌, Ok, refl, sym, ap, ◌∙◌, append_assoc, arith}
use Rattle.std.proofs.lemmas.List.{append-nil}
use Rattle.std.specs.Prelude.{codes}
use Rattle.std.specs.List.{flat_map}
use Rattle.script_grammar.specs.Tokens.{Place, next}
use Rattle.script_grammar.specs.Words.{is_the_word}
use Rattle.script_grammar.specs.Trees.{Remark, option, library, remark_tokens}
use Rattle.script_grammar.specs.Statements.{begins_remark, remark_at, remarks_at}
use Rattle.script_grammar.specs.Valid.{Stand}
use Rattle.script_grammar.specs.Places.{Placed}
use Rattle.script_grammar.proofs.Steps.{Stand-split}
use Rattle.script_grammar.proofs.Places.{begins_with_word, behind_word}
use Rattle.script_grammar.proofs.StepsAreRead.{on_then, off_then, read_then, mark_then, word_then, text_then}

-- A remark that stands there is read.
pub remark_again : (t : Place) (r : Remark) (u : Place) → Stand t (remark_tokens r) u → remark_at t ≡ Ok (r, u)
unfolding remark_at
remark_again t option u p =
    on_then (is_the_word (codes "option") t.token) _ _ _ (ap (is_the_word (codes "option")) p.0)
    (mark_then _ _ _ _ _ p.1.0 (word_then _ _ _ _ _ p.1.1.0 (mark_then _ _ _ _ _ p.1.1.1.0 (mark_then _ _ _ _ _ p.1.1.1.1.0 (ap (λ (x : Place). Ok (option, x)) p.1.1.1.1.1)))))
remark_again t library u p =
    off_then (is_the_word (codes "option") t.token) _ _ _ (ap (is_the_word (codes "option")) p.0)
    (text_then (codes "sing.lib") _ (next t.rest) _ _ p.1.0 (mark_then _ _ _ _ _ p.1.1.0 (ap (λ (x : Place). Ok (library, x)) p.1.1.1)))

-- A remark begins with one of its two words.
pub remark_begins : (t : Place) (r : Remark) (u : Place) → Stand t (remark_tokens r) u → begins_remark t.token ≡ true
remark_begins t option u p = ap begins_remark p.0
remark_begins t library u p = ap begins_remark p.0

-- The first token of a remark is a word.
remark_word : (r : Remark) → begins_with_word (remark_tokens r) ≡ true
remark_word option = refl
remark_word library = refl

-- Remarks that stand there are read, up to where none begins.
pub remarks_again : (n : ℕ) (done : List Remark) (t : Place) (rs : List Remark) (u : Place) → Placed t → t.left ≤ n → Stand t (flat_map remark_tokens rs) u → begins_remark u.token ≡ false → remarks_at n done t ≡ Ok (done ++ rs, u)
unfolding remarks_at
remarks_again zero done t [] u placed room p over = ap (λ (x : Place). Ok (done, x)) p ∙ ap (λ (l : List Remark). Ok (l, u)) (sym (append-nil done))
remarks_again zero done t (r ∷ rs) u placed room p over =
    let q = Stand-split t (remark_tokens r) (flat_map remark_tokens rs) u p in
    let less = behind_word t (remark_tokens r) q.0 placed (remark_word r) q.1 in
    absurd (omega (arith, less.0))
remarks_again (suc n) done t [] u placed room p over =
    off_then (begins_remark t.token) _ _ _ (ap (λ (x : Place). begins_remark x.token) p ∙ over)
    (ap (λ (x : Place). Ok (done, x)) p ∙ ap (λ (l : List Remark). Ok (l, u)) (sym (append-nil done)))
remarks_again (suc n) done t (r ∷ rs) u placed room p over =
    let q = Stand-split t (remark_tokens r) (flat_map remark_tokens rs) u p in
    let less = behind_word t (remark_tokens r) q.0 placed (remark_word r) q.1 in
    let on = remarks_again n (done ++ r ∷ []) q.0 rs u less.1 (omega (arith, less.0)) q.2 over in
    on_then (begins_remark t.token) _ _ _ (remark_begins t r q.0 q.1)
    (read_then (remark_at t) _ (r, q.0) _ (remark_again t r q.0 q.1) (on ∙ ap (λ (l : List Remark). Ok (l, u)) (append_assoc done (r ∷ []) rs)))
