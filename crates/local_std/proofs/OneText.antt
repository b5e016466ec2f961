-- A script has one answering text.
-- A block is made of the terms of the reduced basis and of the staircase, or of the first missing monomial, and each is one.
use Rattle.std.proofs.Common.{◌≡◌, ℕ, ◌+◌, List, [], ◌∷◌, ◌++◌, map, refl, ap, sym, ◌∙◌}
use Rattle.sparse_poly.specs.Poly.{Polynomial}
use Rattle.sparse_poly.specs.Ideal.{Problem}
use Rattle.script_grammar.specs.declared.script.Word.{Word}
use Rattle.script_grammar.specs.declared.script.Word.TheVariants.{Std, Vdim, Kbase, HighCorner, Milnor, Tjurina}
use Rattle.script_grammar.specs.declared.script.Command.{Command}
use Rattle.script_grammar.specs.declared.script.Script.{Script}
use Rattle.text_out.specs.declared.answer.Answer.{Answer}
use Rattle.text_out.specs.declared.answer.Answer.TheVariants.{Fits, TooSmall}
use Rattle.text_out.specs.Block.{characteristic_of, heading, small_line, corner_line, dimension_line, kbase_lines, number_line, member_lines, fitting_lines, answer_lines}
use Rattle.local_std.specs.Answer.{problem_of, IsAnswerOf, IsBlock, AreBlocks, IsAnswer}
use Rattle.staircase.proofs.Basis.{one_basis}
use Rattle.staircase.proofs.Staircases.{one_staircase, one_missing, none_missing}

-- the lines of members are those of their terms
member_lines-terms : (letters : List ℕ) (p k : ℕ) (fs gs : List Polynomial) → map (λ f. f.terms) fs ≡ map (λ f. f.terms) gs → member_lines letters p k fs ≡ member_lines letters p k gs
member_lines-terms letters p k [] [] e = refl
member_lines-terms letters p k [] (g ∷ gs) e = absurd cc
member_lines-terms letters p k (f ∷ fs) [] e = absurd cc
member_lines-terms letters p k (f ∷ fs) (g ∷ gs) e =
    let heads : f.terms ≡ g.terms = cc in
    let tails : map (λ f. f.terms) fs ≡ map (λ f. f.terms) gs = cc in
    let rest : member_lines letters p (k + 1) fs ≡ member_lines letters p (k + 1) gs = member_lines-terms letters p (k + 1) fs gs tails in
    cc

-- so are all lines where the degree fits
fitting_lines-terms : (letters : List ℕ) (p : ℕ) (word : Word) (fs gs : List Polynomial) (s t : List (List ℕ)) → map (λ f. f.terms) fs ≡ map (λ f. f.terms) gs → s ≡ t →
    fitting_lines letters p word fs s ≡ fitting_lines letters p word gs t
fitting_lines-terms letters p Std fs gs s t e q =
    ap (λ x. x ++ corner_line letters s ++ dimension_line s) (member_lines-terms letters p 1 fs gs e)
    ∙ ap (λ x. member_lines letters p 1 gs ++ corner_line letters x ++ dimension_line x) q
fitting_lines-terms letters p Vdim fs gs s t e q = ap dimension_line q
fitting_lines-terms letters p Kbase fs gs s t e q = ap (kbase_lines letters) q
fitting_lines-terms letters p HighCorner fs gs s t e q = ap (corner_line letters) q
fitting_lines-terms letters p Milnor fs gs s t e q = ap (number_line Milnor) q
fitting_lines-terms letters p Tjurina fs gs s t e q = ap (number_line Tjurina) q

-- two answers of an ideal have the same lines
one_lines : (letters : List ℕ) (p : ℕ) (word : Word) (P : Problem) (a b : Answer) → IsAnswerOf P a → IsAnswerOf P b → answer_lines letters p word a ≡ answer_lines letters p word b
one_lines letters p word P (Fits basis stair) (Fits other steps) x y =
    fitting_lines-terms letters p word basis other stair steps (one_basis P _ _ x.1 y.1) (one_staircase P stair steps x.2 y.2)
one_lines letters p word P (Fits basis stair) (TooSmall missing) x y = absurd (none_missing P missing x.0 y)
one_lines letters p word P (TooSmall missing) (Fits basis stair) x y = absurd (none_missing P missing y.0 x)
one_lines letters p word P (TooSmall missing) (TooSmall other) x y = ap (small_line letters) (one_missing P missing other x y)

-- a command has one block
one_block : (s : Script) (index : ℕ) (c : Command) (text other : List ℕ) → IsBlock s index c text → IsBlock s index c other → text ≡ other
one_block s index c text other x y =
    x.spelled
    ∙ ap (λ l. heading index c.word c.name ++ l) (one_lines s.names (characteristic_of c.subject) c.word (problem_of s c) x.answer y.answer x.answers y.answers)
    ∙ sym y.spelled

-- so commands have one text
one_blocks : (s : Script) (index : ℕ) (cs : List Command) (text other : List ℕ) → AreBlocks s index cs text → AreBlocks s index cs other → text ≡ other
one_blocks s index [] text other x y = x ∙ sym y
one_blocks s index (c ∷ cs) text other (f, r, b, bs, e) (g, q, d, ds, h) =
    e ∙ ap (λ z. z ++ r) (one_block s index c f g b d) ∙ ap (λ z. g ++ z) (one_blocks s (index + 1) cs r q bs ds) ∙ sym h

-- and so a script has at most one text
pub one_text : (s : Script) (text other : List ℕ) → IsAnswer s text → IsAnswer s other → text ≡ other
one_text s text other x y = one_blocks s 1 s.commands text other x y
