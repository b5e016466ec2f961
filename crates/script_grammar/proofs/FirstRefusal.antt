-- The refusal of a script is the first one, and so is that of an expression.
-- The facts on the reader of the whole tree, or of an expression, at the place of the first token of the bytes.
use Rattle.std.proofs.Common.{◌≡◌, ℕ, suc, ◌<◌, List, [], ◌∷◌, Result, Err, refl, sym, ap, subst, ◌∙◌, ◌⊎◌, inl, inr, arith}
use Rattle.script_grammar.specs.declared.refusal.ReadKind.{ReadKind}
use Rattle.script_grammar.specs.declared.refusal.Refusal.{Refusal}
use Rattle.script_grammar.specs.Tokens.{Token, Place, next}
use Rattle.script_grammar.specs.Trees.{Sum, Tree}
use Rattle.script_grammar.specs.Steps.{◌>>=◌}
use Rattle.script_grammar.specs.Expressions.{Declarations, expression_at}
use Rattle.script_grammar.specs.Valid.{Stand}
use Rattle.script_grammar.specs.Script.{tree_at, script_of}
use Rattle.script_grammar.specs.First.{IsLate, refusal_at, IsFirst, IsFirstOfSum}
use Rattle.script_grammar.specs.Causes.{HasCause, HasCauseInSum}
use Rattle.script_grammar.proofs.Places.{next_placed}
use Rattle.script_grammar.proofs.TreeTokens.{AreTokens, AreTokens-front, AreTokens-sum, AreTokens-tree}
use Rattle.script_grammar.proofs.CauseSteps.{cause_of}
use Rattle.script_grammar.proofs.SumCauses.{expression_caused}
use Rattle.script_grammar.proofs.ScriptCauses.{tree_caused}
use Rattle.script_grammar.proofs.Steps.{bind_err, never}
use Rattle.script_grammar.proofs.ValidScriptIsRead.{script_again}
use Rattle.script_grammar.proofs.ByTokens.{Any, Local}
use Rattle.script_grammar.proofs.ExpressionsByTokens.{SpellsSum, expression_local}
use Rattle.script_grammar.proofs.ScriptByTokens.{just, tree_read, tree_is, SpellsShape, tree_local}

-- What refuses a tree refuses it where the place behind is kept too.
read_fails : (t : Place) (f : Refusal) → tree_at t ≡ Err f → tree_read t ≡ Err f
read_fails t f e = elim (bind_err (tree_read t) just f (sym (tree_is t) ∙ e)) [ inl early ↦ early | inr late ↦ absurd (never late.0.0 f late.2) ]

-- What refuses a tree with the place behind it refuses the tree.
tree_refuses : (t : Place) (f : Refusal) → tree_read t ≡ Err f → tree_at t ≡ Err f
tree_refuses t f e = tree_is t ∙ ap (λ (r : Result (Tree × Place) Refusal). r >>= just) e

-- The refusal of a script is the first one, with its cause.
pub first_is : (bytes : List ℕ) (f : Refusal) → script_of bytes ≡ Err f → IsFirst bytes f
unfolding script_of
first_is bytes f e =
    let law : Local IsLate Tree (suc (next bytes).left) Any tree_read SpellsShape = tree_local in
    let r = law.refuses (next bytes) f (omega arith) (next_placed bytes) tt (read_fails (next bytes) f e) in
    let why = tree_caused (next bytes) f (next_placed bytes) (read_fails (next bytes) f e) in
    let tokens : AreTokens r.before = let b = r.begun in AreTokens-front r.before b.1 (subst AreTokens b.2.0 (AreTokens-tree b.0)) in
    let dead = λ (others : List ℕ) (p v : Place) (st : Stand (next others) r.before p) (st-2 : Stand p r.between v) (h : v.token ≡ r.at.token).
    tree_refuses (next others) (refusal_at p r.kind) (r.again (next others) p v (next_placed others) st st-2 h) in
    record {
      before = r.before;
      place = r.place;
      between = r.between;
      at = r.at;
      kind = r.kind;
      to_place = r.to_place;
      to_at = r.to_at;
      near = r.near;
      is = r.is;
      begun = let b = r.begun in (b.0, b.1, b.2.0, b.2.1);
      cause = cause_of HasCause (next bytes) f r.before why.before r.place why.place r.kind why.kind (next_placed bytes) (r.to_place, tokens) why.stand r.is why.is why.cause;
      dead = dead;
      none = λ others p v t st st-2 h s. never t (refusal_at p r.kind) (sym (script_again others t s) ∙ dead others p v st st-2 h);
    }

-- no kind is known later
abbrev Never : ReadKind → List Token → Type 0
Never kind between = ⊥

-- Where no kind is known later, a refusal is known at the place that it names.
at_place : (place at : Place) (between : List Token) (kind : ReadKind) → Stand place between at → (between ≡ []) ⊎ Never kind between → place ≡ at
at_place place at [] kind st (inl e) = st
at_place place at (i ∷ between) kind st (inl e) = absurd cc
at_place place at between kind st (inr e) = absurd e

-- Where no kind is known later, nothing stands between the place of a refusal and itself.
stand_here : (p v : Place) (between : List Token) (kind : ReadKind) → p ≡ v → (between ≡ []) ⊎ Never kind between → Stand p between v
stand_here p v [] kind e (inl h) = e
stand_here p v (i ∷ between) kind e (inl h) = absurd cc
stand_here p v between kind e (inr h) = absurd h

-- The refusal of an expression is the first one, with its cause.
pub first_of_sum_is : (known : Declarations) (bytes : List ℕ) (f : Refusal) → 1 < known.prime → expression_at known (next bytes) ≡ Err f → IsFirstOfSum known bytes f
first_of_sum_is known bytes f prime e =
    let law : Local Never Sum (suc (next bytes).left) Any (expression_at known) (SpellsSum known 32) = expression_local known prime in
    let r = law.refuses (next bytes) f (omega arith) (next_placed bytes) tt e in
    let why = expression_caused known (next bytes) f (next_placed bytes) e in
    let tokens : AreTokens r.before = let b = r.begun in AreTokens-front r.before b.1 (subst AreTokens b.2.0 (AreTokens-sum b.0)) in
    let same = at_place r.place r.at r.between r.kind r.to_at r.near in
    record {
      before = r.before;
      place = r.place;
      kind = r.kind;
      stand = r.to_place;
      is = r.is;
      begun = let b = r.begun in (b.0, b.1, b.2.0, b.2.1);
      cause = cause_of (λ kind tokens p. HasCauseInSum kind known tokens p) (next bytes) f r.before why.before r.place why.place r.kind why.kind (next_placed bytes) (r.to_place, tokens) why.stand r.is why.is why.cause;
      dead = λ others p st h. r.again (next others) p p (next_placed others) st (stand_here p p r.between r.kind refl r.near) (h ∙ ap (λ (x : Place). x.token) same);
    }
