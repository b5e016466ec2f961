-- A script read part by part is the script that is read.
use Rattle.std.proofs.Common.{◌≡◌, ℕ, suc, List, [], Result, Ok, Err, refl, sym, ◌∙◌}
use Rattle.script_grammar.specs.declared.refusal.Refusal.{Refusal}
use Rattle.script_grammar.specs.declared.script.Script.{Script}
use Rattle.script_grammar.specs.Tokens.{Place, next}
use Rattle.script_grammar.specs.Trees.{Tree}
use Rattle.script_grammar.specs.Steps.{◌>>=◌}
use Rattle.script_grammar.specs.Statements.{remarks_at, degree_of, letters_of}
use Rattle.script_grammar.specs.Script.{ring_part, noether_part, statements_at, tree_at, script_of}
use Rattle.script_grammar.specs.Meaning.{meaning}
use Rattle.ring_reader.specs.RingView.{ring_value}
use Rattle.ring_reader.specs.Parts.{script_parts, no_names}
use Rattle.ring_reader.specs.Answers.{asked_by}

-- ---- one after the other
bind_same : {A B : Type 0} (r : Result A Refusal) (f g : A → Result B Refusal) → ((x : A) → f x ≡ g x) → (r >>= f) ≡ (r >>= g)
bind_same (Ok x) f g h = h x
bind_same (Err e) f g h = refl

-- Steps of reading may be grouped in either way.
bind_then : {A B C : Type 0} (r : Result A Refusal) (f : A → Result B Refusal) (g : B → Result C Refusal) → ((r >>= f) >>= g) ≡ (r >>= λ x. f x >>= g)
bind_then (Ok x) f g = refl
bind_then (Err e) f g = refl

-- ---- the whole
abbrev tree_meaning : Tree → Result Script Refusal
tree_meaning x = Ok (meaning x)

-- A script read part by part, each to its value, is the meaning of its tree.
pub parts_are : (t : Place) → script_parts t ≡ (tree_at t >>= λ x. Ok (meaning x))
unfolding tree_at
parts_are t =
    bind_then (remarks_at t.left [] t) (λ x. Ok x.1) _
    ∙ bind_same (remarks_at t.left [] t) _ _ (λ before.
    bind_then (ring_part before.1) (λ x. Ok (ring_value x.0, x.1)) _
    ∙ bind_same (ring_part before.1) _ _ (λ ring.
    bind_then (remarks_at ring.1.left [] ring.1) (λ x. Ok x.1) _
    ∙ bind_same (remarks_at ring.1.left [] ring.1) _ _ (λ between.
    bind_then (noether_part (letters_of ring.0.variables) between.1) (λ x. Ok (degree_of x.0, x.1)) _
    ∙ bind_same (noether_part (letters_of ring.0.variables) between.1) _ _ (λ noether.
    bind_then (statements_at (suc noether.1.left) (no_names (ring_value ring.0)) 0 [] noether.1) _ _
    ∙ sym (bind_then (statements_at (suc noether.1.left) (no_names (ring_value ring.0)) 0 [] noether.1) _ tree_meaning))
    ∙ sym (bind_then (noether_part (letters_of ring.0.variables) between.1) _ tree_meaning))
    ∙ sym (bind_then (remarks_at ring.1.left [] ring.1) _ tree_meaning))
    ∙ sym (bind_then (ring_part before.1) _ tree_meaning))
    ∙ sym (bind_then (remarks_at t.left [] t) _ tree_meaning)

-- What bytes ask for is what is read part by part from their first token on.
pub asked_is : (bytes : List ℕ) → asked_by bytes ≡ script_parts (next bytes)
unfolding script_of
asked_is bytes = sym (parts_are (next bytes))
