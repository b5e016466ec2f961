-- What reading a script answers, by the laws of the grammar.
use Rattle.std.proofs.Common.{◌≡◌, ℕ, ◌-◌, List, length, take, Result, Ok, Err, refl, sym, ap, subst, ◌∙◌}
use Rattle.std.specs.Prelude.{IfOk}
use Rattle.script_grammar.specs.declared.refusal.Refusal.{Refusal}
use Rattle.script_grammar.specs.declared.script.Script.{Script}
use Rattle.script_grammar.specs.Tokens.{Place, next}
use Rattle.script_grammar.specs.Trees.{Tree}
use Rattle.script_grammar.specs.Steps.{◌>>=◌}
use Rattle.script_grammar.specs.Script.{script_of, position_from}
use Rattle.script_grammar.specs.Valid.{IsScript}
use Rattle.script_grammar.specs.Meaning.{meaning}
use Rattle.script_grammar.proofs.ReadScriptIsValid.{script_found}
use Rattle.script_grammar.proofs.ValidScriptIsRead.{script_again}
use Rattle.ring_reader.specs.declared.error.ReadError.{ReadError}
use Rattle.ring_reader.specs.declared.error.ReadError.TheVariants as errors
use Rattle.ring_reader.specs.Answers.{Answers, asked_by, located}
use Rattle.ring_reader.specs.Parts.{script_parts}
use Rattle.ring_reader.proofs.Parts.{asked_is}

-- what was read part by part from the first token on is what was asked
pub asked_from : (bytes : List ℕ) (t : Place) (r : Result Script Refusal) → t ≡ next bytes → script_parts t ≡ r → asked_by bytes ≡ r
asked_from bytes t r e read = asked_is bytes ∙ ap script_parts (sym e) ∙ read

-- a refusal with its line and column
pub refused_at : (bytes : List ℕ) (f : Refusal) (at line column : ℕ) → asked_by bytes ≡ Err f → at ≡ length bytes - f.left → (line, column) ≡ position_from 1 1 (take at bytes)
    → (x : Refusal) × (asked_by bytes ≡ Err x) × (errors.At line column f.kind ≡ located bytes x)
refused_at bytes f at line column asked at_is position_is =
    let p = position_is ∙ ap (λ k. position_from 1 1 (take k bytes)) at_is in
    (f, asked, ap (λ (q : ℕ × ℕ). errors.At q.0 q.1 f.kind) p)

-- ---- what is read, and what is a script
tree_behind : (r : Result Tree Refusal) (s : Script) → (r >>= λ t. Ok (meaning t)) ≡ Ok s → (t : Tree) × (r ≡ Ok t) × (s ≡ meaning t)
tree_behind (Ok t) s e = (t, refl, sym cc)
tree_behind (Err f) s e = absurd cc

-- What is answered as read is the meaning of a script of the grammar.
pub answer_found : (bytes : List ℕ) (r : Result Script ReadError) → Answers bytes r (asked_by bytes) → IfOk r (λ s. (t : Tree) × IsScript bytes t × (s ≡ meaning t))
answer_found bytes (Ok s) a = let x = tree_behind (script_of bytes) s a in (x.0, script_found bytes x.0 x.1, x.2)
answer_found bytes (Err e) a = tt

-- Where the bytes are a script, what is answered is its meaning, or memory ran out.
pub answer_only : (bytes : List ℕ) (r : Result Script ReadError) → Answers bytes r (asked_by bytes) → (t : Tree) → IsScript bytes t → Answers bytes r (Ok (meaning t))
answer_only bytes r a t s =
    subst (λ (q : Result Script Refusal). Answers bytes r q) (ap (λ (q : Result Tree Refusal). q >>= λ x. Ok (meaning x)) (script_again bytes t s)) a
