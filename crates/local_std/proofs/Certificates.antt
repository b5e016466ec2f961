-- What is certified of a command: its problem was solved, and stands in the script's letters.
-- The lines of blocks one after another, with the last line, are those of the certificate behind its first line.
use Rattle.std.proofs.Common.{◌≡◌, ℕ, suc, ◌+◌, List, [], ◌∷◌, ◌++◌, length, map, Some, codes, refl, sym, ◌∙◌, ap, arith, append_assoc}
use Rattle.std.specs.Prelude.{slice_get}
use Rattle.std.specs.List.{AllByRecursion, AllZip}
use Rattle.std.proofs.lemmas.List.{append-nil, map-append, length-map}
use Rattle.script_grammar.specs.declared.script.Subject.{Subject}
use Rattle.script_grammar.specs.declared.script.Subject.TheVariants.{Ideal, Function}
use Rattle.script_grammar.specs.declared.script.Word.{Word}
use Rattle.script_grammar.specs.declared.script.Word.TheVariants.{Std, Vdim, Kbase, HighCorner, Milnor, Tjurina}
use Rattle.script_grammar.specs.declared.script.Command.{Command}
use Rattle.script_grammar.specs.declared.script.Script.{Script}
use Rattle.script_grammar.specs.Statements.{is_on_poly}
use Rattle.ring_reader.specs.Coherent.{IsSubject, IsCoherent, BelongsTo}
use Rattle.sparse_poly.specs.Ideal.{Problem}
use Rattle.cert_grammar.specs.Lines.{line_text, text}
use Rattle.cert_grammar.specs.Blocks.{Block}
use Rattle.cert_grammar.specs.Cert.{head_line, numbered, in_turn, block_lines, blocks_lines}
use Rattle.cert_grammar.specs.declared.certified.Certified.{Certified}
use Rattle.cert_grammar.specs.Certified.{IsCertified, block_of, certificate_text}
use Rattle.cert_grammar.proofs.Refusals.{text-append}
use Rattle.local_std.specs.Answer.{problem_in, problem_of, Certifies}
use Rattle.local_std.specs.declared.solved.Solved.{Solved}
use Rattle.local_std.specs.Solved.{problem_asked, IsSolved, claim_of}
use Rattle.local_std.specs.Claims.{numbered_block}
use Rattle.local_std.proofs.Certified.{certified, ring_variables}
use Rattle.local_std.proofs.Accepted.{accepted}

-- ---- lists
-- What was put last stands at the last place.
pub get_last : {A : Type 0} (xs : List A) (x : A) → slice_get (xs ++ x ∷ []) (length xs) ≡ Some x
get_last [] x = refl
get_last (y ∷ xs) x = get_last xs x

-- Lists whose members belong to each other one by one do so behind others that do.
pub zip_append : {A B : Type 0} (R : A → B → Type 0) (xs us : List A) (ys vs : List B) → AllZip R xs ys → AllZip R us vs → AllZip R (xs ++ us) (ys ++ vs)
zip_append R [] us [] vs h k = k
zip_append R [] us (b ∷ ys) vs h k = absurd h
zip_append R (a ∷ xs) us [] vs h k = absurd h
zip_append R (a ∷ xs) us (b ∷ ys) vs h k = (h.0, zip_append R xs us ys vs h.1 k)

-- What holds of all members of two lists holds of those of both together.
pub all_append : {A : Type 0} (Q : A → Type 0) (xs ys : List A) → AllByRecursion Q xs → AllByRecursion Q ys → AllByRecursion Q (xs ++ ys)
all_append Q [] ys h k = k
all_append Q (x ∷ xs) ys h k = (h.0, all_append Q xs ys h.1 k)

-- ---- a command
-- The problem of a command is in the script's variables.
pub in_script : (s : Script) (p d : ℕ) (w : Word) (x : Subject) → IsSubject p (length s.names) d (is_on_poly w) x → (problem_in s w x).n ≡ length s.names
in_script s p d w (Ideal P) h = h.2
in_script s p d Std (Function f) h = refl
in_script s p d Vdim (Function f) h = refl
in_script s p d Kbase (Function f) h = refl
in_script s p d HighCorner (Function f) h = refl
in_script s p d Milnor (Function f) h = refl
in_script s p d Tjurina (Function f) h = refl

module _ (s : Script) (coherent : IsCoherent s) (c : Command) (belongs : BelongsTo s c) (one : Solved) (solved : IsSolved one) (is : problem_asked one.question ≡ problem_of s c) where
  -- What was solved for a command can be certified in the script's letters.
  pub certified_for : IsCertified (claim_of s.names one)
  certified_for =
      certified (problem_asked one.question) solved.problem s.names coherent.letters (sym (ap (λ (P : Problem). P.n) is ∙ in_script s s.field s.d c.word c.subject belongs.1))
      one.entries solved.legal one.answer (ring_variables (problem_asked one.question).p (problem_asked one.question).n one.answer solved.ring) solved.value

  -- And it certifies the command.
  pub certifies : Certifies s c (claim_of s.names one)
  certifies = record { letters = refl; problem = is; answer = solved.value; accepted = accepted (claim_of s.names one) solved.problem solved.legal solved.settled solved.value refl }

-- ---- lines
-- The text of the first blocks, behind so many.
abbrev pub blocks_text : ℕ → List Block → List ℕ
blocks_text i xs = text (in_turn numbered_block i xs)

-- The lines of blocks with the last line are those of the first ones, and then those of the others.
blocks_split : (i : ℕ) (xs ys : List Block) → text (blocks_lines i (xs ++ ys)) ≡ blocks_text i xs ++ text (blocks_lines (i + length xs) ys)
blocks_split i [] ys = ap (λ k. text (blocks_lines k ys)) (let p : i ≡ i + 0 = omega arith in p)
blocks_split i (x ∷ xs) ys =
    let rest : List ℕ = text (blocks_lines (i + length (x ∷ xs)) ys) in
    let same : suc i + length xs ≡ i + length (x ∷ xs) = omega arith in
    text-append (block_lines (suc i) x) (blocks_lines (suc i) (xs ++ ys))
    ∙ ap (λ (z : List ℕ). text (block_lines (suc i) x) ++ z) (blocks_split (suc i) xs ys ∙ ap (λ k. blocks_text (suc i) xs ++ text (blocks_lines k ys)) same)
    ∙ sym (append_assoc (text (block_lines (suc i) x)) (blocks_text (suc i) xs) rest)
    ∙ ap (λ (z : List ℕ). z ++ rest) (sym (text-append (numbered_block i x) (in_turn numbered_block (suc i) xs)))

-- One block more stands behind the first ones.
blocks_push : (i : ℕ) (xs : List Block) (y : Block) → blocks_text i (xs ++ y ∷ []) ≡ blocks_text i xs ++ text (block_lines (suc (i + length xs)) y)
blocks_push i [] y =
    text-append (block_lines (suc i) y) []
    ∙ append-nil (text (block_lines (suc i) y))
    ∙ ap (λ k. text (block_lines k y)) (let p : suc i ≡ suc (i + 0) = omega arith in p)
blocks_push i (x ∷ xs) y =
    let last : List ℕ = text (block_lines (suc (i + length (x ∷ xs))) y) in
    let same : suc (suc i + length xs) ≡ suc (i + length (x ∷ xs)) = omega arith in
    text-append (block_lines (suc i) x) (in_turn numbered_block (suc i) (xs ++ y ∷ []))
    ∙ ap (λ (z : List ℕ). text (block_lines (suc i) x) ++ z) (blocks_push (suc i) xs y ∙ ap (λ k. blocks_text (suc i) xs ++ text (block_lines k y)) same)
    ∙ sym (append_assoc (text (block_lines (suc i) x)) (blocks_text (suc i) xs) last)
    ∙ ap (λ (z : List ℕ). z ++ last) (sym (text-append (numbered_block i x) (in_turn numbered_block (suc i) xs)))

-- what is written once the blocks of the first claims are
abbrev pub begun_text : List Certified → List ℕ
begun_text xs = line_text head_line ++ blocks_text 0 (map block_of xs)

-- what is still to be written behind so many claims
abbrev pub rest_text : ℕ → List Certified → List ℕ
rest_text k ys = text (blocks_lines k (map block_of ys))

-- there are as many blocks as claims
as_many : (xs : List Certified) → 0 + length (map block_of xs) ≡ length xs
as_many xs = omega (arith, length-map xs block_of)

-- A certificate is what is written once the blocks of its first claims are, and the rest.
pub certificate_split : (xs ys : List Certified) → certificate_text (xs ++ ys) ≡ begun_text xs ++ rest_text (length xs) ys
certificate_split xs ys =
    ap (λ (z : List Block). line_text head_line ++ text (blocks_lines 0 z)) (map-append block_of xs ys)
    ∙ ap (λ (z : List ℕ). line_text head_line ++ z) (blocks_split 0 (map block_of xs) (map block_of ys) ∙ ap (λ k. blocks_text 0 (map block_of xs) ++ rest_text k ys) (as_many xs))
    ∙ sym (append_assoc (line_text head_line) (blocks_text 0 (map block_of xs)) (rest_text (length xs) ys))

-- One claim more is written by its block.
pub begun_more : (xs : List Certified) (y : Certified) → begun_text (xs ++ y ∷ []) ≡ begun_text xs ++ text (block_lines (suc (length xs)) (block_of y))
begun_more xs y =
    ap (λ (z : List Block). line_text head_line ++ blocks_text 0 z) (map-append block_of xs (y ∷ []))
    ∙ ap (λ (z : List ℕ). line_text head_line ++ z) (blocks_push 0 (map block_of xs) (block_of y) ∙ ap (λ k. blocks_text 0 (map block_of xs) ++ text (block_lines (suc k) (block_of y))) (as_many xs))
    ∙ sym (append_assoc (line_text head_line) (blocks_text 0 (map block_of xs)) (text (block_lines (suc (length xs)) (block_of y))))

-- Behind all claims the last line is left.
pub rest_last : (k : ℕ) → rest_text k [] ≡ line_text (numbered (codes "done") k)
rest_last k = append-nil (line_text (numbered (codes "done") k))
