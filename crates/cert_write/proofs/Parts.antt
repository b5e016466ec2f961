-- The parts of a block that is certified can be written: its generators, entries and verdict are those of the ring.
use Rattle.std.proofs.Common.{◌≡◌, ◌≢◌, ℕ, zero, suc, ◌+◌, ◌-◌, ◌<◌, ◌≤◌, List, [], ◌∷◌, ◌++◌, length, map, codes, get_or, Option, Some, None, refl, sym, ◌∙◌, ap, subst, arith, append_assoc}
use Rattle.std.specs.Prelude.{slice_get, Result, IfOk}
use Rattle.std.specs.List.{AllByRecursion}
use Rattle.std.proofs.lemmas.List.{append-nil}
use Rattle.std.proofs.lemmas.Option.{slice_get_within, get_or_from_slice_get}
use Rattle.local_order.specs.Shape.{count}
use Rattle.sparse_poly.specs.Shape.{shape_of}
use Rattle.sparse_poly.specs.Poly.{Poly, Polynomial, IsCanonical, IsIn}
use Rattle.sparse_poly.specs.Ideal.{Problem}
use Rattle.sparse_poly.proofs.Sorted.{residues_of}
use Rattle.entry_code.specs.declared.reading.Reading.{Reading}
use Rattle.entry_code.specs.declared.term.Term.{Term}
use Rattle.entry_code.specs.Entry.{Entry as RunEntry}
use Rattle.text_out.specs.Answers.{IsModulo}
use Rattle.text_out.specs.declared.answer.Answer.{Answer}
use Rattle.cert_grammar.specs.Words.{Ring, IsPolyOf, IsNonzeroOf, mono_word, poly_word}
use Rattle.cert_grammar.specs.Lines.{Line, line_text, text}
use Rattle.cert_grammar.proofs.Refusals.{text-append}
use Rattle.cert_grammar.specs.Cert.{IsEntry, IsBlock, numbered, vars_line, counted, alone, reads_lines, in_turn, entry_lines, verdict_lines, block_lines}
use Rattle.cert_grammar.specs.Blocks.{Block}
use Rattle.cert_grammar.specs.declared.certified.Certified.{Certified}
use Rattle.cert_grammar.specs.Certified.{AreTerms, IsRunEntry, IsCertified, entry_of, block_of, poly_by_rank}
use Rattle.cert_grammar.proofs.CertifiedBlocks.{block_is}
use Rattle.cert_write.specs.Claim.{last_of}
use Rattle.cert_write.specs.Parts.{IsWritable}
use Rattle.cert_write.proofs.Steps.{behind_blanks}

-- A polynomial of the ring is one modulo its characteristic.
pub modulo : (r : Ring) (f : Polynomial) → IsPolyOf r f → IsModulo r.p (length r.letters) f
modulo r f h = (h.variables, residues_of r.p (length r.letters) f.terms h.canonical)

-- Polynomials other than 0 are polynomials.
pub nonzero_are : (r : Ring) (fs : List Polynomial) → AllByRecursion (IsNonzeroOf r) fs → AllByRecursion (IsPolyOf r) fs
nonzero_are r [] h = tt
nonzero_are r (f ∷ fs) h = (h.0.poly, nonzero_are r fs h.1)

-- The entries of what is certified have lines.
pub writable : (r : Ring) (P : Problem) → r.p ≡ P.p → length r.letters ≡ P.n → (es : List RunEntry) → AllByRecursion (IsRunEntry P) es → AllByRecursion (IsEntry r) (map (entry_of P) es) →
    AllByRecursion (IsWritable r P) es
writable r P p n [] h k = tt
writable r P p n (e ∷ es) h k = (record { terms = h.0.terms; poly = k.0.poly.poly; canonical = canonical }, writable r P p n es h.1 k.1)
  where
    canonical : IsCanonical P.p P.n (poly_by_rank P e.terms)
    canonical = subst (λ m. IsCanonical P.p m (poly_by_rank P e.terms)) n (subst (λ q. IsCanonical q (length r.letters) (poly_by_rank P e.terms)) p k.0.poly.poly.canonical)

-- The last member is that at the last place.
pub last_at : {A : Type 0} (xs : List A) (x : A) → 1 ≤ length xs → slice_get xs (length xs - 1) ≡ Some x → last_of xs ≡ Some x
last_at [] x some at = absurd (omega (arith, some))
last_at (y ∷ []) x some at = at
last_at (y ∷ z ∷ xs) x some at = last_at (z ∷ xs) x (omega arith) (ap (slice_get (y ∷ z ∷ xs)) (let p : suc (length (z ∷ xs) - 1) ≡ length (y ∷ z ∷ xs) - 1 = omega arith in p) ∙ at)

-- An empty list has no last member.
pub last_none : {A : Type 0} (xs : List A) → length xs ≡ 0 → last_of xs ≡ None
last_none [] e = refl
last_none (x ∷ xs) e = absurd (omega (arith, e))

-- A term by rank has a rank of the problem's monomials.
pub term_low : (P : Problem) (ts : List Term) (i : ℕ) (t : Term) → AreTerms P ts → slice_get ts i ≡ Some t → t.rank < count (shape_of P)
term_low P ts i t h at = subst (λ (u : Term). u.rank < count (shape_of P)) (get_or_from_slice_get ts i t t at) (go ts i h (slice_get_within ts i t at))
  where
    go : (ts : List Term) (i : ℕ) → AreTerms P ts → i < length ts → (get_or ts i t).rank < count (shape_of P)
    go [] i h l = absurd (omega (arith, l))
    go (u ∷ ts) zero h l = h.0
    go (u ∷ ts) (suc i) h l = go ts i h.4 (omega (arith, l))

-- ---- lines one after another
-- some lines, some more, and one line
pub lines_three : (s t u w : List ℕ) (A B : List Line) (l : Line) → s ≡ [] → t ≡ s ++ text A → u ≡ t ++ text B → w ≡ u ++ line_text l → w ≡ text (A ++ (B ++ l ∷ []))
lines_three s t u w A B l none e f g =
    g ∙ ap (λ (z : List ℕ). z ++ line_text l) (f ∙ ap (λ (z : List ℕ). z ++ text B) (e ∙ ap (λ (z : List ℕ). z ++ text A) none))
    ∙ append_assoc (text A) (text B) (line_text l)
    ∙ ap (λ (z : List ℕ). text A ++ (text B ++ z)) (sym (append-nil (line_text l)))
    ∙ ap (λ (z : List ℕ). text A ++ z) (sym (text-append B (l ∷ [])))
    ∙ sym (text-append A (B ++ l ∷ []))

-- some lines, and one line
pub lines_two : (s t u : List ℕ) (A : List Line) (l : Line) → s ≡ [] → t ≡ s ++ text A → u ≡ t ++ line_text l → u ≡ text (A ++ l ∷ [])
lines_two s t u A l none e f =
    f ∙ ap (λ (z : List ℕ). z ++ line_text l) (e ∙ ap (λ (z : List ℕ). z ++ text A) none)
    ∙ ap (λ (z : List ℕ). text A ++ z) (sym (append-nil (line_text l)))
    ∙ sym (text-append A (l ∷ []))

-- a piece, some lines, and two more
pub lines_four : (s t u v w piece : List ℕ) (A : List Line) (k l : Line) → t ≡ s ++ piece → u ≡ t ++ text A → v ≡ u ++ line_text k → w ≡ v ++ line_text l → w ≡ s ++ (piece ++ text (A ++ k ∷ l ∷ []))
lines_four s t u v w piece A k l e f g h =
    h ∙ ap (λ (z : List ℕ). z ++ line_text l) (g ∙ ap (λ (z : List ℕ). z ++ line_text k) (f ∙ ap (λ (z : List ℕ). z ++ text A) e))
    ∙ append_assoc (((s ++ piece) ++ text A)) (line_text k) (line_text l)
    ∙ append_assoc (s ++ piece) (text A) (line_text k ++ line_text l)
    ∙ append_assoc s piece (text A ++ (line_text k ++ line_text l))
    ∙ ap (λ (z : List ℕ). s ++ (piece ++ (text A ++ (line_text k ++ z)))) (sym (append-nil (line_text l)))
    ∙ ap (λ (z : List ℕ). s ++ (piece ++ z)) (sym (text-append A (k ∷ l ∷ [])))

-- ---- what loops make of the rest of a list
-- the lines of readings, and of the polynomial behind them
abbrev pub reads_text : Ring → Polynomial → ℕ → List Reading → List ℕ
reads_text r f k ds = text (reads_lines r ds f)

-- monomials behind blanks
abbrev pub stair_text : Ring → ℕ → List (List ℕ) → List ℕ
stair_text r k ms = behind_blanks (map (mono_word r) ms)

-- the polynomial of terms by rank
abbrev pub terms_poly : Problem → ℕ → List Term → Poly
terms_poly P i ts = poly_by_rank P ts

-- the lines of entries from the i-th on
abbrev pub entries_text : Ring → Problem → ℕ → List RunEntry → List ℕ
entries_text r P i es = text (in_turn (entry_lines r) i (map (entry_of P) es))

-- ---- the lines of a block
-- those up to the number of its entries, by the ring, the generators and that number
abbrev pub front_of : ℕ → Ring → List Polynomial → ℕ → List Line
front_of b r gens n =
    (numbered (codes "block") b ∷ numbered (codes "p") r.p ∷ vars_line r.letters ∷ numbered (codes "D") r.d ∷ [])
    ++ (counted (codes "gens") (alone (poly_word r)) gens ++ numbered (codes "entries") n ∷ [])

-- the same of a block
abbrev pub front_lines : ℕ → Block → List Line
front_lines b x = front_of b x.ring x.gens (length x.entries)

-- A text that has these lines for the parts of a block has them for the block.
pub front_is : {T E : Type 0} (o : Result T E) (bytes : T → List ℕ) (b : ℕ) (x : Block) (r : Ring) (gens : List Polynomial) (n : ℕ) → r ≡ x.ring → gens ≡ x.gens → n ≡ length x.entries →
    IfOk o (λ s. bytes s ≡ text (front_of b r gens n)) → IfOk o (λ s. bytes s ≡ text (front_lines b x))
front_is o bytes b x r gens n r_is gens_is n_is h =
    subst (λ (k : ℕ). IfOk o (λ s. bytes s ≡ text (front_of b x.ring x.gens k))) n_is
    (subst (λ (gs : List Polynomial). IfOk o (λ s. bytes s ≡ text (front_of b x.ring gs n))) gens_is
    (subst (λ (q : Ring). IfOk o (λ s. bytes s ≡ text (front_of b q gens n))) r_is h))

-- The text of a block is that of its front, of its entries, and of its answer and last line.
pub block_text : (b : ℕ) (x : Block) →
    text (block_lines b x) ≡ text (front_lines b x) ++ (text (in_turn (entry_lines x.ring) 0 x.entries) ++ text (verdict_lines x.ring x.verdict ++ numbered (codes "end") b ∷ []))
block_text b x =
    let ring : List Line = numbered (codes "block") b ∷ numbered (codes "p") x.ring.p ∷ vars_line x.ring.letters ∷ numbered (codes "D") x.ring.d ∷ [] in
    let gens : List Line = counted (codes "gens") (alone (poly_word x.ring)) x.gens in
    let count : List Line = numbered (codes "entries") (length x.entries) ∷ [] in
    let entries : List Line = in_turn (entry_lines x.ring) 0 x.entries in
    let last : List Line = verdict_lines x.ring x.verdict ++ numbered (codes "end") b ∷ [] in
    let joined : block_lines b x ≡ front_lines b x ++ (entries ++ last) = ap (λ (z : List Line). ring ++ z) (sym (append_assoc gens count (entries ++ last))) in
    ap text joined ∙ text-append (front_lines b x) (entries ++ last) ∙ ap (λ (z : List ℕ). text (front_lines b x) ++ z) (text-append entries last)
