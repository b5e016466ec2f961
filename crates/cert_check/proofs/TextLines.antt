-- The lines that are counted of a block are those of its text, and a text has as many bytes as lines at least.
-- Each part of the text has as many lines as members, or as are counted of each; every line ends with a byte of its own.
use Rattle.std.proofs.Common.{◌≡◌, ℕ, suc, ◌+◌, ◌≤◌, List, [], ◌∷◌, ◌++◌, length, map, take, sym, ◌∙◌, ap, ap₂, arith, refl}
use Rattle.std.specs.Prelude.{sum, codes}
use Rattle.std.specs.List.{join_with_byte}
use Rattle.std.proofs.lemmas.List.Sums.{sum-map, sum_by-drop_more}
use Rattle.std.proofs.lemmas.List.{length-append, length-map, take_all}
use Rattle.sparse_poly.specs.Poly.{Polynomial, in_variables}
use Rattle.sparse_poly.specs.Ideal.{Problem}
use Rattle.entry_code.specs.declared.reading.Reading.{Reading}
use Rattle.entry_code.specs.Entry.{Entry as RunEntry}
use Rattle.text_out.specs.declared.answer.Answer.{Answer}
use Rattle.text_out.specs.declared.answer.Answer.TheVariants.{Fits, TooSmall}
use Rattle.cert_grammar.specs.Words.{Ring, poly_word}
use Rattle.cert_grammar.specs.Lines.{Word, Line, line_text, text}
use Rattle.cert_grammar.specs.Cert.{numbered, in_turn, counted, alone, reads_lines, entry_lines as entry_text, corner_line, stair_line, verdict_lines, block_lines as text_lines, blocks_lines, cert_lines}
use Rattle.cert_grammar.specs.declared.certified.Certified.{Certified}
use Rattle.cert_grammar.specs.Certified.{entry_of, verdict_of, ring_of, block_of, certificate_text}
use Rattle.cert_check.specs.Checks.{entry_lines, block_lines}

-- a sum with one number more in front
sum_first : {X : Type 0} (f : X → ℕ) (x : X) (xs : List X) → sum (map f (x ∷ xs)) ≡ f x + sum (map f xs)
sum_first f x xs = sum-map f (x ∷ xs) ∙ sum_by-drop_more f (x ∷ xs) 0 x (omega arith) ∙ ap (λ n. f x + n) (sym (sum-map f xs))

-- ---- lines of parts
-- members that have a line each
alone_long : {A : Type 0} (w : A → Word) (i : ℕ) (xs : List A) → length (in_turn (alone w) i xs) ≡ length xs
alone_long w i [] = refl
alone_long w i (x ∷ xs) = ap suc (alone_long w (suc i) xs)

-- readings have a line each, and the terms behind them one
reads_long : (r : Ring) (ds : List Reading) (f : Polynomial) → length (reads_lines r ds f) ≡ length ds + 1
reads_long r [] f = refl
reads_long r (d ∷ ds) f = ap suc (reads_long r ds f) ∙ (let z : suc (length ds + 1) ≡ suc (length ds) + 1 = omega arith in z)

-- entries have the lines that are counted of each
entries_long : (P : Problem) (r : Ring) (i : ℕ) (es : List RunEntry) → length (in_turn (entry_text r) i (map (entry_of P) es)) ≡ sum (map entry_lines es)
entries_long P r i [] = refl
entries_long P r i (e ∷ es) =
    length-append (entry_text r i (entry_of P e)) (in_turn (entry_text r) (suc i) (map (entry_of P) es))
    ∙ ap₂ (λ a b. a + b) own (entries_long P r (suc i) es)
    ∙ sym (sum_first entry_lines e es)
  where
    own : length (entry_text r i (entry_of P e)) ≡ length e.reads + 2
    own = ap suc (reads_long r e.reads (entry_of P e).poly) ∙ (let z : suc (length e.reads + 1) ≡ length e.reads + 2 = omega arith in z)

-- ---- blocks
-- a block has the lines that are counted of it
pub block_long : (k : ℕ) (x : Certified) → length (text_lines k (block_of x)) ≡ block_lines x
block_long k x = go x.answer
  where
    with : Answer → Certified
    with a = record { letters = x.letters; problem = x.problem; entries = x.entries; answer = a; corner = x.corner }

    gens : length (in_turn (alone (poly_word (ring_of x))) 0 (map (in_variables x.problem.n) x.problem.gens)) ≡ length x.problem.gens
    gens = alone_long (poly_word (ring_of x)) 0 (map (in_variables x.problem.n) x.problem.gens) ∙ length-map x.problem.gens (in_variables x.problem.n)

    entries : length (in_turn (entry_text (ring_of x)) 0 (map (entry_of x.problem) x.entries)) ≡ sum (map entry_lines (take (length x.entries) x.entries))
    entries = entries_long x.problem (ring_of x) 0 x.entries ∙ ap (λ es. sum (map entry_lines es)) (sym (take_all (length x.entries) x.entries (omega arith)))

    parts : (xs ys zs : List Line) (end : Line) → length (xs ++ (ys ++ (zs ++ end ∷ []))) ≡ length xs + (length ys + (length zs + 1))
    parts xs ys zs end = length-append xs (ys ++ (zs ++ end ∷ [])) ∙ ap (λ n. length xs + n) (length-append ys (zs ++ end ∷ []) ∙ ap (λ n. length ys + n) (length-append zs (end ∷ [])))

    go : (a : Answer) → length (text_lines k (block_of (with a))) ≡ block_lines (with a)
    go (TooSmall m) = ap (λ n. suc (suc (suc (suc n)))) (parts (counted (codes "gens") (alone (poly_word (ring_of x))) (map (in_variables x.problem.n) x.problem.gens)) (counted (codes "entries") (entry_text (ring_of x)) (map (entry_of x.problem) x.entries)) (verdict_lines (ring_of x) (verdict_of (TooSmall m) x.corner)) (numbered (codes "end") k)) ∙ omega (arith, gens, entries)
    go (Fits gs s) =
        let basis = alone_long (poly_word (ring_of x)) 0 gs in
        let fits = length-append (counted (codes "basis") (alone (poly_word (ring_of x))) gs) (corner_line (ring_of x) x.corner ∷ stair_line (ring_of x) s ∷ []) in
        ap (λ n. suc (suc (suc (suc n)))) (parts (counted (codes "gens") (alone (poly_word (ring_of x))) (map (in_variables x.problem.n) x.problem.gens)) (counted (codes "entries") (entry_text (ring_of x)) (map (entry_of x.problem) x.entries)) (verdict_lines (ring_of x) (verdict_of (Fits gs s) x.corner)) (numbered (codes "end") k)) ∙ omega (arith, gens, entries, basis, fits)

-- so have all blocks, and behind them there is one line
blocks_long : (k : ℕ) (xs : List Certified) → length (blocks_lines k (map block_of xs)) ≡ sum (map block_lines xs) + 1
blocks_long k [] = refl
blocks_long k (x ∷ xs) =
    length-append (text_lines (suc k) (block_of x)) (blocks_lines (suc k) (map block_of xs))
    ∙ ap₂ (λ a b. a + b) (block_long (suc k) x) (blocks_long (suc k) xs)
    ∙ ahead (block_lines x) (sum (map block_lines xs)) (sum (map block_lines (x ∷ xs))) (sum_first block_lines x xs)
  where
    ahead : (a b s : ℕ) → s ≡ a + b → a + (b + 1) ≡ s + 1
    ahead a b s e = omega (arith, e)

-- ---- texts
-- each line has a byte at least
text_long : (ls : List Line) → length ls ≤ length (text ls)
text_long [] = omega arith
text_long (l ∷ ls) =
    let z = text_long ls in
    let y = length-append (line_text l) (text ls) in
    let x = length-append (join_with_byte 32 l) (10 ∷ []) in
    omega (arith, z, y, x)

-- a certificate's text has as many bytes as the lines that are counted, and more
pub certificate_long : (xs : List Certified) → sum (map block_lines xs) + 2 ≤ length (certificate_text xs)
certificate_long xs = let z = text_long (cert_lines (map block_of xs)) in let y = blocks_long 0 xs in omega (arith, z, y)
