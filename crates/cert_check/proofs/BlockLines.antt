-- The lines of a block: each entry begins behind the one before it, and all are among the lines of the block.
-- The lines of the entries so far are a sum, which grows by one number with each entry.
use Rattle.std.proofs.Common.{◌≡◌, ℕ, ◌+◌, ◌<◌, ◌≤◌, List, length, map, take, sym, ◌∙◌, ap, arith}
use Rattle.std.specs.Prelude.{sum}
use Rattle.std.specs.List.{sum_by}
use Rattle.std.proofs.lemmas.List.{take_more, take_all}
use Rattle.std.proofs.lemmas.List.Sums.{sum-map, sum_by_push, sum_by-take-le}
use Rattle.entry_code.specs.Entry.{Entry, no_entry, entry_at}
use Rattle.sparse_poly.specs.Poly.{Polynomial}
use Rattle.text_out.specs.declared.answer.Answer.{Answer}
use Rattle.text_out.specs.declared.answer.Answer.TheVariants.{Fits, TooSmall}
use Rattle.cert_grammar.specs.declared.certified.Certified.{Certified}
use Rattle.cert_check.specs.Checks.{entry_lines, entry_line, verdict_line, basis_size, block_lines}

-- one entry more
lines_more : (es : List Entry) (k : ℕ) → k < length es → sum (map entry_lines (take (k + 1) es)) ≡ sum (map entry_lines (take k es)) + entry_lines (entry_at es k)
lines_more es k l =
    sum-map entry_lines (take (k + 1) es)
    ∙ ap (sum_by entry_lines) (take_more es k no_entry l)
    ∙ sum_by_push entry_lines (take k es) (entry_at es k)
    ∙ ap (λ n. n + entry_lines (entry_at es k)) (sym (sum-map entry_lines (take k es)))

-- the first so many have no more lines than all
lines_within : (es : List Entry) (k : ℕ) → sum (map entry_lines (take k es)) ≤ sum (map entry_lines (take (length es) es))
lines_within es k =
    let z = sum_by-take-le entry_lines es k in
    let y = sum-map entry_lines (take k es) in
    let x = sum-map entry_lines (take (length es) es) in
    let w = ap (sum_by entry_lines) (take_all (length es) es (omega arith)) in
    omega (arith, z, y, x, w)

module _ (b : Certified) where
  -- the next entry begins behind the lines of this one
  pub line_more : (i : ℕ) → i < length b.entries → entry_line b (i + 1) ≡ entry_line b i + (length (entry_at b.entries i).reads + 2)
  line_more i l = let z = lines_more b.entries i l in omega (arith, z)

  -- each begins before the verdict
  pub line_within : (i : ℕ) → entry_line b i ≤ verdict_line b
  line_within i = let z = lines_within b.entries i in omega (arith, z)

-- the verdict and what stands behind it are among the lines of the block
pub verdict_within : (b : Certified) → verdict_line b + basis_size b.answer + 2 ≤ block_lines b
verdict_within b = go b.answer
  where
    go : (a : Answer) → verdict_line b + basis_size a + 2 ≤ block_lines (record { letters = b.letters; problem = b.problem; entries = b.entries; answer = a; corner = b.corner })
    go (Fits gs s) = omega arith
    go (TooSmall m) = omega arith

-- the lines of a block behind `fits`
pub lines_fits : (b : Certified) (gs : List Polynomial) (s : List (List ℕ)) → b.answer ≡ Fits gs s → block_lines b ≡ verdict_line b + 5 + length gs
lines_fits b gs s e = ap (λ a. block_lines (record { letters = b.letters; problem = b.problem; entries = b.entries; answer = a; corner = b.corner })) e

-- and of one whose degree is too small
pub lines_small : (b : Certified) (m : List ℕ) → b.answer ≡ TooSmall m → block_lines b ≡ verdict_line b + 2
lines_small b m e = ap (λ a. block_lines (record { letters = b.letters; problem = b.problem; entries = b.entries; answer = a; corner = b.corner })) e
