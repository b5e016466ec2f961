-- Reading a certificate, line by line. A part of it is what was read and the lines behind it,
-- or, where it is refused, the lines from the refused one on.
use Rattle.std.specs.Prelude.{ℕ, ◌+◌, ◌-◌, zero, suc, List, [], ◌∷◌, length, Bool, true, false, nat_le, Option, Some, None, option_and_then, Result, Ok, Err, if◌then◌else◌, codes, decimal}
use Rattle.std.specs.Option.{option_map}
use Rattle.local_order.specs.Limits.{max_monomials, max_generators}
use Rattle.script_grammar.specs.Words.{is_same}
use Rattle.sparse_poly.specs.Poly.{Polynomial}
use Rattle.cert_grammar.specs.Lines.{Word, Line, same_line, lines_of}
use Rattle.cert_grammar.specs.Words.{Ring, poly_of_word, nonzero_of_word, mono_of_word, top_of_word, is_prime, are_letters, is_degree}
use Rattle.entry_code.specs.declared.item.Item.{Item}
use Rattle.entry_code.specs.declared.item.Item.TheVariants.{Generator, Pair}
use Rattle.entry_code.specs.declared.reading.Reading.{Reading}
use Rattle.cert_grammar.specs.Entries.{Entry}
use Rattle.cert_grammar.specs.declared.entry.Step.{Step}
use Rattle.cert_grammar.specs.declared.entry.Step.TheVariants.{OneMore, Last}
use Rattle.cert_grammar.specs.Entries.{Fitting}
use Rattle.cert_grammar.specs.declared.block.Verdict.{Verdict}
use Rattle.cert_grammar.specs.declared.block.Verdict.TheVariants.{Fits, TooSmall}
use Rattle.cert_grammar.specs.Blocks.{Block}
use Rattle.cert_grammar.specs.Cert.{head_line, numbered}
use Rattle.cert_grammar.specs.Phrases.{one_word, behind_word, both_words, words_times, whole, numeral_of, number_at}

-- ---- lines
infixl 10 ◌>>=◌
abbrev pub ◌>>=◌ : {A B : Type 0} → Result A (List Line) → (A → Result B (List Line)) → Result B (List Line)
(Ok x) >>= f = f x
(Err e) >>= f = Err e

abbrev pub Read : Type 0 → Type 0
Read A = List Line → Result (A × List Line) (List Line)

-- what a line is, or that it is refused
abbrev pub taken : {A : Type 0} → Line → List Line → Option A → Result (A × List Line) (List Line)
taken l ls (Some a) = Ok (a, ls)
taken l ls None = Err (l ∷ ls)

abbrev pub line_at : {A : Type 0} → (Line → Option A) → Read A
line_at of [] = Err []
line_at of (l ∷ ls) = taken l ls (of l)

-- this line, and then a part
abbrev pub given_at : Line → List Line → Result (List Line) (List Line)
given_at k [] = Err []
given_at k (l ∷ ls) = if same_line l k then Ok ls else Err (l ∷ ls)

abbrev pub behind : {A : Type 0} → Line → Read A → Read A
behind k F s = given_at k s >>= F

-- a part, and then one that hangs on it
abbrev pub both : {A B : Type 0} → Read A → (A → Read B) → Read (A × B)
both F G s = F s >>= λ x. (G x.0 x.1 >>= λ y. Ok ((x.0, y.0), y.1))

abbrev pub mapped : {A B : Type 0} → (A → B) → Read A → Read B
mapped f F s = F s >>= λ x. Ok (f x.0, x.1)

-- so many of them, numbered from i on
abbrev pub times_at : {A : Type 0} → (ℕ → Read A) → ℕ → ℕ → Read (List A)
times_at F zero i s = Ok ([], s)
times_at F (suc n) i s = F i s >>= λ x. (times_at F n (suc i) x.1 >>= λ y. Ok (x.0 ∷ y.0, y.1))

-- a word and a number that passes the test
abbrev pub numbered_of : Word → (ℕ → Bool) → Line → Option ℕ
numbered_of word test = whole (behind_word word (one_word (numeral_of test)))

-- how many there are, and then those
abbrev pub counted_at : {A : Type 0} → Word → (ℕ → Bool) → (ℕ → Read A) → Read (List A)
counted_at word test F s = line_at (numbered_of word test) s >>= λ n. times_at F n.0 0 n.1

-- ---- the lines
-- words of one byte each
abbrev pub byte_of : Word → Option ℕ
byte_of [] = None
byte_of (v ∷ []) = Some v
byte_of (v ∷ b ∷ w) = None

abbrev pub bytes_of : List Word → Option (List ℕ)
bytes_of [] = Some []
bytes_of (w ∷ ws) = option_and_then (λ v. option_map (λ vs. v ∷ vs) (bytes_of ws)) (byte_of w)

abbrev pub if_letters : List ℕ → Option (List ℕ)
if_letters letters = if are_letters letters then Some letters else None

abbrev pub vars_of : Line → Option (List ℕ)
vars_of [] = None
vars_of (w ∷ ws) = if is_same w (codes "vars") then option_and_then if_letters (bytes_of ws) else None

-- a line that is one word
abbrev pub alone_of : {A : Type 0} → (Word → Option A) → Line → Option A
alone_of of = whole (one_word of)

abbrev pub generator_of : ℕ → Line → Option Item
generator_of i l = option_map (λ g. Generator g) (whole (behind_word (codes "entry") (behind_word (decimal i) (behind_word (codes "gen") number_at))) l)

abbrev pub pair_of : ℕ → Line → Option Item
pair_of i l = option_map (λ x. Pair x.0 x.1) (whole (behind_word (codes "entry") (behind_word (decimal i) (behind_word (codes "pair") (both_words number_at (λ _. number_at))))) l)

-- the first that there is
abbrev pub first_of_two : {A : Type 0} → Option A → Option A → Option A
first_of_two (Some a) o = Some a
first_of_two None o = o

abbrev pub item_of : ℕ → Line → Option Item
item_of i l = first_of_two (generator_of i l) (pair_of i l)

abbrev pub reading_of : Line → Option Reading
reading_of l = option_map (λ x. record { known = x.0; corner = x.1 }) (whole (behind_word (codes "read") (both_words number_at (λ _. number_at))) l)

abbrev pub poly_of : Ring → Line → Option Polynomial
poly_of r = whole (behind_word (codes "poly") (one_word (nonzero_of_word r)))

-- the verdict's line: nothing where the degree fits, else the monomial that is missing
abbrev pub fits_of : Line → Option (Option (List ℕ))
fits_of l = if same_line l (codes "fits" ∷ []) then Some None else None

abbrev pub small_of : Ring → Line → Option (Option (List ℕ))
small_of r l = option_map (λ m. Some m) (whole (behind_word (codes "too") (behind_word (codes "small") (one_word (top_of_word r)))) l)

abbrev pub verdict_of : Ring → Line → Option (Option (List ℕ))
verdict_of r l = first_of_two (fits_of l) (small_of r l)

abbrev pub corner_word_of : Ring → Word → Option (Option (List ℕ))
corner_word_of r w = if is_same w (codes "none") then Some None else option_map (λ m. Some m) (mono_of_word r w)

abbrev pub corner_of : Ring → Line → Option (Option (List ℕ))
corner_of r = whole (behind_word (codes "corner") (one_word (corner_word_of r)))

abbrev pub stair_of : Ring → Line → Option (List (List ℕ))
stair_of r l = option_map (λ x. x.1) (whole (behind_word (codes "stair") (both_words number_at (words_times (one_word (mono_of_word r))))) l)

-- a line behind an entry's first reading: one more reading, or its polynomial
abbrev pub step_of : Ring → Line → Option Step
step_of r l = first_of_two (option_map Last (poly_of r l)) (option_map OneMore (reading_of l))

-- ---- parts
-- readings, up to a polynomial
abbrev pub reads_from : {E : Type 0} → Reading → (List Reading × Polynomial) × List Line → Result ((List Reading × Polynomial) × List Line) E
reads_from r x = Ok ((r ∷ x.0.0, x.0.1), x.1)

unfoldable pub reads_at : Ring → Read (List Reading × Polynomial)
reads_at r [] = Err []
reads_at r (l ∷ ls) = elim (step_of r l) [
  | None ↦ Err (l ∷ ls)
  | Some step ↦ elim step [ Last f ↦ Ok (([], f), ls) | OneMore x ↦ reads_at r ls >>= reads_from x ]
]

-- an entry of these parts
abbrev pub entry_from : Item × (Reading × (List Reading × Polynomial)) → Entry
entry_from x = record { item = x.0; reads = x.1.0 ∷ x.1.1.0; poly = x.1.1.1 }

abbrev pub entry_at : Ring → ℕ → Read Entry
entry_at r i = mapped entry_from (both (line_at (item_of i)) (λ _. both (line_at reading_of) (λ _. reads_at r)))

abbrev pub poly_alone : (Word → Option Polynomial) → ℕ → Read Polynomial
poly_alone of i = line_at (alone_of of)

abbrev pub fitting_from : List Polynomial × (Option (List ℕ) × List (List ℕ)) → Fitting
fitting_from x = record { basis = x.0; corner = x.1.0; stair = x.1.1 }

abbrev pub fitting_at : Ring → Read Fitting
fitting_at r = mapped fitting_from (both (counted_at (codes "basis") (λ s. nat_le s max_monomials) (poly_alone (nonzero_of_word r)))
    (λ _. both (line_at (corner_of r)) (λ _. line_at (stair_of r))))

-- what stands behind the verdict's line
abbrev pub verdict_behind : Ring → Option (List ℕ) → Read Verdict
verdict_behind r None = mapped Fits (fitting_at r)
verdict_behind r (Some m) = λ s. Ok (TooSmall m, s)

abbrev pub verdict_at : Ring → Read Verdict
verdict_at r s = line_at (verdict_of r) s >>= λ x. verdict_behind r x.0 x.1

abbrev pub ring_from : ℕ × (List ℕ × ℕ) → Ring
ring_from x = record { p = x.0; letters = x.1.0; d = x.1.1 }

abbrev pub ring_at : Read Ring
ring_at = mapped ring_from (both (line_at (numbered_of (codes "p") is_prime))
    (λ _. both (line_at vars_of) (λ letters. line_at (numbered_of (codes "D") (is_degree (length letters))))))

abbrev pub block_from : Ring × (List Polynomial × (List Entry × Verdict)) → Block
block_from x = record { ring = x.0; gens = x.1.0; entries = x.1.1.0; verdict = x.1.1.1 }

-- a part and then this line
abbrev pub followed : {A : Type 0} → Read A → Line → Read A
followed F k s = F s >>= λ x. behind k (λ t. Ok (x.0, t)) x.1

abbrev pub block_at : ℕ → Read Block
block_at b = behind (numbered (codes "block") b) (mapped block_from (both ring_at (λ r.
    both (counted_at (codes "gens") (λ m. nat_le m max_generators) (poly_alone (poly_of_word r))) (λ _.
    both (counted_at (codes "entries") (λ e. nat_le e max_monomials) (entry_at r)) (λ _.
    followed (verdict_at r) (numbered (codes "end") b))))))

abbrev pub one_block_more : {A : Type 0} → Read A → (Read (List A)) → Read (List A)
one_block_more F G s = F s >>= λ x. (G x.1 >>= λ y. Ok (x.0 ∷ y.0, y.1))

-- at most k blocks behind the b-th, and the last line
unfoldable pub blocks_at : ℕ → ℕ → Read (List Block)
blocks_at zero b s = behind (numbered (codes "done") b) (λ t. Ok ([], t)) s
blocks_at (suc k) b [] = Err []
blocks_at (suc k) b (l ∷ ls) = elim (same_line l (numbered (codes "done") b)) [
  | true ↦ Ok ([], ls)
  | false ↦ one_block_more (block_at (suc b)) (blocks_at k (suc b)) (l ∷ ls)
]

-- a certificate, and the lines behind it
abbrev pub cert_at : Read (List Block)
cert_at = behind head_line (one_block_more (block_at 1) (blocks_at 63 1))

-- no line is left
abbrev pub all_read : List Block × List Line → Result (List Block) (List Line)
all_read (blocks, []) = Ok blocks
all_read (blocks, l ∷ ls) = Err (l ∷ ls)

-- a certificate, and no more
abbrev pub cert_of : List Line → Result (List Block) (List Line)
cert_of s = cert_at s >>= all_read

-- the certificate that the bytes are, or the lines from the first bad one on
abbrev pub read_text : List ℕ → Result (List Block) (List Line)
read_text bytes = cert_of (lines_of bytes)

-- the number of the line at which reading was refused
abbrev pub line_number : List ℕ → List Line → ℕ
line_number bytes after = length (lines_of bytes) - length after + 1
