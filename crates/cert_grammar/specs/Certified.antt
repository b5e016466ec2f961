-- A certificate in the words of problems: what is certified of each, and the block whose lines say it. Ours.
use Rattle.std.specs.Prelude.{◌≡◌, ℕ, ◌<◌, ◌≤◌, List, [], ◌∷◌, length, map, Option, None}
use Rattle.std.specs.List.{AllByRecursion}
use Rattle.local_order.specs.Limits.{max_monomials}
use Rattle.local_order.specs.Shape.{Shape, count}
use Rattle.mono_rank.specs.Rank.{rank_of, mono_of_rank}
use Rattle.sparse_poly.specs.Poly.{Poly, in_variables}
use Rattle.sparse_poly.specs.Ideal.{Problem, IsProblem}
use Rattle.sparse_poly.specs.Shape.{shape_of}
use Rattle.sparse_poly.specs.Letters.{AreLetters}
use Rattle.entry_code.specs.declared.term.Term.{Term}
use Rattle.entry_code.specs.Entry.{Entry as RunEntry}
use Rattle.text_out.specs.declared.answer.Answer.{Answer}
use Rattle.text_out.specs.declared.answer.Answer.TheVariants as answers
use Rattle.cert_grammar.specs.declared.certified.Certified.{Certified}
use Rattle.cert_grammar.specs.Limits.{max_blocks}
use Rattle.cert_grammar.specs.Words.{Ring}
use Rattle.cert_grammar.specs.Entries.{Entry}
use Rattle.cert_grammar.specs.declared.block.Verdict.{Verdict}
use Rattle.cert_grammar.specs.declared.block.Verdict.TheVariants.{Fits, TooSmall}
use Rattle.cert_grammar.specs.Blocks.{Block}
use Rattle.cert_grammar.specs.Cert.{IsItem, IsReading, IsVerdict, cert_text}

-- ---- the block that says it
-- the polynomial with these terms by rank
abbrev pub poly_by_rank : Problem → List Term → Poly
poly_by_rank P [] = []
poly_by_rank P (t ∷ ts) = record { mono = mono_of_rank (shape_of P) t.rank; coef = t.coef } ∷ poly_by_rank P ts

abbrev pub entry_of : Problem → RunEntry → Entry
entry_of P e = record { item = e.item; reads = e.reads; poly = in_variables P.n (poly_by_rank P e.terms) }

abbrev pub verdict_of : Answer → Option (List ℕ) → Verdict
verdict_of (answers.Fits basis stair) corner = Fits (record { basis = basis; corner = corner; stair = stair })
verdict_of (answers.TooSmall missing) corner = TooSmall missing

abbrev pub ring_of : Certified → Ring
ring_of x = record { p = x.problem.p; letters = x.letters; d = x.problem.d }

abbrev pub block_of : Certified → Block
block_of x = record {
  ring = ring_of x;
  gens = map (in_variables x.problem.n) x.problem.gens;
  entries = map (entry_of x.problem) x.entries;
  verdict = verdict_of x.answer x.corner;
}

-- ---- what a block certifies
-- the terms of a polynomial by rank
abbrev pub terms_by_rank : Shape → Poly → List Term
terms_by_rank T [] = []
terms_by_rank T (t ∷ f) = record { rank = rank_of T t.mono; coef = t.coef } ∷ terms_by_rank T f

-- the problem of a block
abbrev pub problem_in : Block → Problem
problem_in y = record { p = y.ring.p; n = length y.ring.letters; d = y.ring.d; gens = map (λ f. f.terms) y.gens }

abbrev pub run_entry : Shape → Entry → RunEntry
run_entry T x = record { item = x.item; reads = x.reads; terms = terms_by_rank T x.poly.terms }

abbrev pub answer_in : Verdict → Answer
answer_in (Fits f) = answers.Fits f.basis f.stair
answer_in (TooSmall m) = answers.TooSmall m

abbrev pub corner_in : Verdict → Option (List ℕ)
corner_in (Fits f) = f.corner
corner_in (TooSmall m) = None

-- what a block certifies
abbrev pub certified_of : Block → Certified
certified_of y = record { letters = y.ring.letters; problem = problem_in y; entries = map (run_entry (shape_of (problem_in y))) y.entries; answer = answer_in y.verdict; corner = corner_in y.verdict }

-- ---- what is asked
-- the rank of a term is below those that follow
abbrev pub IsBefore : Term → List Term → Type 0
IsBefore t [] = Unit {0}
IsBefore t (u ∷ us) = t.rank < u.rank

-- terms by rank as a polynomial of the ring has them: ranks rise, coefficients are residues other than 0
abbrev pub AreTerms : Problem → List Term → Type 0
AreTerms P [] = Unit {0}
AreTerms P (t ∷ ts) = (t.rank < count (shape_of P)) × (0 < t.coef) × (t.coef < P.p) × IsBefore t ts × AreTerms P ts

-- an entry whose numbers are numbers of a certificate, with a reading and a term at least
pub record IsRunEntry (P : Problem) (e : RunEntry) : Type 0 where
  pub item : IsItem e.item
  pub some_reads : 1 ≤ length e.reads
  pub reads : AllByRecursion IsReading e.reads
  pub some_terms : 1 ≤ length e.terms
  pub terms : AreTerms P e.terms

-- no corner is named where the degree is too small
abbrev pub HasCorner : Answer → Option (List ℕ) → Type 0
HasCorner (answers.Fits basis stair) corner = Unit {0}
HasCorner (answers.TooSmall missing) corner = corner ≡ None

pub record IsCertified (x : Certified) : Type 0 where
  pub variables : length x.letters ≡ x.problem.n
  pub letters : AreLetters x.letters
  pub problem : IsProblem x.problem
  pub few_entries : length x.entries ≤ max_monomials
  pub entries : AllByRecursion (IsRunEntry x.problem) x.entries
  pub verdict : IsVerdict (ring_of x) (verdict_of x.answer x.corner)
  pub corner : HasCorner x.answer x.corner

-- ---- certificates
-- one to 64 problems that are certified
pub record IsCertificate (xs : List Certified) : Type 0 where
  pub some : 1 ≤ length xs
  pub few : length xs ≤ max_blocks
  pub each : AllByRecursion IsCertified xs

-- the text of such a certificate
abbrev pub certificate_text : List Certified → List ℕ
certificate_text xs = cert_text (map block_of xs)
