-- What is checked of a block, in order: each check has its line, its reason and its condition.
use Rattle.std.specs.Prelude.{◌≡◌, ℕ, zero, suc, ◌+◌, ◌≤◌, List, [], ◌∷◌, ◌++◌, length, map, take, get_or, Some, nat_lt, if◌then◌else◌, sum, ⊤}
use Rattle.rank_algebra.specs.Ranks.{Ranks}
use Rattle.sparse_poly.specs.Ideal.{Problem}
use Rattle.entry_code.specs.declared.reading.Reading.{Reading}
use Rattle.entry_code.specs.Entry.{Entry, entry_at}
use Rattle.rank_algebra.specs.Division.{Basis, first_of, corner_of}
use Rattle.rank_algebra.specs.Ideal.{Generators}
use Rattle.mora_law.specs.Ring.{ranks_of_problem, generators_of}
use Rattle.mora_law.specs.declared.step_end.StepEnd.{StepEnd}
use Rattle.mora_law.specs.declared.step_end.StepEnd.TheVariants.{Reduced, Stuck}
use Rattle.mora_law.specs.Entries.{terms_of, monic, basis_of}
use Rattle.mora_law.specs.Start.{run_of}
use Rattle.mora_law.specs.Legal.{IsItemOf}
use Rattle.mora_law.specs.Basis.{basis}
use Rattle.cert_check.specs.declared.reason.Reason.{Reason}
use Rattle.cert_check.specs.declared.reason.Reason.TheVariants as reasons
use Rattle.text_out.specs.declared.answer.Answer.{Answer}
use Rattle.text_out.specs.declared.answer.Answer.TheVariants.{Fits, TooSmall}
use Rattle.cert_grammar.specs.declared.certified.Certified.{Certified}
use Rattle.cert_check.specs.Block.{terms_of_each}
use Rattle.cert_check.specs.Accepted.{AreDivided, IsVerdict, highest_corner, IsFreeList}

-- what is checked: of entry i its item, of its reading j what it knows, its corner and how its step ends, and its terms;
-- then the tickets and the verdict; after `fits` how many members the basis has, each of them, the highest corner and the staircase
pub data Check : Type 0 where
  item : ℕ → Check
  known : ℕ → ℕ → Check
  corner : ℕ → ℕ → Check
  run : ℕ → ℕ → Check
  terms : ℕ → Check
  tickets : Check
  verdict : Check
  count : Check
  member : ℕ → Check
  highest : Check
  stair : Check

-- ---- the order
-- the checks of `left` readings from j on
abbrev pub reading_checks : ℕ → ℕ → ℕ → List Check
reading_checks i zero j = []
reading_checks i (suc left) j = known i j ∷ corner i j ∷ run i j ∷ reading_checks i left (suc j)

-- of entry i: its item, its readings, its terms
abbrev pub entry_checks : ℕ → Entry → List Check
entry_checks i e = item i ∷ (reading_checks i (length e.reads) 0 ++ terms i ∷ [])

-- of the entries from i on
abbrev pub entries_checks : ℕ → List Entry → List Check
entries_checks i [] = []
entries_checks i (e ∷ es) = entry_checks i e ++ entries_checks (suc i) es

-- of `left` members of the basis from k on
abbrev pub member_checks : ℕ → ℕ → List Check
member_checks zero k = []
member_checks (suc left) k = member k ∷ member_checks left (suc k)

-- of what stands after the verdict
abbrev pub answer_checks : Answer → List Check
answer_checks (Fits gs s) = count ∷ (member_checks (length gs) 0 ++ highest ∷ stair ∷ [])
answer_checks (TooSmall m) = []

-- of a block
abbrev pub checks : Certified → List Check
checks b = entries_checks 0 b.entries ++ tickets ∷ verdict ∷ answer_checks b.answer

-- ---- lines, counted in the block from 0
-- an entry has a line, one for each reading, and one for its terms
abbrev pub entry_lines : Entry → ℕ
entry_lines e = length e.reads + 2

-- entry i stands behind the block's line, p, the letters, the degree, the generators and their number, the number of entries,
-- and the entries before it
abbrev pub entry_line : Certified → ℕ → ℕ
entry_line b i = length b.problem.gens + 6 + sum (map entry_lines (take i b.entries))

-- the verdict stands behind the entries
abbrev pub verdict_line : Certified → ℕ
verdict_line b = entry_line b (length b.entries)

-- how many members the block's basis has
abbrev pub basis_size : Answer → ℕ
basis_size (Fits gs s) = length gs
basis_size (TooSmall m) = 0

-- the line of a check
abbrev pub line_of : Certified → Check → ℕ
line_of b (item i) = entry_line b i
line_of b (known i j) = entry_line b i + 1 + j
line_of b (corner i j) = entry_line b i + 1 + j
line_of b (run i j) = entry_line b i + 1 + j
line_of b (terms i) = entry_line b i + 1 + length (entry_at b.entries i).reads
line_of b tickets = verdict_line b
line_of b verdict = verdict_line b
line_of b count = verdict_line b + 1
line_of b (member k) = verdict_line b + 2 + k
line_of b highest = verdict_line b + 2 + basis_size b.answer
line_of b stair = verdict_line b + 3 + basis_size b.answer

-- how many lines the block has, the one at its end among them
abbrev pub block_lines : Certified → ℕ
block_lines b = answer_end b.answer
  where
    answer_end : Answer → ℕ
    answer_end (Fits gs s) = verdict_line b + 5 + length gs
    answer_end (TooSmall m) = verdict_line b + 2

-- ---- reasons
-- the reason of a check
abbrev pub reason_of : Check → Reason
reason_of (item i) = reasons.Item
reason_of (known i j) = reasons.Known
reason_of (corner i j) = reasons.Corner
reason_of (run i j) = reasons.Run
reason_of (terms i) = reasons.Poly
reason_of tickets = reasons.Unsettled
reason_of verdict = reasons.Verdict
reason_of count = reasons.Basis
reason_of (member k) = reasons.Basis
reason_of highest = reasons.HighCorner
reason_of stair = reasons.Stair

-- ---- conditions
-- the reading that a place beyond a list is given
abbrev pub no_reading : Reading
no_reading = record { known = 0; corner = 0 }

-- the reading at a place
abbrev pub reading_at : List Reading → ℕ → Reading
reading_at ds j = get_or ds j no_reading

-- what the reading before place j knew, and `first` where there is none
abbrev pub known_before : ℕ → List Reading → ℕ → ℕ
known_before first ds zero = first
known_before first ds (suc j) = (reading_at ds j).known

-- the corner of the reading before place j, and `first` where there is none
abbrev pub corner_before : ℕ → List Reading → ℕ → ℕ
corner_before first ds zero = first
corner_before first ds (suc j) = (reading_at ds j).corner

-- reading j of entry i knows at least what the one before it knew, at most i entries, and all i where it is the last
pub record IsKnown (i : ℕ) (ds : List Reading) (j : ℕ) : Type 0 where
  pub risen : known_before 0 ds j ≤ (reading_at ds j).known
  pub within : (reading_at ds j).known ≤ i
  pub all_known : suc j ≡ length ds → (reading_at ds j).known ≡ i

-- its corner is at most that of the reading before it, at most the corner of the entries that it knows, and at least that of the
-- first i entries
pub record IsCornerOf (R : Ranks) (B : Basis) (i : ℕ) (ds : List Reading) (j : ℕ) : Type 0 where
  pub fallen : (reading_at ds j).corner ≤ corner_before R.n ds j
  pub below : (reading_at ds j).corner ≤ corner_of R (first_of (reading_at ds j).known B)
  pub above : corner_of R (first_of i B) ≤ (reading_at ds j).corner

-- how the step of reading j is to end: the last one with Stuck, each other with Reduced
abbrev pub end_at : ℕ → ℕ → StepEnd
end_at readings j = if nat_lt (suc j) readings then Reduced else Stuck

-- the step of reading j of the entry ends as it is to
abbrev pub IsRun : Ranks → Generators → Basis → Entry → ℕ → Type 0
IsRun R G B e j = (run_of R G B e.item (take (suc j) e.reads)).end ≡ Some (end_at (length e.reads) j)

-- the terms of the entry are what its run ends with, made monic
abbrev pub AreTerms : Ranks → Generators → Basis → Entry → Type 0
AreTerms R G B e = e.terms ≡ terms_of R (monic R (run_of R G B e.item e.reads).poly)

-- the block's basis has as many members as that of the entries
abbrev pub IsCounted : Problem → List Entry → Answer → Type 0
IsCounted P entries (Fits gs s) = length gs ≡ length (basis P entries)
IsCounted P entries (TooSmall m) = ⊤

-- its member k is that of the entries
abbrev pub IsMember : Problem → List Entry → Answer → ℕ → Type 0
IsMember P entries (Fits gs s) k = get_or (terms_of_each gs) k [] ≡ get_or (basis P entries) k []
IsMember P entries (TooSmall m) k = ⊤

-- its staircase has the monomials that are multiples of no lead
abbrev pub IsStair : Problem → List Entry → Answer → Type 0
IsStair P entries (Fits gs s) = IsFreeList P entries s
IsStair P entries (TooSmall m) = ⊤

-- the condition of a check
abbrev pub Holds : Certified → Check → Type 0
Holds b (item i) = IsItemOf (length b.problem.gens) i (entry_at b.entries i).item
Holds b (known i j) = IsKnown i (entry_at b.entries i).reads j
Holds b (corner i j) = IsCornerOf (ranks_of_problem b.problem) (basis_of b.entries) i (entry_at b.entries i).reads j
Holds b (run i j) = IsRun (ranks_of_problem b.problem) (generators_of b.problem) (basis_of b.entries) (entry_at b.entries i) j
Holds b (terms i) = AreTerms (ranks_of_problem b.problem) (generators_of b.problem) (basis_of b.entries) (entry_at b.entries i)
Holds b tickets = AreDivided b.problem b.entries
Holds b verdict = IsVerdict b.problem b.entries b.answer
Holds b count = IsCounted b.problem b.entries b.answer
Holds b (member k) = IsMember b.problem b.entries b.answer k
Holds b highest = b.corner ≡ highest_corner b.problem b.entries
Holds b stair = IsStair b.problem b.entries b.answer
