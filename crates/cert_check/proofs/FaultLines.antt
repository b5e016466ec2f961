-- The line of each check is among the lines of its block.
-- An entry's lines stand before the verdict, and what is checked behind it before the block's end.
use Rattle.std.proofs.Common.{◌≡◌, ℕ, zero, suc, ◌+◌, ◌<◌, ◌≤◌, [], ◌∷◌, length, drop, sym, subst, arith}
use Rattle.std.proofs.lemmas.Option.{get_or_from_slice_get, slice_get_within}
use Rattle.entry_code.specs.Entry.{entry_at}
use Rattle.text_out.specs.declared.answer.Answer.{Answer}
use Rattle.text_out.specs.declared.answer.Answer.TheVariants.{Fits, TooSmall}
use Rattle.cert_grammar.specs.declared.certified.Certified.{Certified}
use Rattle.cert_check.specs.declared.reason.Reason.{Reason}
use Rattle.cert_check.specs.Checks.{Check, terms, tickets, verdict, highest, stair, reading_checks, entry_checks, entries_checks, member_checks, answer_checks, checks, entry_line, verdict_line, line_of, block_lines}
use Rattle.cert_check.specs.Fault.{IsFirstFault}
use Rattle.cert_check.proofs.Every.{Every, every_all, every_append, readings_every, members_every}
use Rattle.cert_check.proofs.Answered.{dropped, dropped_all}
use Rattle.cert_check.proofs.BlockLines.{line_more, line_within, verdict_within}

module _ (b : Certified) where
  -- the check has a line of the block
  abbrev IsIn : Check → Type 0
  IsIn c = line_of b c < block_lines b

  -- the checks of an entry have
  entry_in : (i : ℕ) → i < length b.entries → Every IsIn (entry_checks i (entry_at b.entries i))
  entry_in i l = (
    omega (arith, low, last),
    every_append IsIn (reading_checks i (length (entry_at b.entries i).reads) 0) (terms i ∷ [])
        (readings_every IsIn i (length (entry_at b.entries i).reads) 0 (λ j m n. record { knows = omega (arith, low, last, n); corners = omega (arith, low, last, n); runs = omega (arith, low, last, n) }))
        (omega (arith, low, last), tt),
  )
    where
      low : entry_line b i + (length (entry_at b.entries i).reads + 2) ≤ verdict_line b
      low = let z = line_more b i l in let y = line_within b (i + 1) in omega (arith, z, y)

      last : verdict_line b + 2 ≤ block_lines b
      last = let z = verdict_within b in omega (arith, z)

  -- so have those of the entries from i on
  entries_in : (left i : ℕ) → i + left ≡ length b.entries → Every IsIn (entries_checks i (drop i b.entries))
  entries_in zero i e = subst (λ es. Every IsIn (entries_checks i es)) (sym (dropped_all b.entries i (omega (arith, e)))) tt
  entries_in (suc left) i e =
      let l : i < length b.entries = omega (arith, e) in
      subst (λ es. Every IsIn (entries_checks i es)) (sym (dropped b.entries i l))
      (every_append IsIn (entry_checks i (entry_at b.entries i)) (entries_checks (suc i) (drop (suc i) b.entries)) (entry_in i l)
      (entries_in left (suc i) (omega (arith, e))))

-- and those behind the verdict
answer_in : (b : Certified) → Every (IsIn b) (tickets ∷ verdict ∷ answer_checks b.answer)
answer_in b = go b.answer
  where
    with : Answer → Certified
    with a = record { letters = b.letters; problem = b.problem; entries = b.entries; answer = a; corner = b.corner }

    go : (a : Answer) → Every (IsIn (with a)) (tickets ∷ verdict ∷ answer_checks a)
    go (TooSmall m) = (omega arith, (omega arith, tt))
    go (Fits gs s) = (
      omega arith,
      (
        omega arith,
        (
          omega arith,
          every_append (IsIn (with (Fits gs s))) (member_checks (length gs) 0) (highest ∷ stair ∷ [])
              (members_every (IsIn (with (Fits gs s))) (length gs) 0 (λ k l m. omega (arith, m))) (omega arith, (omega arith, tt)),
        ),
      ),
    )

-- so the first fault has
pub fault_within : (b : Certified) (line : ℕ) (reason : Reason) → IsFirstFault b line reason → line < block_lines b
fault_within b line reason f = subst (λ x. x < block_lines b) (sym f.at)
    (subst (IsIn b) (get_or_from_slice_get (checks b) f.place f.check f.check f.there)
    (every_all (IsIn b) (checks b) (every_append (IsIn b) (entries_checks 0 b.entries) (tickets ∷ verdict ∷ answer_checks b.answer) (entries_in b (length b.entries) 0 (omega arith)) (answer_in b))
    f.place f.check (slice_get_within (checks b) f.place f.check f.there)))
