-- A block is accepted exactly where all its checks hold: the checks of an entry say that it is legal.
use Rattle.std.proofs.Common.{◌≡◌, ℕ, zero, suc, ◌+◌, ◌<◌, ◌≤◌, ◌↔◌, List, [], ◌∷◌, ◌++◌, length, get_or, take, All, Option, Some, cond, sym, ◌∙◌, ap, subst, arith, ◌⊎◌, inl, inr}
use Rattle.std.proofs.lemmas.Bool.{cases_lt, lt-ltb, le-ltb}
use Rattle.std.proofs.lemmas.List.{length-map, take_all, get_or_default, same_lists}
use Rattle.rank_algebra.specs.Ranks.{Ranks}
use Rattle.sparse_poly.specs.Poly.{Polynomial, Poly}
use Rattle.sparse_poly.specs.Ideal.{Problem}
use Rattle.entry_code.specs.Entry.{Entry, no_entry, entry_at}
use Rattle.rank_algebra.specs.Division.{Basis, first_of, corner_of}
use Rattle.rank_algebra.specs.Ideal.{Generators}
use Rattle.mora_law.specs.Ring.{ranks_of_problem, generators_of}
use Rattle.mora_law.specs.declared.step_end.StepEnd.TheVariants.{Reduced, Stuck}
use Rattle.mora_law.specs.Start.{run_of}
use Rattle.mora_law.specs.Entries.{basis_of}
use Rattle.mora_law.specs.Legal.{IsItemOf, IsLegalEntry, Legal}
use Rattle.mora_law.specs.Basis.{basis}
use Rattle.text_out.specs.declared.answer.Answer.{Answer}
use Rattle.text_out.specs.declared.answer.Answer.TheVariants.{Fits, TooSmall}
use Rattle.cert_grammar.specs.declared.certified.Certified.{Certified}
use Rattle.cert_check.specs.Block.{IsRead, terms_of_each}
use Rattle.cert_check.specs.Accepted.{IsAfterFits, IsFreeList, highest_corner, IsAcceptedBlock}
use Rattle.cert_check.specs.Checks.{Check, terms, tickets, verdict, count, highest, stair, reading_checks, entry_checks, entries_checks, member_checks, answer_checks, checks, IsKnown, IsCornerOf, IsRun, AreTerms, Holds}
use Rattle.cert_check.proofs.Along.{orderly_from, orderly_each, last_is, last_place, between_from, between_each}
use Rattle.cert_check.proofs.Every.{Every, every_all, all_every, every_append, every_parts, readings_every, every_readings, members_every, every_members}

-- ---- an entry
module _ (R : Ranks) (G : Generators) (B : Basis) (i : ℕ) (e : Entry) where
  -- the three conditions of reading j
  pub record IsChecked (j : ℕ) : Type 0 where
    pub knows : IsKnown i e.reads j
    pub corners : IsCornerOf R B i e.reads j
    pub runs : IsRun R G B e j

  -- the conditions of an entry
  pub record AreMet : Type 0 where
    pub item : IsItemOf G.count i e.item
    pub readings : (j : ℕ) → j < length e.reads → IsChecked j
    pub terms : AreTerms R G B e

  -- an entry with a reading that meets them is legal
  pub legal_from : 0 < length e.reads → AreMet → IsLegalEntry R G B i e
  legal_from some c = record {
    item = c.item;
    ends = record { some = some; before = before; last_end = ap (λ ds. (run_of R G B e.item ds).end) (sym (take_all (suc last.0) e.reads (omega (arith, last.1)))) ∙ at_last };
    orderly = orderly_from i 0 R.n e.reads (omega arith) (λ j l. let x = c.readings j l in record { risen = x.knows.risen; within = x.knows.within; fallen = x.corners.fallen });
    knows = last_is 0 e.reads last.0 last.1 ∙ (c.readings last.0 (omega (arith, last.1))).knows.all_known last.1;
    corners = between_from R B (corner_of R (first_of i B)) e.reads (λ j l. let x = c.readings j l in record { above = x.corners.above; below = x.corners.below });
    terms = c.terms;
  }
    where
      last : (j : ℕ) × (suc j ≡ length e.reads)
      last = last_place e.reads some

      before : (j : ℕ) → 0 < j → j < length e.reads → (run_of R G B e.item (take j e.reads)).end ≡ Some Reduced
      before zero l m = absurd (omega (arith, l))
      before (suc j) l m = (c.readings j (omega (arith, m))).runs ∙ ap (λ b. Some (cond b Reduced Stuck)) (lt-ltb (suc j) (length e.reads) m)

      at_last : (run_of R G B e.item (take (suc last.0) e.reads)).end ≡ Some Stuck
      at_last = (c.readings last.0 (omega (arith, last.1))).runs ∙ ap (λ b. Some (cond b Reduced Stuck)) (le-ltb (suc last.0) (length e.reads) (omega (arith, last.1)))

  -- and a legal entry meets them
  pub legal_each : IsLegalEntry R G B i e → AreMet
  legal_each x = record {
    item = x.item;
    readings = λ j l.
        let o = orderly_each i 0 R.n e.reads x.orderly j l in
        let c = between_each R B (corner_of R (first_of i B)) e.reads x.corners j l in
        record {
          knows = record { risen = o.risen; within = o.within; all_known = λ last. sym (last_is 0 e.reads j last) ∙ x.knows };
          corners = record { fallen = o.fallen; below = c.below; above = c.above };
          runs = ends j l (cases_lt (suc j) (length e.reads));
        };
    terms = x.terms;
  }
    where
      ends : (j : ℕ) → j < length e.reads → (suc j < length e.reads) ⊎ (length e.reads ≤ suc j) → IsRun R G B e j
      ends j l (inl m) = x.ends.before (suc j) (omega arith) m ∙ sym (ap (λ b. Some (cond b Reduced Stuck)) (lt-ltb (suc j) (length e.reads) m))
      ends j l (inr m) =
          ap (λ ds. (run_of R G B e.item ds).end) (take_all (suc j) e.reads m)
          ∙ x.ends.last_end
          ∙ sym (ap (λ b. Some (cond b Reduced Stuck)) (le-ltb (suc j) (length e.reads) m))

-- ---- the entries
module _ (b : Certified) where
  -- the conditions of entry i
  abbrev EntryMet : ℕ → Type 0
  EntryMet i = AreMet (ranks_of_problem b.problem) (generators_of b.problem) (basis_of b.entries) i (entry_at b.entries i)

  -- the checks of entry i hold where its conditions are met
  entry_every : (i : ℕ) → EntryMet i → Every (Holds b) (entry_checks i (entry_at b.entries i))
  entry_every i c = (
    c.item,
    every_append (Holds b) (reading_checks i (length (entry_at b.entries i).reads) 0) (terms i ∷ [])
        (readings_every (Holds b) i (length (entry_at b.entries i).reads) 0 (λ j l m. let x = c.readings j (omega (arith, m)) in record { knows = x.knows; corners = x.corners; runs = x.runs }))
        (c.terms, tt),
  )

  -- and the other way round
  every_entry : (i : ℕ) → Every (Holds b) (entry_checks i (entry_at b.entries i)) → EntryMet i
  every_entry i h =
      let z = every_parts (Holds b) (reading_checks i (length (entry_at b.entries i).reads) 0) (terms i ∷ []) h.1 in
      record {
        item = h.0;
        readings = λ j l. let x = every_readings (Holds b) i (length (entry_at b.entries i).reads) 0 z.0 j (omega arith) (omega (arith, l)) in record { knows = x.knows; corners = x.corners; runs = x.runs };
        terms = z.1.0;
      }

  -- es are the entries from i on
  abbrev AreFrom : ℕ → List Entry → Type 0
  AreFrom i es = (k : ℕ) → k < length es → entry_at es k ≡ entry_at b.entries (i + k)

  -- behind the first of them as well
  from_rest : (i : ℕ) (e : Entry) (es : List Entry) → AreFrom i (e ∷ es) → AreFrom (suc i) es
  from_rest i e es f k l = f (suc k) (omega (arith, l)) ∙ ap (entry_at b.entries) (let z : i + suc k ≡ suc i + k = omega arith in z)

  -- the first is entry i
  from_first : (i : ℕ) (e : Entry) (es : List Entry) → AreFrom i (e ∷ es) → e ≡ entry_at b.entries i
  from_first i e es f = f 0 (omega arith) ∙ ap (entry_at b.entries) (let z : i + 0 ≡ i = omega arith in z)

  -- the checks of the entries from i on hold where the conditions of each are met
  entries_every : (i : ℕ) (es : List Entry) → AreFrom i es → ((k : ℕ) → i ≤ k → k < i + length es → EntryMet k) → Every (Holds b) (entries_checks i es)
  entries_every i [] f h = tt
  entries_every i (e ∷ es) f h =
      every_append (Holds b) (entry_checks i e) (entries_checks (suc i) es)
      (subst (λ x. Every (Holds b) (entry_checks i x)) (sym (from_first i e es f)) (entry_every i (h i (omega arith) (omega arith))))
      (entries_every (suc i) es (from_rest i e es f) (λ k l m. h k (omega (arith, l)) (omega (arith, m))))

  -- and the other way round
  every_entries : (i : ℕ) (es : List Entry) → AreFrom i es → Every (Holds b) (entries_checks i es) → (k : ℕ) → i ≤ k → k < i + length es → EntryMet k
  every_entries i [] f h k l m = absurd (omega (arith, l, m))
  every_entries i (e ∷ es) f h k l m =
      let z = every_parts (Holds b) (entry_checks i e) (entries_checks (suc i) es) h in
      go z.0 (cases_lt i k) (λ n. every_entries (suc i) es (from_rest i e es f) z.1 k (omega (arith, n)) (omega (arith, m)))
    where
      go : Every (Holds b) (entry_checks i e) → (i < k) ⊎ (k ≤ i) → (i < k → EntryMet k) → EntryMet k
      go x (inl n) later = later n
      go x (inr n) later = let z : i ≡ k = omega arith in subst EntryMet z (every_entry i (subst (λ y. Every (Holds b) (entry_checks i y)) (from_first i e es f) x))

  -- so the entries are legal where their checks hold
  pub legal_is_checked : IsRead b → Legal b.problem b.entries ↔ Every (Holds b) (entries_checks 0 b.entries)
  legal_is_checked r = (
    λ legal. entries_every 0 b.entries (λ k l. ap (entry_at b.entries) (let z : k ≡ 0 + k = omega arith in z)) (λ k l m. legal_each _ _ _ k _ (legal k (omega (arith, m)))),
    λ h k l. legal_from _ _ _ k _ (r.readings k no_entry l) (every_entries 0 b.entries (λ k l. ap (entry_at b.entries) (let z : k ≡ 0 + k = omega arith in z)) h k (omega arith) (omega (arith, l))),
  )

-- ---- what stands after the verdict
module _ (letters : List ℕ) (P : Problem) (entries : List Entry) (high : Option (List ℕ)) where
  -- a block with this answer
  abbrev with_answer : Answer → Certified
  with_answer a = record { letters = letters; problem = P; entries = entries; answer = a; corner = high }

  -- the checks after the verdict hold where what is there is what the entries say
  after_is_checked : (a : Answer) → IsAfterFits P entries a high ↔ Every (Holds (with_answer a)) (answer_checks a)
  after_is_checked (TooSmall m) = ((λ x. tt), (λ x. tt))
  after_is_checked (Fits gs s) = (to, from)
    where
      long : (fs : List Polynomial) → length fs ≡ length (terms_of_each fs)
      long fs = sym (length-map fs (λ f. f.terms))

      Q : Check → Type 0
      Q = Holds (with_answer (Fits gs s))

      to : (terms_of_each gs ≡ basis P entries) × (high ≡ highest_corner P entries) × IsFreeList P entries s → Every Q (count ∷ (member_checks (length gs) 0 ++ highest ∷ stair ∷ []))
      to x = (
        long gs ∙ ap length x.0,
        every_append Q (member_checks (length gs) 0) (highest ∷ stair ∷ []) (members_every Q (length gs) 0 (λ k l m. ap (λ (fs : List Poly). get_or fs k []) x.0)) (x.1, (x.2, tt)),
      )

      from : Every Q (count ∷ (member_checks (length gs) 0 ++ highest ∷ stair ∷ [])) → (terms_of_each gs ≡ basis P entries) × (high ≡ highest_corner P entries) × IsFreeList P entries s
      from h =
          let z = every_parts Q (member_checks (length gs) 0) (highest ∷ stair ∷ []) h.1 in
          (same (terms_of_each gs) (basis P entries) (sym (long gs) ∙ h.0) (λ k l. every_members Q (length gs) 0 z.0 k (omega arith) (omega (arith, l, long gs))), z.1.0, z.1.1.0)
        where
          same : (fs hs : List Poly) → length fs ≡ length hs → ((k : ℕ) → k < length fs → get_or fs k [] ≡ get_or hs k []) → fs ≡ hs
          same fs hs e at = same_lists fs hs e (λ k d l. get_or_default fs k d [] l ∙ at k l ∙ get_or_default hs k [] d (omega (arith, l, e)))

-- a block is accepted exactly where all its checks hold
pub accepted_is_checked : (b : Certified) → IsRead b → IsAcceptedBlock b ↔ All (Holds b) (checks b)
accepted_is_checked b r = (to, from)
  where
    later : List Check
    later = tickets ∷ verdict ∷ answer_checks b.answer

    to : IsAcceptedBlock b → All (Holds b) (checks b)
    to a = every_all (Holds b) (checks b) (every_append (Holds b) (entries_checks 0 b.entries) later
        ((legal_is_checked b r).0 a.legal)
        (a.divided, (a.verdict, (after_is_checked b.letters b.problem b.entries b.corner b.answer).0 a.after)))

    from : All (Holds b) (checks b) → IsAcceptedBlock b
    from h =
        let z = every_parts (Holds b) (entries_checks 0 b.entries) later (all_every (Holds b) (checks b) h) in
        record {
          legal = (legal_is_checked b r).1 z.0;
          divided = z.1.0;
          verdict = z.1.1.0;
          after = (after_is_checked b.letters b.problem b.entries b.corner b.answer).1 z.1.1.1;
        }
