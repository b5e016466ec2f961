-- Every entry of a legal list has a spelling.
-- Its terms rise, have residues but not 0, and begin with 1; its numbers are within the limits of a problem.
use Rattle.std.proofs.Common.{◌≡◌, ℕ, zero, suc, ◌+◌, ◌<◌, ◌≤◌, List, [], ◌∷◌, length, get_or, All, sym, ◌∙◌, subst, arith}
use Rattle.local_order.specs.Limits.{max_generators, max_monomials}
use Rattle.local_order.specs.Count.{monomial_count}
use Rattle.sparse_poly.specs.Ideal.{Problem, IsProblem}
use Rattle.rank_algebra.specs.Ranks.{Ranks}
use Rattle.entry_code.specs.declared.item.Item.{Item}
use Rattle.entry_code.specs.declared.item.Item.TheVariants.{Generator, Pair}
use Rattle.entry_code.specs.declared.reading.Reading.{Reading}
use Rattle.entry_code.specs.Entry.{Entry, entry_at}
use Rattle.entry_code.specs.Terms.{HasRisingRanks}
use Rattle.entry_code.specs.Words.{IsItem, IsReading, IsSpellable}
use Rattle.mora_law.specs.Ring.{ranks_of_problem, generators_of, IsAdmissible}
use Rattle.mora_law.specs.Run.{AreOrderly}
use Rattle.mora_law.specs.Entries.{basis_of}
use Rattle.mora_law.specs.Legal.{IsItemOf, Legal}
use Rattle.mora_law.proofs.Ring.{ranks_are, ranks_count, count_is, problem_is_admissible}
use Rattle.prime_field.proofs.Primality.{InTable-le}
use Rattle.entry_code.proofs.Spellings.{one_spelling}
use Rattle.run_core.specs.State.{count_of}
use Rattle.run_core.proofs.Room.{entry_room}
use Rattle.run_core.proofs.Learnable.{legal_terms}
use Rattle.reducer_list.specs.View.{Setting, top}
use Rattle.reducer_list.specs.Steps.{IsEntryOf}

-- along orderly readings the numbers known are at most that of the entries
known_low : (s known corner : ℕ) (ds : List Reading) → AreOrderly s known corner ds → known ≤ s
known_low s known corner [] h = h
known_low s known corner (d ∷ ds) h = omega (arith, h.0, known_low s d.known d.corner ds h.2)

-- so orderly readings have numbers within the limits
readings_low : (s known corner : ℕ) (ds : List Reading) → s ≤ max_monomials → corner ≤ max_monomials → AreOrderly s known corner ds → All IsReading ds
readings_low s known corner [] ls lc h = λ k e l. absurd (omega (arith, l))
readings_low s known corner (d ∷ ds) ls lc h = λ k e l. go (readings_low s d.known d.corner ds ls (omega (arith, lc, h.1)) h.2) k e l
  where
    go : All IsReading ds → (k : ℕ) (e : Reading) → k < length (d ∷ ds) → IsReading (get_or (d ∷ ds) k e)
    go rest zero e l = (omega (arith, ls, known_low s d.known d.corner ds h.2), omega (arith, lc, h.1))
    go rest (suc k) e l = rest k e (omega (arith, l))

-- an item of few generators and entries is within the limits
item_low : (m i : ℕ) (item : Item) → m ≤ max_generators → i ≤ max_monomials → IsItemOf m i item → IsItem item
item_low m i (Generator g) lm li h = omega (arith, lm, h)
item_low m i (Pair a b) lm li h = (h.0, omega (arith, li, h.1))

-- what the words of an entry tell of it, and how many they are
pub record Spells (P : Problem) (e : Entry) : Type 0 where
  pub spellable : IsSpellable P.p (count_of P) e
  pub some : 1 ≤ length e.terms
  pub few : length e.reads + length e.terms ≤ count_of P + 1

-- each entry of a legal list has a spelling
pub spells : (P : Problem) (entries : List Entry) (i : ℕ) → IsProblem P → Legal P entries → i < length entries → length entries ≤ count_of P → Spells P (entry_at entries i)
spells P entries i ok legal l few =
    let admits : IsAdmissible P = problem_is_admissible P ok in
    let R : Ranks = ranks_of_problem P in
    let laws = ranks_are P admits in
    let x : Entry = entry_at entries i in
    let h = legal i l in
    let most : count_of P ≤ max_monomials = subst (λ (n : ℕ). n ≤ max_monomials) (sym (ranks_count P ∙ count_is P)) ok.monomials in
    let terms = legal_terms P admits entries legal i l in
    let places : monomial_count P.n P.d ≡ count_of P = sym (ranks_count P ∙ count_is P) in
    let room = entry_room R laws (generators_of P) (basis_of entries) i x h in
    record {
      spellable = record {
        item = item_low (length P.gens) i x.item ok.few_gens (omega (arith, l, few, most)) h.item;
        some_reads = h.ends.some;
        few_reads = omega (arith, room, terms.some);
        reads = readings_low i 0 R.n x.reads (omega (arith, l, few, most)) most h.orderly;
        ranks = subst (λ (n : ℕ). HasRisingRanks n x.terms) places terms.ranks;
        residues = terms.residues;
        monic = terms.one;
      };
      some = terms.some;
      few = room;
    }

-- words are those of one entry
pub one_entry : (p : Setting) (words : List ℕ) (e f : Entry) → IsProblem p.problem → IsEntryOf p words e → IsEntryOf p words f → e ≡ f
one_entry p words e f ok a b = one_spelling p.problem.p (top p) e f (omega (arith, InTable-le p.problem.p ok.prime)) a.1 b.1 (a.0 ∙ sym b.0)
