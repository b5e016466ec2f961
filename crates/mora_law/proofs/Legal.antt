-- Legal entries are monic, and in each space with the generators that is closed under monomials, so in the ideal.
-- An entry is the monic multiple of what its run ends with, and that is tied to a start made of earlier entries.
use Rattle.std.proofs.Common.{ℕ, zero, suc, ◌*◌, ◌<◌, ◌≤◌, ◌≡◌, List, [], ◌∷◌, ◌++◌, length, Option, Some, None, refl, sym, ◌∙◌, ap, subst, arith, ◌⊎◌, inl, inr}
use Rattle.std.proofs.lemmas.Bool.{cases_lt}
use Rattle.rank_algebra.specs.Ranks.{Ranks, IsRanks}
use Rattle.entry_code.specs.declared.reading.Reading.{Reading}
use Rattle.entry_code.specs.declared.item.Item.{Item}
use Rattle.entry_code.specs.declared.item.Item.TheVariants.{Generator, Pair}
use Rattle.entry_code.specs.Entry.{Entry, entry_at}
use Rattle.rank_algebra.specs.Vector.{Same, Vector, nothing, shift, Agree, cut_at}
use Rattle.rank_algebra.specs.Combination.{Part, part_value, IsSpace}
use Rattle.rank_algebra.specs.Division.{Basis, IsMonic, IsCover, corner_of, first_of}
use Rattle.rank_algebra.specs.Ideal.{InSpan, Generators}
use Rattle.mora_law.specs.Lead.{lead}
use Rattle.mora_law.specs.Step.{Reducer, choose, firsts, Run, reduce, step_at, step}
use Rattle.mora_law.specs.declared.step_end.StepEnd.TheVariants.{Stuck}
use Rattle.mora_law.specs.Run.{steps, begin, run_from, last_known, last_corner}
use Rattle.mora_law.specs.Entries.{lead_rank, basis_of}
use Rattle.entry_code.specs.Terms.{vector_of_terms}
use Rattle.mora_law.specs.Legal.{IsItemOf, AreLegal}
use Rattle.mora_law.specs.Start.{start_of}
use Rattle.rank_algebra.proofs.Linear.{agree_of, shift_unit, span_space, span_shift, span_part}
use Rattle.rank_algebra.proofs.Echelon.{echelon, less_in}
use Rattle.rank_algebra.proofs.Division.{multiple_lowest, multiple_one}
use Rattle.rank_algebra.proofs.Corner.{corner_is, corner_later}
use Rattle.mora_law.proofs.Ties.{Tied}
use Rattle.mora_law.proofs.Choice.{lead_some}
use Rattle.mora_law.proofs.TiedRuns.{run_is_tied}
use Rattle.mora_law.proofs.Across.{tied_out}
use Rattle.mora_law.proofs.Terms.{IsMonicOf, monic_is, monic_first}
use Rattle.mora_law.proofs.Orderly.{last_corner_le, last_corner_ge}

-- a step that ends with Stuck leaves a lead
pub record Leads (R : Ranks) (v : Vector) : Type 0 where
  pub r : ℕ
  pub is : lead R v ≡ Some r

-- a Stuck step has a lead
step_stuck : (R : Ranks) (entries : ℕ → Vector) (s : Run) (d : Reading) → (step R entries s d).end ≡ Some Stuck → Leads R (step R entries s d).poly
step_stuck R entries s d = go (lead R (cut_at d.corner s.poly)) refl
  where
    go2 : (r : ℕ) → lead R (cut_at d.corner s.poly) ≡ Some r → (o : Option Reducer) → (reduce R s.kept (cut_at d.corner s.poly) r o).end ≡ Some Stuck → Leads R (reduce R s.kept (cut_at d.corner s.poly) r o).poly
    go2 r f None e = record { r = r; is = f }
    go2 r f (Some c) e = absurd (cc e)

    go : (o : Option ℕ) → lead R (cut_at d.corner s.poly) ≡ o → (step_at R entries d.known s.kept (cut_at d.corner s.poly) o).end ≡ Some Stuck → Leads R (step_at R entries d.known s.kept (cut_at d.corner s.poly) o).poly
    go None f z = absurd (cc z)
    go (Some r) f z = go2 r f (choose R r (firsts d.known 0 entries ++ s.kept)) z

-- so have steps that end with one
steps_stuck : (R : Ranks) (entries : ℕ → Vector) (d : Reading) (ds : List Reading) (s : Run) → (steps R entries s (d ∷ ds)).end ≡ Some Stuck → Leads R (steps R entries s (d ∷ ds)).poly
steps_stuck R entries d [] s e = step_stuck R entries s d e
steps_stuck R entries d (d' ∷ ds) s e = steps_stuck R entries d' ds (step R entries s d) e

-- so has a run that ends with Stuck
run_stuck : (R : Ranks) (entries : ℕ → Vector) (f : Vector) (ds : List Reading) → 0 < length ds → (run_from R entries f ds).end ≡ Some Stuck → Leads R (run_from R entries f ds).poly
run_stuck R entries f [] l e = absurd (omega (arith, l))
run_stuck R entries f (d ∷ ds) l e = steps_stuck R entries d ds (begin f) e

module _ (R : Ranks) (L : IsRanks R) (G : Generators) (entries : List Entry) (legal : AreLegal R G entries) where
  -- the entries as vectors, with their leads
  abbrev pub B : Basis
  B = basis_of entries

  -- where the run of entry i begins
  abbrev pub begun : ℕ → Vector
  begun i = start_of R G B (entry_at entries i).item

  -- what it ends with
  abbrev pub ended : ℕ → Vector
  ended i = (run_from R B.member (begun i) (entry_at entries i).reads).poly

  -- entry i is the monic multiple of what its run ends with
  pub entry_lead : (i : ℕ) → i < B.size → Leads R (ended i)
  entry_lead i l = let e = (legal i l).ends in run_stuck R B.member (begun i) (entry_at entries i).reads e.some e.last_end

  -- entry i is its monic multiple
  pub entry_monic : (i : ℕ) (l : i < B.size) → IsMonicOf R (ended i) (B.member i) (entry_lead i l).r
  entry_monic i l = let m = monic_is R L (ended i) (entry_lead i l).r (entry_lead i l).is in
      subst (λ ts. IsMonicOf R (ended i) (vector_of_terms ts) (entry_lead i l).r) (sym (legal i l).terms) m

  -- and has its lead
  pub entry_lead_rank : (i : ℕ) (l : i < B.size) → B.lead i ≡ (entry_lead i l).r
  entry_lead_rank i l = ap lead_rank (legal i l).terms ∙ monic_first R L (ended i) (entry_lead i l).r (entry_lead i l).is

  -- so legal entries are monic
  pub legal_monic : IsMonic R B
  legal_monic = record {
    small = λ k l. subst (λ z. z < R.n) (sym (entry_lead_rank k l)) (lead_some R (ended k) _ (entry_lead k l).is).small;
    lowest = λ k l. subst (λ z. Agree R z (B.member k) nothing) (sym (entry_lead_rank k l)) (entry_monic k l).low;
    one = λ k l. subst (λ z. Same R.p (B.member k z) 1) (sym (entry_lead_rank k l)) (entry_monic k l).one;
  }

  -- so are the first of them
  monic_first_of : (i : ℕ) → i ≤ B.size → IsMonic R (first_of i B)
  monic_first_of i l = record { small = λ k m. legal_monic.small k (omega arith); lowest = λ k m. legal_monic.lowest k (omega arith); one = λ k m. legal_monic.one k (omega arith) }

  -- the last corner of entry i is a corner of the entries before it
  pub last_is_corner : (i : ℕ) → i < B.size → IsCover R (first_of i B) (last_corner R.n (entry_at entries i).reads)
  last_is_corner i l = corner_later R (first_of i B) (corner_of R (first_of i B)) _ c
      (last_corner_ge R B _ R.n (entry_at entries i).reads c.within (legal i l).corners) (last_corner_le i (entry_at entries i).reads 0 R.n (legal i l).orderly)
    where
      c : IsCover R (first_of i B) (corner_of R (first_of i B))
      c = corner_is R L (first_of i B)

  module _ (S : Vector → Type 0) (I : IsSpace R S) (closed : (a : ℕ) (v : Vector) → S v → S (shift R a v)) (gens : (g : ℕ) → g < G.count → S (G.member g)) where
    -- the start of an item over entries in the space is in it
    start_in : (i : ℕ) → ((j : ℕ) → j < i → S (B.member j)) → (item : Item) → IsItemOf G.count i item → S (start_of R G B item)
    start_in i mem (Generator g) f = gens g f
    start_in i mem (Pair a b) f = less_in R S I 1 _ _ (closed _ _ (mem b f.1)) (closed _ _ (mem a (omega (arith, f.0, f.1))))

    -- so is the next entry
    next_in : (i : ℕ) → i < B.size → ((j : ℕ) → j < i → S (B.member j)) → S (B.member i)
    next_in i l mem = I.alike _ _ (entry_monic i l).of (I.multiple _ (ended i) h)
      where
        t : Tied R (first_of i B) (last_known 0 (entry_at entries i).reads) 0 (begun i) (last_corner R.n (entry_at entries i).reads) (ended i)
        t = (run_is_tied R L (first_of i B) (monic_first_of i (omega arith)) (begun i) 0 (omega arith) (record { at = λ r o. absurd (omega (arith, o)) }) (entry_at entries i).reads (legal i l).orderly).0

        h : S (ended i)
        h = tied_out R L (first_of i B) (monic_first_of i (omega arith)) S I closed i (last_corner R.n (entry_at entries i).reads) (begun i) (ended i)
            (last_is_corner i l) (omega arith) mem 0 (subst (λ z. Tied R (first_of i B) z 0 (begun i) (last_corner R.n (entry_at entries i).reads) (ended i)) (legal i l).knows t) (start_in i mem _ (legal i l).item)

    -- so are the first entries, by induction
    first_in : (i : ℕ) → i ≤ B.size → (j : ℕ) → j < i → S (B.member j)
    first_in zero l j m = absurd (omega (arith, m))
    first_in (suc i) l j m = go (cases_lt j i) (λ k n. first_in i (omega arith) k n)
      where
        go : (j < i) ⊎ (i ≤ j) → ((k : ℕ) → k < i → S (B.member k)) → S (B.member j)
        go (inl n) up = up j n
        go (inr n) up = let z : i ≡ j = omega arith in subst (λ x. S (B.member x)) z (next_in i (omega arith) up)

    -- the entries are members
    pub entries_in : (j : ℕ) → j < B.size → S (B.member j)
    entries_in j l = first_in B.size (omega arith) j l

    -- and so is what begins at the corner
    pub past_corner_in : (v : Vector) → Agree R (corner_of R B) v nothing → S v
    past_corner_in v h = echelon R L S I (corner_of R B) (λ r m n. let c = (corner_is R L B).covers r m n in record {
      poly = shift R c.cofactor (B.member c.place);
      member = closed c.cofactor _ (entries_in c.place c.known);
      lowest = multiple_lowest R L B legal_monic r c.place c.cofactor c.known n c.is;
      one = multiple_one R L B legal_monic r c.place c.cofactor c.known n c.is;
    }) v h

  -- the ideal
  pub in_space : IsSpace R (InSpan R G)
  in_space = span_space R L G.member (λ t. t.place < G.count) (λ d t h. h)

  -- closed under monomials
  pub in_closed : (a : ℕ) (v : Vector) → InSpan R G v → InSpan R G (shift R a v)
  in_closed a v h = span_shift R L G.member (λ t. t.place < G.count) (λ t. t.place < G.count) a (λ t k. k) v h

  -- that has the generators
  pub in_gens : (g : ℕ) → g < G.count → InSpan R G (G.member g)
  in_gens g l = in_space.alike (G.member g) (part_value R G.member one) (agree_of R R.n _ _ (λ r m. same r m)) (span_part R L G.member (λ t. t.place < G.count) one l)
    where
      one : Part
      one = record { coef = 1; mono = 0; place = g }

      same : (r : ℕ) → r < R.n → G.member g r ≡ 1 * shift R 0 (G.member g) r
      same r m = omega (arith, shift_unit R L (G.member g) r m)
