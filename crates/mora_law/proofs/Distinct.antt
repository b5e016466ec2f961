-- The lead of an entry is a multiple of no lead before it, so there are no more entries than monomials.
-- The last reading of an entry knew all entries before it, and none of them was a reducer.
use Rattle.std.proofs.Common.{ℕ, zero, suc, ◌+◌, ◌<◌, ◌≤◌, ◌≡◌, List, [], ◌∷◌, ◌++◌, length, Bool, true, false, Option, Some, None, leb, refl, sym, ◌∙◌, subst, arith, ◌⊎◌, inl, inr}
use Rattle.std.proofs.lemmas.Bool.{cases_lt}
use Rattle.rank_algebra.specs.Ranks.{Ranks, IsRanks}
use Rattle.entry_code.specs.declared.reading.Reading.{Reading}
use Rattle.entry_code.specs.Entry.{Entry, entry_at}
use Rattle.rank_algebra.specs.Vector.{Vector, cut_at}
use Rattle.rank_algebra.specs.Division.{Basis, IsMonic}
use Rattle.rank_algebra.specs.Ideal.{Generators}
use Rattle.mora_law.specs.Lead.{lead, ecart}
use Rattle.mora_law.specs.Step.{Reducer, reducer_by, reducer_at, reducer, better_by, better, choose, firsts, Run, reduce, step_at, step}
use Rattle.mora_law.specs.declared.step_end.StepEnd.TheVariants.{Stuck}
use Rattle.mora_law.specs.Run.{steps, begin, run_from, last_known}
use Rattle.mora_law.specs.Entries.{basis_of}
use Rattle.mora_law.specs.Legal.{AreLegal}
use Rattle.rank_algebra.proofs.Residues.{same_trans, same_sym}
use Rattle.rank_algebra.proofs.First.{quotient_lead}
use Rattle.mora_law.proofs.Ties.{Every}
use Rattle.mora_law.proofs.Choice.{lead_some, lead_is}
use Rattle.mora_law.proofs.Terms.{one_is}
use Rattle.mora_law.proofs.Legal.{legal_monic, begun, ended, entry_lead, entry_lead_rank}

-- v has a lead, for which there was no reducer among the first entries
pub record StuckAt (R : Ranks) (entries : ℕ → Vector) (known : ℕ) (v : Vector) : Type 0 where
  pub r : ℕ
  pub is : lead R v ≡ Some r
  pub kept : List Vector
  pub none : choose R r (firsts known 0 entries ++ kept) ≡ None

-- a Stuck step had no reducer
step_at_stuck : (R : Ranks) (entries : ℕ → Vector) (s : Run) (d : Reading) → (step R entries s d).end ≡ Some Stuck → StuckAt R entries d.known (step R entries s d).poly
step_at_stuck R entries s d = go (lead R (cut_at d.corner s.poly)) refl
  where
    go2 : (r : ℕ) → lead R (cut_at d.corner s.poly) ≡ Some r → (o : Option Reducer) → choose R r (firsts d.known 0 entries ++ s.kept) ≡ o → (reduce R s.kept (cut_at d.corner s.poly) r o).end ≡ Some Stuck → StuckAt R entries d.known (reduce R s.kept (cut_at d.corner s.poly) r o).poly
    go2 r f None g e = record { r = r; is = f; kept = s.kept; none = g }
    go2 r f (Some c) g e = absurd (cc e)

    go : (o : Option ℕ) → lead R (cut_at d.corner s.poly) ≡ o → (step_at R entries d.known s.kept (cut_at d.corner s.poly) o).end ≡ Some Stuck → StuckAt R entries d.known (step_at R entries d.known s.kept (cut_at d.corner s.poly) o).poly
    go None f z = absurd (cc z)
    go (Some r) f z = go2 r f (choose R r (firsts d.known 0 entries ++ s.kept)) refl z

-- the last of the steps is such a step
steps_at_stuck : (R : Ranks) (entries : ℕ → Vector) (d : Reading) (ds : List Reading) (s : Run) → (steps R entries s (d ∷ ds)).end ≡ Some Stuck → StuckAt R entries (last_known d.known ds) (steps R entries s (d ∷ ds)).poly
steps_at_stuck R entries d [] s e = step_at_stuck R entries s d e
steps_at_stuck R entries d (d' ∷ ds) s e = steps_at_stuck R entries d' ds (step R entries s d) e

-- so a run that ends with Stuck had none at its last reading
run_at_stuck : (R : Ranks) (entries : ℕ → Vector) (f : Vector) (ds : List Reading) → 0 < length ds → (run_from R entries f ds).end ≡ Some Stuck → StuckAt R entries (last_known 0 ds) (run_from R entries f ds).poly
run_at_stuck R entries f [] l e = absurd (omega (arith, l))
run_at_stuck R entries f (d ∷ ds) l e = steps_at_stuck R entries d ds ((begin f)) e

-- the better of two is none only where both are
better_none : (R : Ranks) (a b : Option Reducer) → better R a b ≡ None → (a ≡ None) × (b ≡ None)
better_none R None b e = (refl, e)
better_none R (Some a) None e = absurd (cc e)
better_none R (Some a) (Some b) e = go (leb (ecart R a.poly) (ecart R b.poly)) e
  where
    go : (t : Bool) → better_by a b t ≡ None → (Some a ≡ None) × (Some b ≡ None)
    go true f = absurd (cc f)
    go false f = absurd (cc f)

-- nothing is chosen only where no vector is a reducer
choose_none : (R : Ranks) (r : ℕ) (gs : List Vector) → choose R r gs ≡ None → Every (λ g. reducer R r g ≡ None) gs
choose_none R r [] e = tt
choose_none R r (g ∷ gs) e = let h = better_none R (reducer R r g) (choose R r gs) e in (h.0, choose_none R r gs h.1)

-- what holds of each of the first vectors holds of vector j
first_at : (G : Vector → Type 0) (entries : ℕ → Vector) (left k j : ℕ) (remainder : List Vector) → Every G (firsts left k entries ++ remainder) → k ≤ j → j < k + left → G (entries j)
first_at G entries zero k j remainder h l m = absurd (omega (arith, l, m))
first_at G entries (suc left) k j remainder h l m = go (cases_lt k j) (λ n. first_at G entries left (suc k) j remainder h.1 n (omega arith))
  where
    go : (k < j) ⊎ (j ≤ k) → (suc k ≤ j → G (entries j)) → G (entries j)
    go (inl n) up = up n
    go (inr n) up = let z : k ≡ j = omega arith in subst (λ x. G (entries x)) z h.0

module _ (R : Ranks) (L : IsRanks R) (G : Generators) (entries : List Entry) (legal : AreLegal R G entries) where
  -- the entries as vectors, with their leads
  abbrev B : Basis
  B = basis_of entries

  -- the lead of a legal entry is the rank of its first term
  pub lead_at : (j : ℕ) → j < B.size → lead R (B.member j) ≡ Some (B.lead j)
  lead_at j l = lead_is R (B.member j) (B.lead j) (record {
    small = M.small j l;
    low = M.lowest j l;
    some = λ z. one_is R L _ _ (lead_some R _ _ (entry_lead R L G entries legal j l).is) (same_trans (same_sym (M.one j l)) z);
  })
    where
      M : IsMonic R B
      M = legal_monic R L G entries legal

  -- it is a multiple of no lead before it
  pub no_earlier : (i j q : ℕ) → i < B.size → j < i → R.times q (B.lead j) ≡ B.lead i → ⊥
  no_earlier i j q l m e = cc (over, none)
    where
      st : StuckAt R B.member (last_known 0 (entry_at entries i).reads) (ended R L G entries legal i)
      st = let x = (legal i l).ends in run_at_stuck R B.member (begun R L G entries legal i) (entry_at entries i).reads x.some x.last_end

      same : st.r ≡ B.lead i
      same = let z : Some st.r ≡ Some (entry_lead R L G entries legal i l).r = sym st.is ∙ (entry_lead R L G entries legal i l).is in cc z ∙ sym (entry_lead_rank R L G entries legal i l)

      over : R.quotient st.r (B.lead j) ≡ Some q
      over = quotient_lead R L B st.r j q (lead_some R _ st.r st.is).small (e ∙ sym same)

      at : reducer R st.r (B.member j) ≡ None
      at = first_at (λ g. reducer R st.r g ≡ None) B.member (last_known 0 (entry_at entries i).reads) 0 j st.kept (choose_none R st.r _ st.none) (omega arith) (omega (arith, m, (legal i l).knows))

      none : R.quotient st.r (B.lead j) ≡ None
      none = go (R.quotient st.r (B.lead j)) (subst (λ o. reducer_at R st.r (B.member j) o ≡ None) (lead_at j (omega arith)) at)
        where
          go : (o : Option ℕ) → reducer_by (B.member j) (B.lead j) o ≡ None → o ≡ None
          go None f = refl
          go (Some q) f = absurd (cc f)
