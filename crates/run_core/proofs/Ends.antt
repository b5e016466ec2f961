-- How runs end: a run with a reading has an end, and over more entries it is the same.
-- By cases of the last step; a run sees no more entries than its readings know.
use Rattle.std.proofs.Common.{◌≡◌, ℕ, ◌<◌, true, List, [], ◌∷◌, ◌++◌, length, Option, Some, None, ◌&&◌, not, refl, sym, ◌∙◌, ap, ap₂, arith}
use Rattle.std.specs.Prelude.{is_some}
use Rattle.rank_algebra.specs.Ranks.{Ranks}
use Rattle.mono_rank.specs.Rank.{mono_at}
use Rattle.sparse_poly.specs.Ideal.{Problem}
use Rattle.entry_code.specs.declared.item.Item.{Item}
use Rattle.entry_code.specs.declared.item.Item.TheVariants.{Generator, Pair}
use Rattle.entry_code.specs.declared.reading.Reading.{Reading}
use Rattle.entry_code.specs.Entry.{Entry}
use Rattle.rank_algebra.specs.Vector.{Vector, cut_at}
use Rattle.mora_law.specs.Ring.{numbering_of, ranks_of_problem}
use Rattle.mora_law.specs.Lead.{lead}
use Rattle.mora_law.specs.Step.{Reducer, Run, choose, firsts, reduce, step_at, step}
use Rattle.mora_law.specs.Run.{steps, begin, AreOrderly}
use Rattle.mora_law.specs.Entries.{lead_rank, leads, basis_of}
use Rattle.mora_law.specs.Start.{start}
use Rattle.mora_law.specs.Legal.{IsItemOf}
use Rattle.mora_law.proofs.SettledByRank.{lead_at}
use Rattle.mora_law.proofs.Prefixes.{IsPrefix}
use Rattle.mora_law.proofs.Growth.{skip_same, run_over_more}
use Rattle.mora_law.specs.Items.{item_for, tickets}
use Rattle.run_core.specs.Hand.{Hand, end_of, is_skipped, is_zero, is_open}
use Rattle.run_core.specs.State.{count_of}
use Rattle.mora_law.proofs.Items.{item_fits}

-- a step has an end
step_ends : (R : Ranks) (entries : ℕ → Vector) (s : Run) (d : Reading) → is_some (step R entries s d).end ≡ true
step_ends R entries s d = go (lead R (cut_at d.corner s.poly))
  where
    go2 : (r : ℕ) (o : Option Reducer) → is_some (reduce R s.kept (cut_at d.corner s.poly) r o).end ≡ true
    go2 r None = refl
    go2 r (Some c) = refl

    go : (o : Option ℕ) → is_some (step_at R entries d.known s.kept (cut_at d.corner s.poly) o).end ≡ true
    go None = refl
    go (Some r) = go2 r (choose R r (firsts d.known 0 entries ++ s.kept))

-- so steps after it have one
steps_end : (R : Ranks) (entries : ℕ → Vector) (s : Run) (ds : List Reading) → is_some s.end ≡ true → is_some (steps R entries s ds).end ≡ true
steps_end R entries s [] e = e
steps_end R entries s (d ∷ ds) e = steps_end R entries (step R entries s d) ds (step_ends R entries s d)

-- a run with a reading has an end
pub end_some : (P : Problem) (known : List Entry) (k : ℕ) (d : Reading) (ds : List Reading) → is_some (end_of P known k (d ∷ ds)) ≡ true
unfolding end_of
end_some P known k d ds =
    let s : Run = begin (start P known (item_for P k)) in
    steps_end (ranks_of_problem P) (basis_of known).member (step (ranks_of_problem P) (basis_of known).member s d) ds (step_ends (ranks_of_problem P) (basis_of known).member s d)

-- a run with no reading has none
pub end_none : (P : Problem) (known : List Entry) (k : ℕ) → end_of P known k [] ≡ None
unfolding end_of
end_none P known k = refl

module _ (P : Problem) (short long : List Entry) (b : IsPrefix short long) where
  -- a run that knows the first entries alone ends alike over more
  pub end_longer : (k : ℕ) (reads : List Reading) → k < tickets P (length short) → AreOrderly (length short) 0 (count_of P) reads → end_of P long k reads ≡ end_of P short k reads
  unfolding end_of
  end_longer k reads l o = ap (λ (r : Run). r.end) (run_over_more P short long b (item_for P k) reads (item_fits P k (length short) l) o)

  -- a lead stays
  lead_same : (k : ℕ) → k < length short → mono_at (leads P short) k ≡ mono_at (leads P long) k
  lead_same k l = lead_at P short k l ∙ ap (λ e. (numbering_of P).mono (lead_rank e.terms)) (sym (b.same k l)) ∙ sym (lead_at P long k (omega (arith, l, b.shorter)))

  -- a pair of the first entries is skipped by more entries exactly where it is by these
  pub skipped_longer : (item : Item) → IsItemOf (length P.gens) (length short) item → is_skipped P long item ≡ is_skipped P short item
  skipped_longer (Generator g) f = refl
  skipped_longer (Pair i j) f = ap is_some (sym (skip_same (leads P short) (leads P long) i j f.0 (λ k l. lead_same k (omega (arith, l, f.1)))))

  -- a hand is open over more entries exactly where it is over those that its seat knows
  pub open_longer : (h : Hand) → h.ticket < tickets P (length short) → AreOrderly (length short) 0 (count_of P) h.reads → is_open P long h ≡ is_open P short h
  unfolding is_open
  open_longer h l o =
      ap₂ (λ x y. not h.published && (not x && not (is_zero y))) (skipped_longer (item_for P h.ticket) (item_fits P h.ticket (length short) l)) (end_longer h.ticket h.reads l o)
