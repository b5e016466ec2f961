-- What stays when entries are added, said of a problem: legal entries, runs, settled tickets, and the corner, which never rises.
-- And the corner of the entries is the corner of their leads.
use Rattle.std.proofs.Common.{◌≡◌, ℕ, ◌<◌, ◌≤◌, List, [], ◌∷◌, ◌++◌, length, take, Some, cond, IsSome, sym, ◌∙◌, ap, ap₂, subst, arith, inl, inr}
use Rattle.std.specs.Prelude.{option_map}
use Rattle.std.proofs.lemmas.List.{length-take-le}
use Rattle.local_order.specs.Mono.{mono_lcm, divides, coprime}
use Rattle.mono_rank.specs.Rank.{mono_at}
use Rattle.sparse_poly.specs.Ideal.{Problem}
use Rattle.entry_code.specs.declared.item.Item.{Item}
use Rattle.entry_code.specs.declared.item.Item.TheVariants.{Generator, Pair}
use Rattle.entry_code.specs.declared.reading.Reading.{Reading}
use Rattle.entry_code.specs.Entry.{Entry}
use Rattle.rank_algebra.specs.Division.{corner_of, first_of}
use Rattle.mora_law.specs.Ring.{numbering_of, ranks_of_problem, IsAdmissible, generators_of}
use Rattle.mora_law.specs.declared.skip.Skip.TheVariants.{Product, Chain}
use Rattle.mora_law.specs.Run.{AreOrderly}
use Rattle.mora_law.specs.Entries.{lead_rank, basis_of, corner, leads}
use Rattle.mora_law.specs.Start.{run}
use Rattle.mora_law.specs.Legal.{IsItemOf, IsLegalEntry, Legal}
use Rattle.mora_law.specs.Skip.{chain, skip}
use Rattle.mora_law.specs.Settled.{IsSkipped, IsSettled}
use Rattle.rank_algebra.proofs.Corner.{Begins, corner_of_same}
use Rattle.mora_law.proofs.Ring.{ranks_are}
use Rattle.mora_law.proofs.Prefixes.{IsPrefix, prefix_take, begins, legal_more, legal_prefix, run_prefix, has_entry_more, corner_falls, to_zero_more}
use Rattle.rank_algebra.proofs.Searches.{find_same}
use Rattle.mora_law.proofs.SettledByRank.{lead_at}

-- ---- skipped pairs
-- a pair is skipped by the leads up to its second entry alone
pub skip_same : (ms ms' : List (List ℕ)) (i j : ℕ) → i < j → ((k : ℕ) → k ≤ j → mono_at ms k ≡ mono_at ms' k) → skip ms i j ≡ skip ms' i j
unfolding skip
skip_same ms ms' i j l h =
    ap₂ (λ b o. cond b (Some Product) (option_map (λ k. Chain k) o)) (ap₂ coprime (h i (omega arith)) (h j (omega arith)))
    (ap (λ m. chain ms i m) (ap₂ mono_lcm (h i (omega arith)) (h j (omega arith)))
    ∙ find_same (λ k. divides (mono_at ms k) m) (λ k. divides (mono_at ms' k) m) 0 i (λ k below. ap (λ a. divides a m) (h k (omega arith))))
  where
    m : List ℕ
    m = mono_lcm (mono_at ms' i) (mono_at ms' j)

module _ (P : Problem) where
  -- a list with a legal entry more is legal
  pub legal_added : (entries : List Entry) (e : Entry) → Legal P entries → IsLegalEntry (ranks_of_problem P) (generators_of P) (basis_of entries) (length entries) e → Legal P (entries ++ e ∷ [])
  legal_added entries e legal new = legal_more (ranks_of_problem P) (generators_of P) entries e legal new

  -- the first entries of a legal list are legal
  pub legal_take : (entries : List Entry) (k : ℕ) → k ≤ length entries → Legal P entries → Legal P (take k entries)
  legal_take entries k l legal = legal_prefix (ranks_of_problem P) (generators_of P) (take k entries) entries (prefix_take k entries l) legal

  module _ (entries longer : List Entry) (b : IsPrefix entries longer) where
    -- a run that knows the first entries alone is the same over more entries
    pub run_over_more : (item : Item) (reads : List Reading) → IsItemOf (length P.gens) (length entries) item → AreOrderly (length entries) 0 (ranks_of_problem P).n reads →
        run P longer item reads ≡ run P entries item reads
    run_over_more item reads f o = run_prefix (ranks_of_problem P) (generators_of P) entries longer b item reads f o

    -- a lead stays
    lead_same : (k : ℕ) → k < length entries → mono_at (leads P entries) k ≡ mono_at (leads P longer) k
    lead_same k l = lead_at P entries k l ∙ ap (λ e. (numbering_of P).mono (lead_rank e.terms)) (sym (b.same k l)) ∙ sym (lead_at P longer k (omega (arith, l, b.shorter)))

    -- what is skipped stays skipped
    skipped_more : (item : Item) → IsItemOf (length P.gens) (length entries) item → IsSkipped P entries item → IsSkipped P longer item
    skipped_more (Generator g) f s = s
    skipped_more (Pair i j) f s = subst IsSome (skip_same (leads P entries) (leads P longer) i j f.0 (λ k l. lead_same k (omega (arith, l, f.1)))) s

    module _ (h : IsAdmissible P) where
      -- the corner never rises
      pub corner_never_rises : corner P longer ≤ corner P entries
      corner_never_rises = corner_falls (ranks_of_problem P) (generators_of P) entries longer b (ranks_are P h)

      -- a settled ticket stays settled
      pub settled_more : (item : Item) → IsItemOf (length P.gens) (length entries) item → IsSettled P entries item → IsSettled P longer item
      settled_more item f (inl s) = inl (skipped_more item f s)
      settled_more item f (inr (inl e)) = inr (inl (has_entry_more (ranks_of_problem P) (generators_of P) entries longer b item e))
      settled_more item f (inr (inr z)) = inr (inr (to_zero_more (ranks_of_problem P) (generators_of P) entries longer b (ranks_are P h) item f z))

  -- ---- corners
  -- the corner of the first entries is the corner of the list of them
  pub corner_of_first : (entries : List Entry) (k : ℕ) → k ≤ length entries → corner_of (ranks_of_problem P) (first_of k (basis_of entries)) ≡ corner P (take k entries)
  corner_of_first entries k l =
      corner_of_same (ranks_of_problem P) (basis_of (take k entries)) (basis_of entries) k k (omega arith) b
      ∙ ap (λ n. corner_of (ranks_of_problem P) (first_of n (basis_of (take k entries)))) (sym (length-take-le k entries l))
    where
      b : Begins k (basis_of (take k entries)) (basis_of entries)
      b = subst (λ n. Begins n (basis_of (take k entries)) (basis_of entries)) (length-take-le k entries l) (begins (take k entries) entries (prefix_take k entries l))
