-- Tickets that are settled for a problem are settled by rank, so the criterion by rank speaks of them.
-- A skipped pair whose least common multiple has no rank leaves nothing.
use Rattle.std.proofs.Common.{◌≡◌, ℕ, ◌%◌, ◌<◌, ◌≤◌, ◌⊎◌, List, length, IsSome, arith, inl, inr}
use Rattle.std.proofs.lemmas.Bool.{cases_lt}
use Rattle.std.proofs.lemmas.List.{get_or-map}
use Rattle.prime_field.specs.Inverse.{inverse}
use Rattle.mono_rank.specs.Rank.{mono_at}
use Rattle.sparse_poly.specs.Ideal.{Problem}
use Rattle.entry_code.specs.declared.item.Item.{Item}
use Rattle.entry_code.specs.declared.item.Item.TheVariants.{Generator, Pair}
use Rattle.entry_code.specs.Entry.{Entry, no_entry}
use Rattle.rank_algebra.specs.Vector.{nothing}
use Rattle.rank_algebra.specs.Division.{IsMonic, corner_of, lcm_of}
use Rattle.mora_law.specs.Ring.{numbering_of, ranks_of_problem, IsAdmissible, generators_of}
use Rattle.mora_law.specs.Entries.{lead_rank, basis_of, AreMonic, leads}
use Rattle.mora_law.specs.Legal.{IsItemOf, Legal}
use Rattle.mora_law.specs.Skip.{skip}
use Rattle.mora_law.specs.Settled.{IsSettled, LeavesNothing, AllSettled}
use Rattle.rank_algebra.proofs.Linear.{agree_trans}
use Rattle.rank_algebra.proofs.Division.{remainder_agree, gone_space}
use Rattle.rank_algebra.proofs.Corner.{corner_is}
use Rattle.mora_law.proofs.Ring.{numbering_is, ranks_are, ranks_count}
use Rattle.mora_law.proofs.Criteria.{IsProduct, IsChain, IsSettledByRank, AllSettledByRank}
use Rattle.mora_law.proofs.Tickets.{ticket_below, has_ticket}
use Rattle.mora_law.proofs.Skips.{skipped_by_rank, pair_nothing}
use Rattle.mora_law.proofs.Legal.{legal_monic}

-- the lead of an entry as a monomial
pub lead_at : (P : Problem) (entries : List Entry) (k : ℕ) → k < length entries → mono_at (leads P entries) k ≡ (numbering_of P).mono ((basis_of entries).lead k)
lead_at P entries k l = get_or-map (λ e. (numbering_of P).mono (lead_rank e.terms)) entries k no_entry _ l

module _ (P : Problem) (h : IsAdmissible P) (entries : List Entry) where
  -- a skipped pair whose least common multiple has a rank
  skipped : AreMonic P entries → (i j : ℕ) → i < j → j < length entries → lcm_of (ranks_of_problem P) (basis_of entries) i j < (numbering_of P).count →
      IsSome (skip (leads P entries) i j) → IsProduct (ranks_of_problem P) (basis_of entries) i j ⊎ IsChain (ranks_of_problem P) (basis_of entries) i j
  unfolding ranks_of_problem
  skipped M i j l m s e = skipped_by_rank P.p P.n P.d (λ c. inverse P.p (c % P.p)) (numbering_of P) (numbering_is P h.some) (basis_of entries) M.small
      (leads P entries) (lead_at P entries) i j l m s e

  -- a pair whose least common multiple has none leaves nothing
  leaves_nothing : AreMonic P entries → (i j : ℕ) → i < j → j < length entries → (ranks_of_problem P).n ≤ lcm_of (ranks_of_problem P) (basis_of entries) i j →
      LeavesNothing (ranks_of_problem P) (generators_of P) entries (Pair i j)
  leaves_nothing M i j l m big =
      agree_trans
      (remainder_agree (ranks_of_problem P) (basis_of entries) c 0 _ nothing (omega (arith, within)) (pair_nothing (ranks_of_problem P) (ranks_are P h) (basis_of entries) M i j (omega (arith, l, m)) m big))
      (gone_space (ranks_of_problem P) (basis_of entries) c 0 (omega (arith, within))).empty.gone
    where
      c : ℕ
      c = corner_of (ranks_of_problem P) (basis_of entries)

      within : c ≤ (ranks_of_problem P).n
      within = (corner_is (ranks_of_problem P) (ranks_are P h) (basis_of entries)).within

  -- what settles each ticket settles each item by rank
  pub settled_by_rank : Legal P entries → AllSettled P entries → AllSettledByRank (ranks_of_problem P) (generators_of P) entries
  settled_by_rank legal settled item f = go item f (settled item (has_ticket _ _ item f) (ticket_below _ _ item f))
    where
      M : IsMonic (ranks_of_problem P) (basis_of entries)
      M = legal_monic (ranks_of_problem P) (ranks_are P h) (generators_of P) entries legal

      go : (item : Item) → IsItemOf (length P.gens) (length entries) item → IsSettled P entries item ⊎ LeavesNothing (ranks_of_problem P) (generators_of P) entries item →
          IsSettledByRank (ranks_of_problem P) (generators_of P) entries item ⊎ LeavesNothing (ranks_of_problem P) (generators_of P) entries item
      go item f (inr d) = inr d
      go item f (inl (inr (inl e))) = inl (inl (inr e))
      go item f (inl (inr (inr z))) = inl (inr z)
      go (Generator g) f (inl (inl s)) = absurd s
      go (Pair i j) f (inl (inl s)) = at (cases_lt (lcm_of (ranks_of_problem P) (basis_of entries) i j) (ranks_of_problem P).n)
        where
          at : (lcm_of (ranks_of_problem P) (basis_of entries) i j < (ranks_of_problem P).n) ⊎ ((ranks_of_problem P).n ≤ lcm_of (ranks_of_problem P) (basis_of entries) i j) →
              IsSettledByRank (ranks_of_problem P) (generators_of P) entries (Pair i j) ⊎ LeavesNothing (ranks_of_problem P) (generators_of P) entries (Pair i j)
          at (inl small) = inl (inl (inl (skipped M i j f.0 f.1 (omega (arith, small, ranks_count P)) s)))
          at (inr big) = inr (leaves_nothing M i j f.0 f.1 big)
