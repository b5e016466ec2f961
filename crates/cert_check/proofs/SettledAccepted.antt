-- What a solve certifies is accepted: where the entries are legal and settle every ticket, a right answer passes each check.
-- The start of each ticket is in the ideal, so plain division leaves nothing of it; the rest is the criterion, read the other way round.
use Rattle.std.proofs.Common.{ℕ, ◌<◌, ◌↔◌, ◌⊎◌, List, length, Option, sym, ◌∙◌, arith, inl, inr}
use Rattle.rank_algebra.specs.Ranks.{Ranks, IsRanks}
use Rattle.rank_algebra.specs.Vector.{shift}
use Rattle.rank_algebra.specs.Combination.{IsSpace}
use Rattle.rank_algebra.specs.Ideal.{InSpan, Generators}
use Rattle.rank_algebra.proofs.Echelon.{less_in}
use Rattle.sparse_poly.specs.Ideal.{Problem, IsFirstMissing, IsStaircase}
use Rattle.staircase.proofs.Basis.{one_basis}
use Rattle.entry_code.specs.declared.item.Item.{Item}
use Rattle.entry_code.specs.declared.item.Item.TheVariants.{Generator, Pair}
use Rattle.entry_code.specs.Entry.{Entry}
use Rattle.mora_law.specs.Ring.{ranks_of_problem, generators_of, IsAdmissible}
use Rattle.mora_law.specs.Entries.{basis_of}
use Rattle.mora_law.specs.Start.{start}
use Rattle.mora_law.specs.Basis.{basis}
use Rattle.mora_law.specs.Legal.{IsItemOf, Legal}
use Rattle.mora_law.specs.Settled.{IsSettled, LeavesNothing, AllSettled}
use Rattle.mora_law.proofs.Ring.{ranks_are}
use Rattle.mora_law.proofs.Legal.{entries_in, in_space, in_closed, in_gens}
use Rattle.mora_law.proofs.SettledByRank.{settled_by_rank}
use Rattle.mora_law.proofs.Buchberger.{in_gone}
use Rattle.mora_law.proofs.Problems.{criterion, basis_is_reduced}
use Rattle.mora_law.proofs.Corners.{fits_by_corner}
use Rattle.mora_law.proofs.Tickets.{item_below}
use Rattle.text_out.specs.declared.answer.Answer.{Answer}
use Rattle.text_out.specs.declared.answer.Answer.TheVariants.{Fits, TooSmall}
use Rattle.cert_grammar.specs.declared.certified.Certified.{Certified}
use Rattle.cert_check.specs.Block.{terms_of_each}
use Rattle.cert_check.specs.Accepted.{IsDivided, AreDivided, IsDone, OthersAreDivided, IsFirstFree, IsVerdict, IsFreeList, IsAfterFits, IsAcceptedBlock}
use Rattle.cert_check.specs.Right.{IsRight}
use Rattle.cert_check.proofs.Right.{corner_is_last}

module _ (P : Problem) (h : IsAdmissible P) (entries : List Entry) (legal : Legal P entries) (settled : AllSettled P entries) where
  -- how the ranks of its monomials compute
  abbrev R : Ranks
  R = ranks_of_problem P

  -- its generators as vectors
  abbrev G : Generators
  G = generators_of P

  -- they compute rightly
  L : IsRanks R
  L = ranks_are P h

  -- a run of an item over the entries begins in the ideal
  start_inside : (item : Item) → IsItemOf (length P.gens) (length entries) item → InSpan R G (start P entries item)
  start_inside (Generator g) f = in_gens R L G entries legal g f
  start_inside (Pair a b) f = less_in R (InSpan R G) space 1 _ _ (shifted _ b f.1) (shifted _ a (omega (arith, f.0, f.1)))
    where
      space : IsSpace R (InSpan R G)
      space = in_space R L G entries legal

      shifted : (c k : ℕ) → k < length entries → InSpan R G (shift R c ((basis_of entries).member k))
      shifted c k l = in_closed R L G entries legal c _
          (entries_in R L G entries legal (InSpan R G) space (in_closed R L G entries legal)
          (in_gens R L G entries legal) k l)

  -- so plain division leaves nothing of it
  start_leaves_nothing : (item : Item) → IsItemOf (length P.gens) (length entries) item → LeavesNothing R G entries item
  start_leaves_nothing item f =
      (in_gone R L G entries legal (settled_by_rank P h entries legal settled) (start P entries item) (start_inside item f)).gone

  -- each ticket is divided
  pub divided : AreDivided P entries
  divided item t l = go (settled item t l)
    where
      nothing_left : LeavesNothing R G entries item
      nothing_left = start_leaves_nothing item (item_below (length P.gens) (length entries) item t l)

      go : IsSettled P entries item ⊎ LeavesNothing R G entries item → IsDivided P entries item
      go (inl (inl s)) = inl s
      go (inl (inr e)) = inr nothing_left
      go (inr z) = inr z

  -- the first missing monomial is the greatest of degree d that is a multiple of no lead of the entries
  missing_is_free : (m : List ℕ) → IsFirstMissing P m → IsFirstFree P entries m
  missing_is_free m f = record {
    in_ring = f.in_ring;
    top = f.top;
    free = λ by. f.missing ((criterion P h entries legal settled m f.in_ring (omega (arith, f.top))).1 by);
    first = λ k e top above. (criterion P h entries legal settled k e (omega (arith, top))).0 (f.first k e top above);
  }

  -- the staircase has the monomials that are multiples of none
  stair_is_free : (s : List (List ℕ)) → IsStaircase P s → IsFreeList P entries s
  stair_is_free s x = record {
    falling = x.falling;
    exactly = λ m e low. let c = criterion P h entries legal settled m e low in
        ((λ i by. (x.exactly m e low).0 i (c.1 by)), (λ n. (x.exactly m e low).1 (λ lead. n (c.0 lead))));
    only = x.only;
  }

  -- a right answer has the verdict of the entries
  verdict_of_right : (a : Answer) (highest : Option (List ℕ)) → IsRight P a highest → IsVerdict P entries a
  verdict_of_right (Fits gs s) highest r = (fits_by_corner P h entries legal settled).0 r.0
  verdict_of_right (TooSmall m) highest r = ((λ low. r.0 ((fits_by_corner P h entries legal settled).1 low)), missing_is_free m r.1)

  -- and after `fits` their basis, highest corner and staircase
  after_of_right : (a : Answer) (highest : Option (List ℕ)) → IsRight P a highest → IsAfterFits P entries a highest
  after_of_right (Fits gs s) highest r = (
    one_basis P (terms_of_each gs) (basis P entries) r.1 (basis_is_reduced P h entries legal settled),
    r.3 ∙ sym (corner_is_last P h entries legal divided s r.2),
    stair_is_free s r.2,
  )
  after_of_right (TooSmall m) highest r = tt

-- behind legal entries all tickets are divided where those without an entry are
pub others_divided : (P : Problem) (entries : List Entry) → IsAdmissible P → Legal P entries → AreDivided P entries ↔ OthersAreDivided P entries
others_divided P entries h legal = ((λ d item t l. inr (d item t l)), (λ f. divided P h entries legal (λ item t l. go item (f item t l))))
  where
    go : (item : Item) → IsDone P entries item → IsSettled P entries item ⊎ LeavesNothing (ranks_of_problem P) (generators_of P) entries item
    go item (inl e) = inl (inr (inl e))
    go item (inr (inl s)) = inl (inl s)
    go item (inr (inr z)) = inr z

-- legal entries that settle every ticket, with a right answer, are accepted
pub settled_accepted : (b : Certified) → IsAdmissible b.problem → Legal b.problem b.entries → AllSettled b.problem b.entries → IsRight b.problem b.answer b.corner → IsAcceptedBlock b
settled_accepted b h legal settled r = record {
  legal = legal;
  divided = divided b.problem h b.entries legal settled;
  verdict = verdict_of_right b.problem h b.entries legal settled b.answer b.corner r;
  after = after_of_right b.problem h b.entries legal settled b.answer b.corner r;
}
