-- The condition of each check is decided.
use Rattle.std.proofs.Common.{◌≡◌, ℕ, ◌%◌, ◌<◌, ◌≤◌, List, length, refl, ap, ap₂, inl, inr}
use Rattle.rank_algebra.specs.Ranks.{Ranks}
use Rattle.sparse_poly.specs.Poly.{Term as PolyTerm}
use Rattle.sparse_poly.specs.Ideal.{Problem}
use Rattle.entry_code.specs.declared.item.Item.{Item}
use Rattle.entry_code.specs.declared.item.Item.TheVariants.{Generator, Pair}
use Rattle.entry_code.specs.declared.reading.Reading.{Reading}
use Rattle.entry_code.specs.declared.term.Term.{Term}
use Rattle.entry_code.specs.Entry.{Entry}
use Rattle.rank_algebra.specs.Vector.{Vector, nothing, Agree}
use Rattle.rank_algebra.specs.Division.{Basis}
use Rattle.mora_law.specs.declared.step_end.StepEnd.{StepEnd}
use Rattle.mora_law.specs.declared.step_end.StepEnd.TheVariants.{Zero, Reduced, Stuck}
use Rattle.mora_law.specs.Entries.{leads}
use Rattle.mora_law.specs.Legal.{IsItemOf}
use Rattle.mora_law.specs.Skip.{skip}
use Rattle.mora_law.specs.Settled.{IsSkipped}
use Rattle.text_out.specs.declared.answer.Answer.{Answer}
use Rattle.text_out.specs.declared.answer.Answer.TheVariants.{Fits, TooSmall}
use Rattle.cert_grammar.specs.declared.certified.Certified.{Certified}
use Rattle.cert_check.specs.Accepted.{IsDivided, AreDivided, IsVerdict}
use Rattle.cert_check.specs.Checks.{Check, item, known, corner as corner_check, run, terms, tickets, verdict, count, member, highest, stair, IsKnown, IsCornerOf, IsCounted, IsMember, IsStair, Holds}
use Rattle.cert_check.proofs.TicketParts.{tickets_from, generators_of_tickets, pairs_of_tickets}
use Rattle.cert_check.proofs.Decide.{Decided, decided_by, decided_both, decided_either, decided_not, decided_if, decided_each, decided_lt, decided_le, decided_nat, decided_list, decided_option, decided_is_some}
use Rattle.cert_check.proofs.Monomials.{decided_first, decided_free}

-- ---- values
-- two ends of a step
decided_end : (a b : StepEnd) → Decided (a ≡ b)
decided_end Zero Zero = inl refl
decided_end Zero Reduced = inr (λ e. absurd (cc e))
decided_end Zero Stuck = inr (λ e. absurd (cc e))
decided_end Reduced Zero = inr (λ e. absurd (cc e))
decided_end Reduced Reduced = inl refl
decided_end Reduced Stuck = inr (λ e. absurd (cc e))
decided_end Stuck Zero = inr (λ e. absurd (cc e))
decided_end Stuck Reduced = inr (λ e. absurd (cc e))
decided_end Stuck Stuck = inl refl

-- two terms of an entry
decided_term : (t u : Term) → Decided (t ≡ u)
decided_term t u = decided_by
    (λ e. ap₂ (λ (r c : ℕ). let x : Term = record { rank = r; coef = c } in x) e.0 e.1)
    (λ e. (ap (λ (x : Term). x.rank) e, ap (λ (x : Term). x.coef) e))
    (decided_both (decided_nat t.rank u.rank) (decided_nat t.coef u.coef))

-- two terms of a polynomial
decided_poly_term : (t u : PolyTerm) → Decided (t ≡ u)
decided_poly_term t u = decided_by
    (λ e. ap₂ (λ (m : List ℕ) (c : ℕ). let x : PolyTerm = record { mono = m; coef = c } in x) e.0 e.1)
    (λ e. (ap (λ (x : PolyTerm). x.mono) e, ap (λ (x : PolyTerm). x.coef) e))
    (decided_both (decided_list decided_nat t.mono u.mono) (decided_nat t.coef u.coef))

-- ---- entries
-- whether an item speaks of the generators and the first entries
decided_item : (m i : ℕ) (x : Item) → Decided (IsItemOf m i x)
decided_item m i (Generator g) = decided_lt g m
decided_item m i (Pair a b) = decided_both (decided_lt a b) (decided_lt b i)

-- whether a reading knows what it may
decided_known : (i : ℕ) (ds : List Reading) (j : ℕ) → Decided (IsKnown i ds j)
decided_known i ds j = decided_by
    (λ x. record { risen = x.0; within = x.1.0; all_known = x.1.1 })
    (λ x. (x.risen, (x.within, x.all_known)))
    (decided_both (decided_le _ _) (decided_both (decided_le _ _) (decided_if (decided_nat _ _) (decided_nat _ _))))

-- whether its corner is one that it may have
decided_corner : (R : Ranks) (B : Basis) (i : ℕ) (ds : List Reading) (j : ℕ) → Decided (IsCornerOf R B i ds j)
decided_corner R B i ds j = decided_by
    (λ x. record { fallen = x.0; below = x.1.0; above = x.1.1 })
    (λ x. (x.fallen, (x.below, x.above)))
    (decided_both (decided_le _ _) (decided_both (decided_le _ _) (decided_le _ _)))

-- ---- tickets
-- whether a vector is nothing
decided_nothing : (R : Ranks) (w : ℕ) (v : Vector) → Decided (Agree R w v nothing)
decided_nothing R w v = decided_by
    (λ h. record { at = λ r l. record { eq = h r l } })
    (λ h r l. (h.at r l).eq)
    (decided_each (λ r. v r % R.p ≡ 0 % R.p) (λ r. decided_nat _ _) w)

module _ (P : Problem) (entries : List Entry) where
  -- whether a pair is skipped
  decided_skipped : (x : Item) → Decided (IsSkipped P entries x)
  decided_skipped (Generator g) = inr (λ z. z)
  decided_skipped (Pair i j) = decided_is_some (skip (leads P entries) i j)

  -- whether each ticket is skipped or leaves nothing
  decided_divided : Decided (AreDivided P entries)
  decided_divided = decided_by (λ x. tickets_from (length P.gens) (length entries) (IsDivided P entries) x.0 x.1)
      (λ h. (generators_of_tickets (length P.gens) (length entries) (IsDivided P entries) h, pairs_of_tickets (length P.gens) (length entries) (IsDivided P entries) h)) (decided_both
      (decided_each (λ g. IsDivided P entries (Generator g)) (λ g. one (Generator g)) (length P.gens))
      (decided_each (λ j. (i : ℕ) → i < j → IsDivided P entries (Pair i j)) (λ j. decided_each (λ i. IsDivided P entries (Pair i j)) (λ i. one (Pair i j)) j) (length entries)))
    where
      one : (x : Item) → Decided (IsDivided P entries x)
      one x = decided_either (decided_skipped x) (decided_nothing _ _ _)

  -- ---- the answer
  module _ (some : 1 ≤ P.n) where
    -- whether the verdict is right
    decided_verdict : (a : Answer) → Decided (IsVerdict P entries a)
    decided_verdict (Fits gs s) = decided_le _ _
    decided_verdict (TooSmall m) = decided_both (decided_not (decided_le _ _)) (decided_first P some entries m)

    -- whether the basis has as many members
    decided_count : (a : Answer) → Decided (IsCounted P entries a)
    decided_count (Fits gs s) = decided_nat _ _
    decided_count (TooSmall m) = inl tt

    -- whether member k is the same
    decided_member : (a : Answer) (k : ℕ) → Decided (IsMember P entries a k)
    decided_member (Fits gs s) k = decided_list decided_poly_term _ _
    decided_member (TooSmall m) k = inl tt

    -- whether the staircase is
    decided_stair : (a : Answer) → Decided (IsStair P entries a)
    decided_stair (Fits gs s) = decided_free P some entries s
    decided_stair (TooSmall m) = inl tt

-- the condition of a check is decided
pub decided_check : (b : Certified) → 1 ≤ b.problem.n → (c : Check) → Decided (Holds b c)
decided_check b some (item i) = decided_item _ i _
decided_check b some (known i j) = decided_known i _ j
decided_check b some (corner_check i j) = decided_corner _ _ i _ j
decided_check b some (run i j) = decided_option decided_end _ _
decided_check b some (terms i) = decided_list decided_term _ _
decided_check b some tickets = decided_divided b.problem b.entries
decided_check b some verdict = decided_verdict b.problem b.entries some b.answer
decided_check b some count = decided_count b.problem b.entries some b.answer
decided_check b some (member k) = decided_member b.problem b.entries some b.answer k
decided_check b some highest = decided_option (decided_list decided_nat) _ _
decided_check b some stair = decided_stair b.problem b.entries some b.answer
