-- The answer of an accepted block is right: every ticket is settled, so the leads of the ideal are the multiples of the leads of the
-- entries, and the basis that plain division makes of them is the reduced one.
use Rattle.std.proofs.Common.{◌≡◌, ℕ, zero, suc, ◌-◌, ◌<◌, ◌≤◌, ◌⊎◌, List, [], ◌∷◌, length, map, get_or, slice_get, Contains, Option, Some, None, refl, sym, ◌∙◌, ap, subst, arith, inl, inr}
use Rattle.std.proofs.lemmas.Bool.{cases_lt}
use Rattle.std.proofs.lemmas.Option.{slice_get-get_or}
use Rattle.std.proofs.lemmas.List.{get_or_default}
use Rattle.local_order.specs.Mono.{degree}
use Rattle.local_order.specs.Order.{IsAbove}
use Rattle.sparse_poly.specs.Shape.{shape_of}
use Rattle.mono_rank.specs.Rank.{HasRank, rank_of}
use Rattle.mono_rank.specs.Laws.{IsNumbering}
use Rattle.mono_rank.specs.Cover.{IsMultipleOfRanks, Covers, IsCorner}
use Rattle.sparse_poly.specs.Ideal.{Problem, IsFalling, IsLeadOfIdeal, IsFirstMissing, IsReducedBasis, IsStaircase}
use Rattle.entry_code.specs.Entry.{Entry}
use Rattle.mora_law.specs.Ring.{numbering_of, ranks_of_problem, generators_of, IsAdmissible}
use Rattle.mora_law.proofs.Ring.{numbering_is, count_is, rank_is, has_rank}
use Rattle.mora_law.specs.Entries.{lead_rank, corner}
use Rattle.mora_law.specs.Legal.{Legal}
use Rattle.mora_law.specs.Settled.{IsSkipped, LeavesNothing, IsSettled, AllSettled}
use Rattle.mora_law.proofs.Problems.{monic, criterion, basis_is_reduced}
use Rattle.mora_law.proofs.Corners.{corner_is_of_leads, lead_is_multiple, fits_by_corner}
use Rattle.text_out.specs.declared.answer.Answer.{Answer}
use Rattle.text_out.specs.declared.answer.Answer.TheVariants.{Fits, TooSmall}
use Rattle.cert_grammar.specs.declared.certified.Certified.{Certified}
use Rattle.cert_check.specs.Accepted.{AreDivided, IsFirstFree, IsVerdict, IsFreeList, before, highest_corner, IsAfterFits, IsAcceptedBlock}
use Rattle.cert_check.specs.Right.{IsRight}

-- tickets that are skipped, or whose starts leave nothing, are settled as the criterion asks
pub all_settled : (P : Problem) (entries : List Entry) → AreDivided P entries → AllSettled P entries
all_settled P entries d item t l = go (d item t l)
  where
    go : IsSkipped P entries item ⊎ LeavesNothing (ranks_of_problem P) (generators_of P) entries item → IsSettled P entries item ⊎ LeavesNothing (ranks_of_problem P) (generators_of P) entries item
    go (inl s) = inl (inl s)
    go (inr z) = inr z

-- in a falling list each member is above the next
next_above : (P : Problem) (s : List (List ℕ)) (k : ℕ) (c : List ℕ) → IsFalling P s → suc k < length s → IsAbove (get_or s k c) (get_or s (suc k) c)
next_above P [] k c f l = absurd (omega (arith, l))
next_above P (a ∷ []) k c f l = absurd (omega (arith, l))
next_above P (a ∷ b ∷ s) zero c f l = f.0
next_above P (a ∷ b ∷ s) (suc k) c f l = next_above P (b ∷ s) k c f.1 (omega (arith, l))

module _ (P : Problem) (h : IsAdmissible P) (entries : List Entry) (legal : Legal P entries) (divided : AreDivided P entries) where
  -- every ticket is settled
  settled : AllSettled P entries
  settled = all_settled P entries divided

  -- the corner of the leads
  corner_leads : IsCorner (shape_of P) (map (λ e. lead_rank e.terms) entries) (corner P entries)
  corner_leads = corner_is_of_leads P h entries (monic P h entries legal)

  -- the numbering goes by the order
  W : IsNumbering P.n P.d IsAbove (numbering_of P)
  W = numbering_is P h.some

  -- a monomial of a rank from the corner on is a lead
  lead_from_corner : (m : List ℕ) → length m ≡ P.n → degree m ≤ P.d → corner P entries ≤ (numbering_of P).rank m → IsLeadOfIdeal P m
  lead_from_corner m e low l = (lead_is_multiple P h entries legal settled m _ k).1 (corner_leads.covers m _ (omega (arith, l, rank_is P m)) k)
    where
      k : HasRank (shape_of P) m (rank_of (shape_of P) m)
      k = record { in_ring = e; low = low; rank = refl }

  -- the monomial of the rank before the corner isn't
  none_before_corner : (w : ℕ) → corner P entries ≡ suc w → w < (numbering_of P).count → IsLeadOfIdeal P ((numbering_of P).mono w) → ⊥
  none_before_corner w e l lead = absurd (omega (arith, e, corner_leads.least w cover))
    where
      cover : Covers (shape_of P) (map (λ e. lead_rank e.terms) entries) w
      cover m r wr k = go (cases_lt w r)
        where
          ranked : (numbering_of P).rank m ≡ r
          ranked = rank_is P m ∙ k.rank

          go : (w < r) ⊎ (r ≤ w) → IsMultipleOfRanks (shape_of P) (map (λ e. lead_rank e.terms) entries) m
          go (inl n) = corner_leads.covers m r (omega (arith, e, n)) k
          go (inr n) =
              let z : w ≡ (numbering_of P).rank m = omega (arith, n, wr, ranked) in
              let same : (numbering_of P).mono w ≡ m = ap (numbering_of P).mono z ∙ W.there m k.in_ring k.low in
              (lead_is_multiple P h entries legal settled m r k).0 (subst (IsLeadOfIdeal P) same lead)

  -- the highest corner is the last monomial of the staircase
  pub corner_is_last : (s : List (List ℕ)) → IsStaircase P s → highest_corner P entries ≡ slice_get s (length s - 1)
  corner_is_last s stair = go (corner P entries) refl
    where
      empty : corner P entries ≡ 0 → (t : List (List ℕ)) → IsStaircase P t → None ≡ slice_get t (length t - 1)
      empty e [] x = refl
      empty e (a ∷ t) x =
          let c : Contains (a ∷ t) a = (0, omega arith, refl) in
          let o = x.only a c in
          absurd ((x.exactly a o.0 o.1).0 c (lead_from_corner a o.0 o.1 (omega (arith, e))))

      last : (w : ℕ) → corner P entries ≡ suc w → Some ((numbering_of P).mono w) ≡ slice_get s (length s - 1)
      last w e = at (cases_lt (suc place) (length s))
        where
          m : List ℕ
          m = (numbering_of P).mono w

          small : w < (numbering_of P).count
          small = omega (arith, e, corner_leads.low, count_is P)

          k : HasRank (shape_of P) ((numbering_of P).mono w) w
          k = has_rank P w h.some small

          there : Contains s ((numbering_of P).mono w)
          there = (stair.exactly ((numbering_of P).mono w) k.in_ring k.low).1 (none_before_corner w e small)

          place : ℕ
          place = there.0

          at : (suc place < length s) ⊎ (length s ≤ suc place) → Some ((numbering_of P).mono w) ≡ slice_get s (length s - 1)
          at (inl l) =
              let next = get_or s (suc there.0) ((numbering_of P).mono w) in
              let c : Contains s next = (suc there.0, l, get_or_default s (suc there.0) _ _ l) in
              let o = stair.only next c in
              let above : IsAbove ((numbering_of P).mono w) next = subst (λ x. IsAbove x next) there.2 (next_above P s there.0 ((numbering_of P).mono w) stair.falling l) in
              let later = W.falls ((numbering_of P).mono w) next k.in_ring k.low o.0 o.1 above in
              absurd ((stair.exactly next o.0 o.1).0 c (lead_from_corner next o.0 o.1 (omega (arith, later, e, W.back w small))))
          at (inr l) =
              let z : there.0 ≡ length s - 1 = omega (arith, l, there.1) in
              ap Some (sym there.2) ∙ sym (slice_get-get_or s there.0 ((numbering_of P).mono w) there.1) ∙ ap (slice_get s) z

      go : (w : ℕ) → corner P entries ≡ w → before P w ≡ slice_get s (length s - 1)
      go zero e = empty e s stair
      go (suc w) e = last w e

  -- a list of the monomials that are multiples of no lead is the staircase
  free_is_stair : (s : List (List ℕ)) → IsFreeList P entries s → IsStaircase P s
  free_is_stair s f = record {
    falling = f.falling;
    exactly = λ m e low. let c = criterion P h entries legal settled m e low in
        ((λ i lead. (f.exactly m e low).0 i (c.0 lead)), (λ n. (f.exactly m e low).1 (λ by. n (c.1 by))));
    only = f.only;
  }

  -- the greatest monomial of degree d that is a multiple of no lead is the first that is missing
  free_is_missing : (m : List ℕ) → IsFirstFree P entries m → IsFirstMissing P m
  free_is_missing m f = record {
    in_ring = f.in_ring;
    top = f.top;
    missing = λ lead. f.free ((criterion P h entries legal settled m f.in_ring (omega (arith, f.top))).0 lead);
    first = λ k e top above. (criterion P h entries legal settled k e (omega (arith, top))).1 (f.first k e top above);
  }

  -- so the answer is right
  answer_is_right : (a : Answer) (highest : Option (List ℕ)) → IsVerdict P entries a → IsAfterFits P entries a highest → IsRight P a highest
  answer_is_right (Fits gs s) highest v x = (
    (fits_by_corner P h entries legal settled).1 v,
    subst (IsReducedBasis P) (sym x.0) (basis_is_reduced P h entries legal settled),
    free_is_stair s x.2,
    x.1 ∙ corner_is_last s (free_is_stair s x.2),
  )
  answer_is_right (TooSmall m) highest v x = ((λ f. v.0 ((fits_by_corner P h entries legal settled).0 f)), free_is_missing m v.1)

-- the answer of an accepted block is right
pub right : (b : Certified) → IsAdmissible b.problem → IsAcceptedBlock b → IsRight b.problem b.answer b.corner
right b h a = answer_is_right b.problem h b.entries a.legal a.divided b.answer b.corner a.verdict a.after
