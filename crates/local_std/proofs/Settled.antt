-- Legal entries that settle every ticket answer for the ideal: their leads show those of the ideal, so their staircase is the
-- ideal's, and tells whether the degree fits. What tables and staircases show is brought to the problem's own numbers.
use Rattle.std.proofs.Common.{◌≡◌, ℕ, ◌<◌, List, map, refl, sym, ◌∙◌, ap, subst}
use Rattle.std.specs.List.{Contains}
use Rattle.local_order.specs.Mono.{degree}
use Rattle.local_order.specs.Shape.{Shape}
use Rattle.sparse_poly.specs.Shape.{shape_of}
use Rattle.mono_rank.specs.Rank.{HasRank, rank_of, mono_of_rank}
use Rattle.mono_rank.proofs.ByRank.{mono_of_rank-is}
use Rattle.sparse_poly.specs.Ideal.{Problem, IsProblem, IsStaircase, Fits, IsFirstMissing}
use Rattle.entry_code.specs.Entry.{Entry}
use Rattle.mora_law.specs.Legal.{Legal}
use Rattle.mora_law.specs.Settled.{AllSettled}
use Rattle.mora_law.proofs.Ring.{problem_is_admissible}
use Rattle.mora_law.proofs.Corners.{lead_is_multiple}
use Rattle.staircase.specs.Stair.{Stairs, IsStairOf, IsLeastOfDegree, ShowLeads}
use Rattle.staircase.proofs.Shown.{stair_is, fits_by_ranks, missing_is}
use Rattle.tail_reduce.specs.Divisors.{leads_of}

-- what a table and a staircase show of the leads of entries
pub record Showing (P : Problem) (entries : List Entry) (table : Shape) (leads : List ℕ) (s : Stairs) : Type 0 where
  pub table_is : table ≡ shape_of P
  pub leads_are : leads ≡ leads_of entries
  pub shape : s.shape ≡ table
  pub stair : IsStairOf table leads s.ranks

module _ (P : Problem) (problem : IsProblem P) (entries : List Entry) (legal : Legal P entries) (settled : AllSettled P entries) where
  -- the leads of the entries show those of the ideal
  pub shows : ShowLeads P (leads_of entries)
  shows m e low = lead_is_multiple P (problem_is_admissible P problem) entries legal settled m (rank_of (shape_of P) m) (record { in_ring = e; low = low; rank = refl })

  module _ (table : Shape) (leads : List ℕ) (s : Stairs) (h : Showing P entries table leads s) where
    -- the staircase is among the problem's monomials
    shape_is : s.shape ≡ shape_of P
    shape_is = h.shape ∙ h.table_is

    -- it is that of the leads of the entries
    stair : IsStairOf (shape_of P) (leads_of entries) s.ranks
    stair = subst (λ l. IsStairOf (shape_of P) l s.ranks) h.leads_are (subst (λ (t : Shape). IsStairOf t leads s.ranks) h.table_is h.stair)

    -- what is said of the ranks of its degree is said of those of the problem's
    moved : (Q : Shape → Type 0) → Q s.shape → Q (shape_of P)
    moved Q q = subst Q shape_is q

    -- the least rank of the greatest degree is that of the first missing monomial
    pub missing : (r : ℕ) (m : List ℕ) → IsLeastOfDegree s.shape s.shape.degree s.ranks r → HasRank table m r → IsFirstMissing P m
    missing r m least has =
        subst (IsFirstMissing P) (mono_of_rank-is (shape_of P) m r (subst (λ (t : Shape). HasRank t m r) h.table_is has))
        (missing_is P (leads_of entries) s.ranks problem.some shows stair r (moved (λ T. IsLeastOfDegree T T.degree s.ranks r) least))

    -- where the monomials of all ranks have a lesser degree, the degree fits
    pub fits : ((r : ℕ) → Contains s.ranks r → degree (mono_of_rank s.shape r) < s.shape.degree) → Fits P
    fits none = (fits_by_ranks P (leads_of entries) s.ranks problem.some shows stair).0 (moved (λ T. (r : ℕ) → Contains s.ranks r → degree (mono_of_rank T r) < T.degree) none)

    -- the monomials of the ranks are the staircase of the ideal
    pub staircase : (monos : List (List ℕ)) → monos ≡ map (mono_of_rank table) s.ranks → IsStaircase P monos
    staircase monos e = subst (IsStaircase P) (sym (e ∙ ap (λ (t : Shape). map (mono_of_rank t) s.ranks) h.table_is))
        (stair_is P (leads_of entries) s.ranks problem.some shows stair)
