-- Rows as vectors over the ring by rank: leads.
-- The ring stays folded: what it consists of is told once, field by field, and everything else follows by its laws.
use Rattle.std.proofs.Common.{◌≡◌, ℕ, ◌<◌, ◌≤◌, List, get_or, Option, Some, None, refl, sym, ◌∙◌, subst, arith}
use Rattle.std.proofs.Math.Nat
use Rattle.prime_field.specs.Prime.{InTable}
use Rattle.local_order.specs.Shape.{Shape, count}
use Rattle.rank_algebra.specs.Ranks.{Ranks, IsRanks}
use Rattle.rank_algebra.specs.Rows.{IsRow, IsZeroRow, BeginsAt, vector_of_row}
use Rattle.trunc_row.proofs.Residues.{row_small}
use Rattle.trunc_row.proofs.Vectors.{IsRing}
use Rattle.rank_algebra.specs.Vector.{Same, nothing}
use Rattle.mora_law.specs.Ring.{ring}
use Rattle.rank_algebra.specs.Ideal.{IsLead}
use Rattle.rank_algebra.proofs.Residues.{same_of}
use Rattle.rank_algebra.proofs.Linear.{agree_of}
use Rattle.mora_law.proofs.Ring.{ring_p, ring_count, ring_quotient, ring_laws}
use Rattle.mora_law.specs.Lead.{lead}
use Rattle.mora_law.proofs.Choice.{lead_some, lead_is}

-- the ranks of the ring are those of the monomials
pub ring_is : (p : ℕ) (T : Shape) → IsRing p T (ring p T)
ring_is p T = record { field = ring_p p T; all = ring_count p T; quotient = ring_quotient p T }

-- ---- residues
-- numbers below p that are one residue are equal
pub residue_same : (p a b : ℕ) → a < p → b < p → Same p a b → a ≡ b
residue_same p a b l m h = sym (Nat.mod-eq_of_lt l) ∙ h.eq ∙ Nat.mod-eq_of_lt m

-- ---- leads
module _ (p : ℕ) (T : Shape) (t : InTable p) (some : 1 ≤ T.variables) where
  -- the ring
  abbrev R : Ranks
  R = ring p T

  -- the number of monomials
  abbrev N : ℕ
  N = count T

  -- its laws
  L : IsRanks (ring p T)
  L = ring_laws p T t some

  -- a residue of a row that is 0 modulo p is 0
  none_zero : (r : List ℕ) (k : ℕ) → IsRow p (count T) r → k < count T → Same (ring p T).p (get_or r k 0) 0 → get_or r k 0 ≡ 0
  none_zero r k w l h =
      let small : get_or r k 0 < p = row_small p (count T) r k w l in
      residue_same p (get_or r k 0) 0 small (omega (arith, small)) (subst (λ q. Same q (get_or r k 0) 0) (ring_p p T) h)

  -- where a row begins its vector has its lead
  pub begins_lead : (r : List ℕ) (k : ℕ) → IsRow p (count T) r → BeginsAt r k → IsLead (ring p T) (vector_of_row r) k
  begins_lead r k w b =
      let l : k < count T = omega (arith, b.within, w.full) in
      record {
        small = omega (arith, l, ring_count p T);
        low = agree_of (ring p T) k (vector_of_row r) nothing b.before;
        some = λ h. b.some (none_zero r k w l h);
      }

  -- the lead of the vector is the rank where the row begins
  pub lead_of_row : (r : List ℕ) (k : ℕ) → IsRow p (count T) r → BeginsAt r k → lead (ring p T) (vector_of_row r) ≡ Some k
  lead_of_row r k w b = lead_is (ring p T) (vector_of_row r) k (begins_lead r k w b)

  -- the vector of a row of zeros has no lead
  pub lead_of_zero : (r : List ℕ) → IsZeroRow r → lead (ring p T) (vector_of_row r) ≡ None
  lead_of_zero r z = go (lead (ring p T) (vector_of_row r)) refl
    where
      go : (o : Option ℕ) → lead (ring p T) (vector_of_row r) ≡ o → lead (ring p T) (vector_of_row r) ≡ None
      go None e = e
      go (Some k) e = absurd ((lead_some (ring p T) (vector_of_row r) k e).some (same_of (ring p T).p (get_or r k 0) 0 (z k)))
