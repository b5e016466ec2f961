-- The partial derivatives of x^5 + x^2*y^2 + y^5: four entries are legal, a pair of them is skipped by the chain criterion, one by
-- the product criterion, and one is beyond the degree. The degree fits, and the entries are the reduced basis.
use Rattle.std.proofs.Common.{◌≡◌, ℕ, zero, suc, ◌<◌, ◌≤◌, ◌⊎◌, [], ◌∷◌, All, refl, subst, sym, arith, inl, inr, lit<, lit≤}
use Rattle.prime_field.proofs.Primality.{IsPrime-table}
use Rattle.sparse_poly.specs.Poly.{IsIn}
use Rattle.sparse_poly.specs.Ideal.{Fits, IsReducedBasis}
use Rattle.entry_code.specs.declared.item.Item.TheVariants.{Generator, Pair}
use Rattle.entry_code.specs.Entry.{entry_at}
use Rattle.mora_law.specs.Ring.{ranks_of_problem, IsAdmissible, generators_of}
use Rattle.mora_law.specs.Entries.{basis_of, corner, leads}
use Rattle.mora_law.specs.Legal.{IsLegalEntry, Legal}
use Rattle.mora_law.specs.Settled.{IsSettled, LeavesNothing, AllSettled}
use Rattle.mora_law.specs.Basis.{basis}
use Rattle.mora_law.specs.Examples.{reading, curve_problem, curve_entries, curve_leads, curve_basis}
use Rattle.mora_law.proofs.Computes.{computes}
use Rattle.mora_law.proofs.Tickets.{item_below}
use Rattle.mora_law.proofs.Problems.{basis_is_reduced}
use Rattle.mora_law.proofs.Corners.{fits_by_corner}

-- that an entry of the curve is legal
abbrev IsLegalAt : ℕ → Type 0
IsLegalAt i = IsLegalEntry (ranks_of_problem curve_problem) (generators_of curve_problem) (basis_of curve_entries) i (entry_at curve_entries i)

-- entry 0 is legal
legal0 : IsLegalAt 0
unfolding computes
legal0 = record {
  item = lit< tt;
  ends = record { some = lit< tt; before = λ j l m. absurd (omega (arith, l, m)); last_end = refl };
  orderly = (lit≤ tt, lit≤ tt, lit≤ tt);
  knows = refl;
  corners = (lit≤ tt, lit≤ tt, tt);
  terms = refl;
}

-- so is entry 1
legal1 : IsLegalAt 1
unfolding computes
legal1 = record {
  item = lit< tt;
  ends = record { some = lit< tt; before = λ j l m. absurd (omega (arith, l, m)); last_end = refl };
  orderly = (lit≤ tt, lit≤ tt, lit≤ tt);
  knows = refl;
  corners = (lit≤ tt, lit≤ tt, tt);
  terms = refl;
}

-- so is entry 2
legal2 : IsLegalAt 2
unfolding computes
legal2 = record {
  item = (lit< tt, lit< tt);
  ends = record { some = lit< tt; before = λ j l m. absurd (omega (arith, l, m)); last_end = refl };
  orderly = (lit≤ tt, lit≤ tt, lit≤ tt);
  knows = refl;
  corners = (lit≤ tt, lit≤ tt, tt);
  terms = refl;
}

-- so is entry 3
legal3 : IsLegalAt 3
unfolding computes
legal3 = record {
  item = (lit< tt, lit< tt);
  ends = record { some = lit< tt; before = λ j l m. absurd (omega (arith, l, m)); last_end = refl };
  orderly = (lit≤ tt, lit≤ tt, lit≤ tt);
  knows = refl;
  corners = (lit≤ tt, lit≤ tt, tt);
  terms = refl;
}

-- the entries are legal
pub curve_legal : Legal curve_problem curve_entries
curve_legal zero l = legal0
curve_legal (suc zero) l = legal1
curve_legal (suc (suc zero)) l = legal2
curve_legal (suc (suc (suc zero))) l = legal3
curve_legal (suc (suc (suc (suc i)))) l = absurd (omega (arith, l))

-- every ticket is settled: the generators and two pairs by entries, two pairs by the criteria, and those that are beyond the degree
-- by a run that ends at once
pub curve_settled : AllSettled curve_problem curve_entries
unfolding computes
curve_settled (Generator zero) t l = inl (inr (inl (record { place = 0; within = lit< tt; is = refl })))
curve_settled (Generator (suc zero)) t l = inl (inr (inl (record { place = 1; within = lit< tt; is = refl })))
curve_settled (Generator (suc (suc g))) t l = absurd (omega (arith, t))
curve_settled (Pair i j) t l = go i j (item_below 2 4 (Pair i j) t l).0 (item_below 2 4 (Pair i j) t l).1
  where
    go : (i j : ℕ) → i < j → j < 4 → IsSettled curve_problem curve_entries (Pair i j) ⊎ LeavesNothing (ranks_of_problem curve_problem) (generators_of curve_problem) curve_entries (Pair i j)
    go i zero l m = absurd (omega (arith, l))
    go zero (suc zero) l m = inl (inr (inl (record { place = 2; within = lit< tt; is = refl })))
    go (suc i) (suc zero) l m = absurd (omega (arith, l))
    go zero (suc (suc zero)) l m = inl (inr (inr (record { reads = reading 4 21 ∷ []; last_end = refl; orderly = (lit≤ tt, lit≤ tt, lit≤ tt); corners = (lit≤ tt, lit≤ tt, tt) })))
    go (suc zero) (suc (suc zero)) l m = inl (inr (inl (record { place = 3; within = lit< tt; is = refl })))
    go (suc (suc i)) (suc (suc zero)) l m = absurd (omega (arith, l))
    go zero (suc (suc (suc zero))) l m = inl (inr (inr (record { reads = reading 4 21 ∷ []; last_end = refl; orderly = (lit≤ tt, lit≤ tt, lit≤ tt); corners = (lit≤ tt, lit≤ tt, tt) })))
    go (suc zero) (suc (suc (suc zero))) l m = inl (inl refl)
    go (suc (suc zero)) (suc (suc (suc zero))) l m = inl (inl refl)
    go (suc (suc (suc i))) (suc (suc (suc zero))) l m = absurd (omega (arith, l))
    go i (suc (suc (suc (suc j)))) l m = absurd (omega (arith, m))

-- the problem has a prime and generators in two variables
admissible : IsAdmissible curve_problem
admissible = record { prime = IsPrime-table 32003 (7, lit< tt, refl); some = lit≤ tt; in_ring = in_ring }
  where
    in_ring : All (IsIn 2) curve_problem.gens
    in_ring zero l d = (refl, (refl, tt))
    in_ring (suc zero) l d = (refl, (refl, tt))
    in_ring (suc (suc k)) l d = absurd (omega arith)

-- the leads as monomials
pub leads_are : leads curve_problem curve_entries ≡ curve_leads
unfolding computes
leads_are = refl

-- the corner is the first rank of degree 6
pub curve_corner : corner curve_problem curve_entries ≡ 21
unfolding computes
curve_corner = refl

-- so the degree fits
pub curve_fits : Fits curve_problem
curve_fits = (fits_by_corner curve_problem admissible curve_entries curve_legal curve_settled).1 (subst (λ w. w ≤ 21) (sym curve_corner) (lit≤ tt))

-- the basis of the entries has their polynomials in falling order
pub curve_computed : basis curve_problem curve_entries ≡ curve_basis
unfolding computes
curve_computed = refl

-- so they are the reduced standard basis
pub curve_reduced : IsReducedBasis curve_problem curve_basis
curve_reduced = subst (IsReducedBasis curve_problem) curve_computed (basis_is_reduced curve_problem admissible curve_entries curve_legal curve_settled)
