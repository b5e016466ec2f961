-- Worked examples with two and three entries: they are legal, their tickets are settled, and what is computed of them follows.
-- In the first an intermediate is used, in the second a reading has a lowered corner, and in the third the degree doesn't fit.
use Rattle.std.proofs.Common.{◌≡◌, ℕ, zero, suc, ◌+◌, ◌%◌, ◌<◌, ◌≤◌, ◌↔◌, List, [], ◌∷◌, length, take, get_or, Some, All, Contains, refl, sym, ◌∙◌, ap, subst, arith, inl, inr, lit<, lit≤}
use Rattle.prime_field.proofs.Primality.{IsPrime-table}
use Rattle.local_order.specs.Mono.{degree, mono_times, Divides}
use Rattle.local_order.specs.Order.{IsAbove}
use Rattle.sparse_poly.specs.Poly.{IsIn}
use Rattle.sparse_poly.specs.Ideal.{IsLeadOfIdeal, IsFirstMissing, IsReducedBasis}
use Rattle.sparse_poly.proofs.Closure.{IsInIdeal-generator}
use Rattle.entry_code.specs.declared.item.Item.TheVariants.{Generator, Pair}
use Rattle.entry_code.specs.Entry.{entry_at}
use Rattle.mora_law.specs.Ring.{numbering_of, ranks_of_problem, IsAdmissible, vector_of, generators_of}
use Rattle.mora_law.specs.declared.step_end.StepEnd.TheVariants.{Reduced}
use Rattle.mora_law.specs.Entries.{basis_of, corner, leads}
use Rattle.mora_law.specs.Start.{run}
use Rattle.mora_law.specs.Legal.{IsLegalEntry, Legal}
use Rattle.mora_law.specs.Settled.{AllSettled}
use Rattle.mora_law.specs.Basis.{remainder_by, basis}
use Rattle.mora_law.specs.Examples.{written, kept_problem, kept_entries, kept_basis, racing_problem, racing_entries, cubes_problem, cubes_first, cubes_entries}
use Rattle.mora_law.proofs.Computes.{computes}
use Rattle.mora_law.proofs.Tickets.{item_below}
use Rattle.mora_law.proofs.Problems.{criterion, nothing_left, basis_is_reduced}

-- ---- an intermediate is used
-- the run of entry 0 is legal
kept0 : IsLegalEntry (ranks_of_problem kept_problem) (generators_of kept_problem) (basis_of kept_entries) 0 (entry_at kept_entries 0)
unfolding computes
kept0 = record {
  item = lit< tt;
  ends = record { some = lit< tt; before = λ j l m. absurd (omega (arith, l, m)); last_end = refl };
  orderly = (lit≤ tt, lit≤ tt, lit≤ tt);
  knows = refl;
  corners = (lit≤ tt, lit≤ tt, tt);
  terms = refl;
}

-- so is that of entry 1
kept1 : IsLegalEntry (ranks_of_problem kept_problem) (generators_of kept_problem) (basis_of kept_entries) 1 (entry_at kept_entries 1)
unfolding computes
kept1 = record {
  item = lit< tt;
  ends = record { some = lit< tt; before = before; last_end = refl };
  orderly = (lit≤ tt, lit≤ tt, (lit≤ tt, lit≤ tt, (lit≤ tt, lit≤ tt, lit≤ tt)));
  knows = refl;
  corners = (lit≤ tt, lit≤ tt, (lit≤ tt, lit≤ tt, (lit≤ tt, lit≤ tt, tt)));
  terms = refl;
}
  where
    before : (j : ℕ) → 0 < j → j < 3 → (run kept_problem kept_entries (Generator 1) (take j (entry_at kept_entries 1).reads)).end ≡ Some Reduced
    before zero l m = absurd (omega (arith, l))
    before (suc zero) l m = refl
    before (suc (suc zero)) l m = refl
    before (suc (suc (suc j))) l m = absurd (omega (arith, m))

-- the entries are legal
pub intermediate_legal : Legal kept_problem kept_entries
intermediate_legal zero l = kept0
intermediate_legal (suc zero) l = kept1
intermediate_legal (suc (suc i)) l = absurd (omega (arith, l))

-- their leads are coprime, so the pair is skipped
pub intermediate_settled : AllSettled kept_problem kept_entries
unfolding computes
intermediate_settled (Generator zero) t l = inl (inr (inl (record { place = 0; within = lit< tt; is = refl })))
intermediate_settled (Generator (suc zero)) t l = inl (inr (inl (record { place = 1; within = lit< tt; is = refl })))
intermediate_settled (Generator (suc (suc g))) t l = absurd (omega (arith, t))
intermediate_settled (Pair zero zero) t l = absurd (omega (arith, t))
intermediate_settled (Pair zero (suc zero)) t l = inl (inl refl)
intermediate_settled (Pair zero (suc (suc j))) t l = absurd (omega (arith, (item_below 2 2 (Pair 0 (suc (suc j))) t l).1))
intermediate_settled (Pair (suc i) j) t l = absurd (omega (arith, t, (item_below 2 2 (Pair (suc i) j) t l).1))

-- the problem has a prime and generators in two variables
kept_admissible : IsAdmissible kept_problem
kept_admissible = record { prime = IsPrime-table 32003 (7, lit< tt, refl); some = lit≤ tt; in_ring = in_ring }
  where
    in_ring : All (IsIn 2) kept_problem.gens
    in_ring zero l d = (refl, (refl, (refl, tt)))
    in_ring (suc zero) l d = (refl, tt)
    in_ring (suc (suc k)) l d = absurd (omega arith)

-- the basis of the entries
pub intermediate_basis : basis kept_problem kept_entries ≡ kept_basis
unfolding computes
intermediate_basis = refl

-- so x and y^3 are the reduced standard basis
pub intermediate_reduced : IsReducedBasis kept_problem kept_basis
intermediate_reduced = subst (IsReducedBasis kept_problem) intermediate_basis (basis_is_reduced kept_problem kept_admissible kept_entries intermediate_legal intermediate_settled)

-- ---- a corner that another worker lowered
-- entry 0 is legal
racing0 : IsLegalEntry (ranks_of_problem racing_problem) (generators_of racing_problem) (basis_of racing_entries) 0 (entry_at racing_entries 0)
unfolding computes
racing0 = record {
  item = lit< tt;
  ends = record { some = lit< tt; before = λ j l m. absurd (omega (arith, l, m)); last_end = refl };
  orderly = (lit≤ tt, lit≤ tt, lit≤ tt);
  knows = refl;
  corners = (lit≤ tt, lit≤ tt, tt);
  terms = refl;
}

-- so is entry 1
racing1 : IsLegalEntry (ranks_of_problem racing_problem) (generators_of racing_problem) (basis_of racing_entries) 1 (entry_at racing_entries 1)
unfolding computes
racing1 = record {
  item = lit< tt;
  ends = record { some = lit< tt; before = λ j l m. absurd (omega (arith, l, m)); last_end = refl };
  orderly = (lit≤ tt, lit≤ tt, lit≤ tt);
  knows = refl;
  corners = (lit≤ tt, lit≤ tt, tt);
  terms = refl;
}

-- so is entry 2
racing2 : IsLegalEntry (ranks_of_problem racing_problem) (generators_of racing_problem) (basis_of racing_entries) 2 (entry_at racing_entries 2)
unfolding computes
racing2 = record {
  item = lit< tt;
  ends = record { some = lit< tt; before = before; last_end = refl };
  orderly = (lit≤ tt, lit≤ tt, (lit≤ tt, lit≤ tt, lit≤ tt));
  knows = refl;
  corners = (lit≤ tt, lit≤ tt, (lit≤ tt, lit≤ tt, tt));
  terms = refl;
}
  where
    before : (j : ℕ) → 0 < j → j < 2 → (run racing_problem racing_entries (Generator 2) (take j (entry_at racing_entries 2).reads)).end ≡ Some Reduced
    before zero l m = absurd (omega (arith, l))
    before (suc zero) l m = refl
    before (suc (suc j)) l m = absurd (omega (arith, m))

-- the entries are legal
pub racing_legal : Legal racing_problem racing_entries
racing_legal zero l = racing0
racing_legal (suc zero) l = racing1
racing_legal (suc (suc zero)) l = racing2
racing_legal (suc (suc (suc i))) l = absurd (omega (arith, l))

-- entry 0 alone justifies no lower corner than 15
pub racing_corner_alone : corner racing_problem (take 1 racing_entries) ≡ 15
unfolding computes
racing_corner_alone = refl

-- the first two entries justify 5
pub racing_corner_together : corner racing_problem (take 2 racing_entries) ≡ 5
unfolding computes
racing_corner_together = refl

-- ---- a degree that doesn't fit
-- entry 0 is legal, also where it stands alone
cubes0 : IsLegalEntry (ranks_of_problem cubes_problem) (generators_of cubes_problem) (basis_of cubes_entries) 0 (entry_at cubes_entries 0)
unfolding computes
cubes0 = record {
  item = lit< tt;
  ends = record { some = lit< tt; before = λ j l m. absurd (omega (arith, l, m)); last_end = refl };
  orderly = (lit≤ tt, lit≤ tt, lit≤ tt);
  knows = refl;
  corners = (lit≤ tt, lit≤ tt, tt);
  terms = refl;
}

-- so is entry 1
cubes1 : IsLegalEntry (ranks_of_problem cubes_problem) (generators_of cubes_problem) (basis_of cubes_entries) 1 (entry_at cubes_entries 1)
unfolding computes
cubes1 = record {
  item = lit< tt;
  ends = record { some = lit< tt; before = λ j l m. absurd (omega (arith, l, m)); last_end = refl };
  orderly = (lit≤ tt, lit≤ tt, lit≤ tt);
  knows = refl;
  corners = (lit≤ tt, lit≤ tt, tt);
  terms = refl;
}

-- the entries are legal
pub cubes_legal : Legal cubes_problem cubes_entries
cubes_legal zero l = cubes0
cubes_legal (suc zero) l = cubes1
cubes_legal (suc (suc i)) l = absurd (omega (arith, l))

-- their leads are coprime, so the pair is skipped
pub cubes_settled : AllSettled cubes_problem cubes_entries
unfolding computes
cubes_settled (Generator zero) t l = inl (inr (inl (record { place = 0; within = lit< tt; is = refl })))
cubes_settled (Generator (suc zero)) t l = inl (inr (inl (record { place = 1; within = lit< tt; is = refl })))
cubes_settled (Generator (suc (suc g))) t l = absurd (omega (arith, t))
cubes_settled (Pair zero zero) t l = absurd (omega (arith, t))
cubes_settled (Pair zero (suc zero)) t l = inl (inl refl)
cubes_settled (Pair zero (suc (suc j))) t l = absurd (omega (arith, (item_below 2 2 (Pair 0 (suc (suc j))) t l).1))
cubes_settled (Pair (suc i) j) t l = absurd (omega (arith, t, (item_below 2 2 (Pair (suc i) j) t l).1))

-- the problem has a prime and generators in two variables
cubes_admissible : IsAdmissible cubes_problem
cubes_admissible = record { prime = IsPrime-table 32003 (7, lit< tt, refl); some = lit≤ tt; in_ring = in_ring }
  where
    in_ring : All (IsIn 2) cubes_problem.gens
    in_ring zero l d = (refl, tt)
    in_ring (suc zero) l d = (refl, tt)
    in_ring (suc (suc k)) l d = absurd (omega arith)

-- the corner is y^3, behind the first rank of degree 3
pub cubes_corner : corner cubes_problem cubes_entries ≡ 9
unfolding computes
cubes_corner = refl

-- their leads are x^3 and y^3
cubes_leads : leads cubes_problem cubes_entries ≡ (3 ∷ 0 ∷ []) ∷ (0 ∷ 3 ∷ []) ∷ []
unfolding computes
cubes_leads = refl

-- the leads of the ideal are the multiples of these
cubes_criterion : (m : List ℕ) → length m ≡ 2 → degree m ≤ 3 → IsLeadOfIdeal cubes_problem m ↔ ((l : List ℕ) × Contains ((3 ∷ 0 ∷ []) ∷ (0 ∷ 3 ∷ []) ∷ []) l × Divides l m)
cubes_criterion m = subst (λ ls. length m ≡ 2 → degree m ≤ 3 → IsLeadOfIdeal cubes_problem m ↔ ((l : List ℕ) × Contains ls l × Divides l m)) cubes_leads
    (criterion cubes_problem cubes_admissible cubes_entries cubes_legal cubes_settled m)

-- neither x^3 nor y^3 divides x^2*y
undivided : (l : List ℕ) → Contains ((3 ∷ 0 ∷ []) ∷ (0 ∷ 3 ∷ []) ∷ []) l → Divides l (2 ∷ 1 ∷ []) → ⊥
undivided l (zero, b, g) d = let h = subst (λ x. Divides x (2 ∷ 1 ∷ [])) (sym g) d in go h.0 h.1 h.2
  where
    go : (k : List ℕ) → length k ≡ 2 → (2 ∷ 1 ∷ []) ≡ mono_times (3 ∷ 0 ∷ []) k → ⊥
    go [] e f = absurd (omega (arith, e))
    go (x ∷ k) e f = let z : 2 ≡ 3 + x = ap (λ m. get_or m 0 0) f in omega (arith, z)
undivided l (suc zero, b, g) d = let h = subst (λ x. Divides x (2 ∷ 1 ∷ [])) (sym g) d in go h.0 h.1 h.2
  where
    go : (k : List ℕ) → length k ≡ 2 → (2 ∷ 1 ∷ []) ≡ mono_times (0 ∷ 3 ∷ []) k → ⊥
    go [] e f = absurd (omega (arith, e))
    go (x ∷ []) e f = absurd (omega (arith, e))
    go (x ∷ y ∷ k) e f = let z : 1 ≡ 3 + y = ap (λ m. get_or m 1 0) f in omega (arith, z)
undivided l (suc (suc k), b, g) d = absurd (omega (arith, b))

-- x^3 is a lead
cube_is_lead : IsLeadOfIdeal cubes_problem (3 ∷ 0 ∷ [])
cube_is_lead = (cubes_criterion (3 ∷ 0 ∷ []) refl (lit≤ tt)).1 (3 ∷ 0 ∷ [], (0, lit< tt, refl), (0 ∷ 0 ∷ [], refl, refl))

-- the first monomial of degree 3 that the ideal lacks is x^2*y
pub cubes_first_missing : IsFirstMissing cubes_problem (2 ∷ 1 ∷ [])
cubes_first_missing = record {
  in_ring = refl;
  top = refl;
  missing = λ h. let x = (cubes_criterion (2 ∷ 1 ∷ []) refl (lit≤ tt)).0 h in undivided x.0 x.1 x.2;
  first = first;
}
  where
    first : (k : List ℕ) → length k ≡ 2 → degree k ≡ 3 → IsAbove k (2 ∷ 1 ∷ []) → IsLeadOfIdeal cubes_problem k
    first [] l d a = absurd (omega arith)
    first (e ∷ []) l d a = absurd (omega arith)
    first (e ∷ f ∷ g ∷ k) l d a = absurd (omega arith)
    first (e ∷ f ∷ []) l d (inl low) = absurd (let n : e + (f + 0) < 3 = low in omega arith)
    first (e ∷ f ∷ []) l d (inr (s, inl (inl h))) = absurd h
    first (e ∷ f ∷ []) l d (inr (s, inl (inr h))) = subst (IsLeadOfIdeal cubes_problem) (pairs (omega (arith, h.1)) (omega (arith, d, h.1))) cube_is_lead
      where
        pairs : 0 ≡ f → 3 ≡ e → (3 ∷ 0 ∷ []) ≡ (e ∷ f ∷ [])
        pairs a b = cc
    first (e ∷ f ∷ []) l d (inr (s, inr h)) = absurd (let n : e < 2 = h.1 in let q : f ≡ 1 = ap (λ m. get_or m 0 0) h.0 in omega (arith, d, n, q))

-- ---- an entry is lacking
-- x^3 alone is legal
alone : Legal cubes_problem (cubes_first ∷ [])
unfolding computes
alone zero l = record {
  item = lit< tt;
  ends = record { some = lit< tt; before = λ j l m. absurd (omega (arith, l, m)); last_end = refl };
  orderly = (lit≤ tt, lit≤ tt, lit≤ tt);
  knows = refl;
  corners = (lit≤ tt, lit≤ tt, tt);
  terms = refl;
}
alone (suc i) l = absurd (omega (arith, l))

-- plain division by it leaves y^3
y_left : (remainder_by cubes_problem (cubes_first ∷ []) (vector_of cubes_problem (written 1 0 3 ∷ []))) 9 % 32003 ≡ 1
unfolding computes
y_left = refl

-- y^3 has the rank 9
nine_below : 9 < (numbering_of cubes_problem).count
unfolding computes
nine_below = lit< tt

-- so the ticket of y^3 isn't settled
pub cubes_unsettled : AllSettled cubes_problem (cubes_first ∷ []) → ⊥
unfolding ranks_of_problem
cubes_unsettled settled =
    let one : ℕ = 1 in
    let gone : one ≡ 0 = sym y_left ∙ ((nothing_left cubes_problem cubes_admissible (cubes_first ∷ []) alone settled (written 1 0 3 ∷ [])
    (IsInIdeal-generator cubes_problem (written 1 0 3 ∷ []) ((refl, tt), ((refl, tt), tt)) (1, lit< tt, refl))).at 9 nine_below).eq in omega (arith, gone)
