-- The ideal of a problem and its leads by rank: what holds of any numbering, said of the problem's own.
-- Each fact is that of Ideal or Multiples at the numbering of the problem.
use Rattle.std.proofs.Common.{◌≡◌, ℕ, ◌%◌, ◌≤◌, ◌↔◌, List, length}
use Rattle.prime_field.specs.Inverse.{inverse}
use Rattle.local_order.specs.Mono.{degree}
use Rattle.sparse_poly.specs.Poly.{Poly, coef, IsIn, term_times}
use Rattle.sparse_poly.specs.Ideal.{Problem, IsInIdeal, IsLeadOfIdeal}
use Rattle.sparse_poly.proofs.Member.{AllIn}
use Rattle.sparse_poly.proofs.Closure.{AllIn-from_All}
use Rattle.rank_algebra.specs.Vector.{scale, shift, Agree}
use Rattle.mora_law.specs.Ring.{numbering_of, ranks_of_problem, IsAdmissible, vector_of, generators_of}
use Rattle.rank_algebra.specs.Ideal.{InSpan, IsLeadOfSpan}
use Rattle.rank_algebra.proofs.Linear.{agree_of}
use Rattle.mora_law.proofs.Ring.{numbering_is, ranks_are}
use Rattle.mora_law.proofs.Multiples.{term_inside}
use Rattle.mora_law.proofs.Ideal.{agree_by_rank, agree_by_monomial, member_to, member_from, lead_to, lead_from}

module _ (P : Problem) (h : IsAdmissible P) where
  -- the generators are in the variables of the problem
  gens : AllIn P.n P.gens
  gens = AllIn-from_All P.n P.gens h.in_ring

  -- a polynomial is in the ideal exactly where its vector is a combination of the generators
  pub ideal_by_rank : (f : Poly) → IsInIdeal P f ↔ InSpan (ranks_of_problem P) (generators_of P) (vector_of P f)
  unfolding ranks_of_problem
  ideal_by_rank f = (
    member_to P (λ c. inverse P.p (c % P.p)) (numbering_of P) (numbering_is P h.some) (ranks_are P h) gens f,
    member_from P (λ c. inverse P.p (c % P.p)) (numbering_of P) (numbering_is P h.some) (ranks_are P h) gens f,
  )

  -- the leads of the ideal are those of the combinations
  pub lead_by_rank : (m : List ℕ) → length m ≡ P.n → degree m ≤ P.d →
      IsLeadOfIdeal P m ↔ IsLeadOfSpan (ranks_of_problem P) (generators_of P) ((numbering_of P).rank m)
  unfolding ranks_of_problem
  lead_by_rank m e l = (
    lead_to P (λ c. inverse P.p (c % P.p)) (numbering_of P) (numbering_is P h.some) (ranks_are P h) gens m e l,
    lead_from P (λ c. inverse P.p (c % P.p)) (numbering_of P) (numbering_is P h.some) (ranks_are P h) gens m e l,
  )

  -- polynomials agree up to degree d exactly where their vectors do
  pub same_by_rank : (f g : Poly) → Agree (ranks_of_problem P) (numbering_of P).count (vector_of P f) (vector_of P g) ↔
      ((m : List ℕ) → length m ≡ P.n → degree m ≤ P.d → coef P.p f m ≡ coef P.p g m)
  unfolding ranks_of_problem
  same_by_rank f g = (
    agree_by_monomial P (λ c. inverse P.p (c % P.p)) (numbering_of P) (numbering_is P h.some) (ranks_are P h) gens f g,
    agree_by_rank P (λ c. inverse P.p (c % P.p)) (numbering_of P) (numbering_is P h.some) (ranks_are P h) gens f g,
  )

  -- within degree d the product with a term is a multiple of a shift
  pub term_by_rank : (c : ℕ) (a : List ℕ) (f : Poly) → length a ≡ P.n → degree a ≤ P.d → IsIn P.n f →
      Agree (ranks_of_problem P) (numbering_of P).count (vector_of P (term_times c a f)) (scale c (shift (ranks_of_problem P) ((numbering_of P).rank a) (vector_of P f)))
  unfolding ranks_of_problem
  term_by_rank c a f e low i =
      agree_of (ranks_of_problem P) (numbering_of P).count _ _ (λ r l. term_inside P.p P.n P.d (λ x. inverse P.p (x % P.p)) (numbering_of P) (numbering_is P h.some) c a f e low i r l)
