-- The terms of legal entries have rising ranks, and so their leads are ranks.
-- A legal entry has all terms of one vector by rank, and there are no more legal entries than ranks.
use Rattle.std.proofs.Common.{◌≡◌, ℕ, ◌%◌, ◌<◌, ◌≤◌, List, [], ◌∷◌, length, get_or, All, sym, subst, arith}
use Rattle.std.proofs.Math.Nat
use Rattle.std.proofs.lemmas.List.{get_or-map, length-map}
use Rattle.std.proofs.lemmas.List.Elements.{All-from_get_or}
use Rattle.local_order.specs.Shape.{Shape, count}
use Rattle.sparse_poly.specs.Shape.{shape_of}
use Rattle.sparse_poly.specs.Ideal.{Problem, IsProblem}
use Rattle.entry_code.specs.declared.term.Term.{Term}
use Rattle.entry_code.specs.Entry.{Entry, no_entry, entry_at}
use Rattle.rank_algebra.specs.Vector.{Same}
use Rattle.mora_law.specs.Ring.{ranks_of_problem, IsAdmissible, generators_of}
use Rattle.mora_law.proofs.Ring.{ranks_are, problem_is_admissible}
use Rattle.mora_law.specs.Entries.{lead_rank, basis_of, AreMonic}
use Rattle.entry_code.specs.Terms.{vector_of_terms}
use Rattle.mora_law.specs.Legal.{Legal}
use Rattle.mora_law.proofs.Existence.{few_entries}
use Rattle.mora_law.proofs.Problems.{monic}
use Rattle.tail_reduce.specs.Terms.{HaveTerms}
use Rattle.tail_reduce.specs.Divisors.{leads_of, AreLeadsOf}
use Rattle.tail_reduce.proofs.Ranked.{ranks_n}
use Rattle.tail_reduce.proofs.Falling.{AreFalling, rising, residues, falling_terms}

-- a vector with a term has terms
some_terms : (p r : ℕ) (ts : List Term) → 2 ≤ p → Same p (vector_of_terms ts r) 1 → 0 < length ts
some_terms p r [] two h = absurd (let e : 0 % p ≡ 1 % p = h.eq in let zero_is : 0 % p ≡ 0 = Nat.zero-mod p in let one_is : 1 % p ≡ 1 = Nat.mod-eq_of_lt two in omega (arith, e, zero_is, one_is))
some_terms p r (t ∷ ts) two h = omega arith

module _ (P : Problem) (problem : IsProblem P) (entries : List Entry) (legal : Legal P entries) where
  -- the problem is one that the laws speak of
  A : IsAdmissible P
  A = problem_is_admissible P problem

  -- legal entries are monic
  M : AreMonic P entries
  M = monic P A entries legal

  -- legal entries have terms in falling order
  falling : (k : ℕ) → k < length entries → AreFalling P.p (count (shape_of P)) 0 (entry_at entries k).terms
  falling k l = subst (AreFalling P.p (count (shape_of P)) 0) (sym (legal k l).terms) (falling_terms P _ A)

  -- so they have terms with rising ranks
  pub legal_terms : HaveTerms P entries
  unfolding ranks_of_problem
  legal_terms = record {
    each = λ k l. record {
      some = some_terms P.p _ (entry_at entries k).terms A.prime.two_up (M.one k l);
      ranks = rising P.p (count (shape_of P)) (entry_at entries k).terms (falling k l);
      residues = residues P.p (count (shape_of P)) (entry_at entries k).terms (falling k l);
    };
  }

  -- their leads are ranks
  pub leads_small : All (λ l. l < count (shape_of P)) (leads_of entries)
  leads_small = All-from_get_or (λ l. l < count (shape_of P)) (leads_of entries) 0 (λ k l.
      let within : k < length entries = omega (arith, l, length-map entries (λ (e : Entry). lead_rank e.terms)) in
      let small = M.small k within in
      let at : get_or (leads_of entries) k 0 ≡ (basis_of entries).lead k = get_or-map (λ e. lead_rank e.terms) entries k no_entry 0 within in
      omega (arith, at, small, ranks_n P))

  -- there are few
  pub leads_few : length (leads_of entries) ≤ 4096
  leads_few = omega (arith, length-map entries (λ (e : Entry). lead_rank e.terms), few_entries (ranks_of_problem P) (ranks_are P A) (generators_of P) entries legal, ranks_n P, problem.monomials)

-- the ranks of the leads, as they are kept, are the leads of the entries
pub leads_are : (P : Problem) (entries : List Entry) (table : Shape) (leads : List ℕ) → table ≡ shape_of P → leads ≡ leads_of entries → AreLeadsOf P (basis_of entries) table leads
leads_are P entries table leads e kept = subst (AreLeadsOf P (basis_of entries) table) (sym kept) (record {
  table_is = e;
  size = sym (length-map entries (λ x. lead_rank x.terms));
  lead = λ k l. sym (get_or-map (λ x. lead_rank x.terms) entries k no_entry 0 (omega (arith, l, length-map entries (λ (x : Entry). lead_rank x.terms))));
})

-- and they are ranks of the table
pub leads_low : (P : Problem) (entries : List Entry) (table : Shape) (leads : List ℕ) → IsProblem P → Legal P entries → table ≡ shape_of P → leads ≡ leads_of entries →
    All (λ l. l < count table) leads
leads_low P entries table leads problem legal e kept =
    subst (All (λ l. l < count table)) (sym kept)
    (subst (λ (t : Shape). All (λ l. l < count t) (leads_of entries)) (sym e) (leads_small P problem entries legal))
