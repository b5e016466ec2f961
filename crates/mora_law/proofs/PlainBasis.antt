-- The members of the basis that plain division makes: each is in the ideal, monic, with no other term whose monomial is a lead.
-- What division takes away is a combination of entries, and no multiple of a lead is left.
use Rattle.std.proofs.Common.{ℕ, suc, ◌+◌, ◌*◌, ◌-◌, ◌<◌, ◌≤◌, ◌≡◌, List, cond, Some, ap, subst, arith, ◌⊎◌, inl, inr}
use Rattle.std.proofs.lemmas.Bool.{cases_lt, ne_eqb}
use Rattle.rank_algebra.specs.Ranks.{Ranks, IsRanks}
use Rattle.entry_code.specs.Entry.{Entry}
use Rattle.rank_algebra.specs.Vector.{Same, Vector, nothing, Agree, less, monomial}
use Rattle.rank_algebra.specs.Combination.{IsSpace}
use Rattle.rank_algebra.specs.Division.{Basis, remainder, IsMonic, IsCover, corner_of}
use Rattle.rank_algebra.specs.Ideal.{InSpan, IsLeadOfSpan, Generators}
use Rattle.mora_law.specs.Basis.{tidied}
use Rattle.mora_law.specs.Lead.{lead}
use Rattle.mora_law.specs.Entries.{basis_of}
use Rattle.mora_law.specs.Legal.{AreLegal}
use Rattle.rank_algebra.proofs.Residues.{same_of, same_sym, same_trans, same_add, same_times, same_less}
use Rattle.rank_algebra.proofs.Echelon.{monomial_low, monomial_one, less_in}
use Rattle.rank_algebra.proofs.Corner.{corner_is}
use Rattle.rank_algebra.proofs.Remainder.{away, remainder_low, remainder_clean, remainder_diff}
use Rattle.mora_law.proofs.Criteria.{AllSettledByRank}
use Rattle.mora_law.proofs.Choice.{lead_some, lead_is}
use Rattle.mora_law.proofs.Terms.{one_is}
use Rattle.mora_law.proofs.Legal.{legal_monic, entry_lead, entries_in, in_space, in_closed, in_gens}
use Rattle.mora_law.proofs.Buchberger.{only_multiples}

module _ (R : Ranks) (L : IsRanks R) (G : Generators) (entries : List Entry) (legal : AreLegal R G entries) (settled : AllSettledByRank R G entries) where
  -- the entries as vectors, with their leads
  abbrev B : Basis
  B = basis_of entries

  -- they are monic
  M : IsMonic R B
  M = legal_monic R L G entries legal

  -- their corner covers
  C : IsCover R B (corner_of R B)
  C = corner_is R L B

  -- the other terms of entry k
  abbrev others : ℕ → Vector
  others k = less R 1 (monomial (B.lead k)) (B.member k)

  -- the other terms of an entry come after its lead
  others_low : (k : ℕ) → k < B.size → Agree R (suc (B.lead k)) (others k) nothing
  others_low k l = record { at = λ x o. go x o (cases_lt x (B.lead k)) }
    where
      go : (x : ℕ) → x < suc (B.lead k) → (x < B.lead k) ⊎ (B.lead k ≤ x) → Same R.p (others k x) 0
      go x o (inl m) = same_trans (same_add ((M.lowest k l).at x m) (same_times ((R.p - 1) * 1) ((monomial_low R (B.lead k)).at x m))) (same_of _ _ _ (omega arith))
      go x o (inr m) = let z : B.lead k ≡ x = omega arith in subst (λ y. Same R.p (others k y) 0) z
          (same_trans (same_add (M.one k l) (same_of _ _ _ (ap (λ y. (R.p - 1) * 1 * y) (monomial_one (B.lead k))))) (same_trans (same_of _ _ _ (omega arith)) (same_less R.p 1 L.prime_pos)))

  -- so does their remainder
  left_low : (k : ℕ) (l : k < B.size) → Agree R (suc (B.lead k)) (remainder R B (corner_of R B) (others k)) nothing
  left_low k l = remainder_low R L B M (corner_of R B) C (corner_of R B) 0 (suc (B.lead k)) (others k) (M.small k l) (omega (arith, C.within)) (others_low k l)

  -- the member is in the ideal
  pub tidied_in : (k : ℕ) → k < B.size → InSpan R G (tidied R B k)
  tidied_in k l = space.alike _ _ (record { at = λ r m. back (B.member k r) (monomial (B.lead k) r) (remainder R B (corner_of R B) (others k) r) })
      (less_in R (InSpan R G) space 1 _ _ (remainder_diff R L B M (corner_of R B) C (InSpan R G) space (λ t n. in_closed R L G entries legal t.mono _ (members t.place n)) (corner_of R B) 0 (others k) (omega arith)) (members k l))
    where
      space : IsSpace R (InSpan R G)
      space = in_space R L G entries legal

      members : (j : ℕ) → j < B.size → InSpan R G (B.member j)
      members = entries_in R L G entries legal (InSpan R G) space (in_closed R L G entries legal) (in_gens R L G entries legal)

      back : (x y z : ℕ) → Same R.p (y + z) (x + (R.p - 1) * 1 * (x + (R.p - 1) * 1 * y + (R.p - 1) * 1 * z))
      back x y z = same_sym (same_trans (same_of _ _ (x + (R.p - 1) * x + (R.p - 1) * ((R.p - 1) * (y + z))) (omega arith)) (away R.p x (y + z) L.prime_pos))

  -- no term but the lead has a monomial with Lead
  pub tidied_tail : (k : ℕ) → k < B.size → (r : ℕ) → (r ≡ B.lead k → ⊥) → IsLeadOfSpan R G r → Same R.p (tidied R B k r) 0
  tidied_tail k l r n h = same_trans (same_add (same_of _ _ _ (ap (λ b. cond b 1 0) (ne_eqb r (B.lead k) n)))
      (remainder_clean R L B M (corner_of R B) C (corner_of R B) 0 r (others k) (omega arith) h.is.small (only_multiples R L G entries legal settled r h) (λ m. absurd (omega (arith, m)))))
      (same_of _ _ _ (omega arith))

  -- its leading coefficient is 1
  pub tidied_one : (k : ℕ) → k < B.size → Same R.p (tidied R B k (B.lead k)) 1
  tidied_one k l = same_trans (same_add (same_of _ _ _ (monomial_one (B.lead k))) ((left_low k l).at (B.lead k) (omega arith))) (same_of _ _ _ (omega arith))

  -- its lead is that of the entry
  pub tidied_lead : (k : ℕ) → k < B.size → lead R (tidied R B k) ≡ Some (B.lead k)
  tidied_lead k l = lead_is R (tidied R B k) (B.lead k) (record {
    small = M.small k l;
    low = record { at = λ x m. same_trans (same_add ((monomial_low R (B.lead k)).at x m) ((left_low k l).at x (omega arith))) (same_of _ _ _ (omega arith)) };
    some = λ z. one_is R L _ _ (lead_some R _ _ (entry_lead R L G entries legal k l).is) (same_trans (same_sym one) z);
  })
    where
      one : Same R.p (tidied R B k (B.lead k)) 1
      one = same_trans (same_add (same_of _ _ _ (monomial_one (B.lead k))) ((left_low k l).at (B.lead k) (omega arith))) (same_of _ _ _ (omega arith))
